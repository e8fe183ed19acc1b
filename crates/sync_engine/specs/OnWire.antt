-- A part of a sync on a wire, and a whole one.
use Rattle.std.specs.Prelude.{ℕ, ◌≤◌, Bool, List, Result}
use Rattle.ec_model.specs.declared.event.Entry.{Entry}
use Rattle.ec_model.specs.Asks.{Setting}
use Rattle.ec_model.specs.HostCalls.{HostView}
use Rattle.ec_wire.specs.Calls.{WireView, Grows, with_spare}
use Rattle.host_transport.specs.Asking.{OnWire, host_view}
use Rattle.sync_rules.specs.declared.ending.Stop.{Stop}
use Rattle.sync_rules.specs.declared.ending.SyncEnd.{SyncEnd}
use Rattle.sync_rules.specs.Syncing.{SyncRound, Syncs}

-- the entries that were added are this part, which gave this
abbrev pub Does : {A : Type 0} → (Setting → HostView → List Entry → Result A Stop → Type 0) → ℕ → Result A Stop → WireView → WireView → Type 0
Does part floor told old new = OnWire (λ setting view added. part setting view added told) floor old new

-- the entries that were added are one round
abbrev pub RoundsOn : List ℕ → ℕ → (wrote : Bool) → Result (Unit {0}) Stop → WireView → WireView → Type 0
RoundsOn image floor wrote told old new = OnWire (λ setting view added. SyncRound setting image view added wrote told) floor old new

-- the entries that were added are a sync
pub record SyncsOn (image : List ℕ) (end : SyncEnd) (old new : WireView) : Type 0 where
  pub added : List Entry
  pub grows : Grows added old new
  pub syncs : Syncs old.bus image (host_view old) added end

-- room was made, for three rounds at least, and the entries that were added are a sync
pub record SyncsInRoom (image : List ℕ) (end : SyncEnd) (old new : WireView) : Type 0 where
  pub spare : ℕ
  pub more : old.spare ≤ spare
  pub enough : 12000000 ≤ spare
  pub synced : SyncsOn image end (with_spare spare old) new
