-- The quiet and the waits on a wire.
use Rattle.std.proofs.Common.{◌≡◌, refl, subst, ℕ, ◌+◌, List, [], ◌∷◌, replicate, Ok, arith}
use Rattle.std.proofs.lemmas.List.{replicate-append-replicate}
use Rattle.ec_model.specs.HostCalls.{HostCall, Waited}
use Rattle.ec_wire.specs.Calls.{WireView, Made, WaitAdds}
use Rattle.ec_wire.proofs.Growth.{made-then, made-wait, made-room}
use Rattle.host_framing.specs.Parts.{Quiets as QuietsOn}
use Rattle.sync_rules.specs.Parts.{Quiets, Pauses}
use Rattle.sync_engine.specs.OnWire.{Does}

-- the bus was brought to rest
pub rested : (floor : ℕ) (old new : WireView) → QuietsOn old.bus old new → Does Quiets floor (Ok tt) old new
rested floor old new quiets = record { added = quiets.added; grows = quiets.grows; part = (quiets.quiet, refl) }

-- waits, as a part
pub paused : (count floor : ℕ) (old new : WireView) → Made (replicate count Waited) old new → Does (λ setting. Pauses count) floor (Ok tt) old new
paused count floor old new made = record {
  added = made.added;
  grows = made.grows;
  part = record { calls = made.grows.calls; waited = made.calls_are; told_is = refl };
}

-- one more wait
pub waited-more : (count : ℕ) (old middle new : WireView) → Made (replicate count Waited) old middle → WaitAdds middle new → Made (replicate (count + 1) Waited) old new
waited-more count old middle new made adds =
    subst (λ (calls : List HostCall). Made calls old new) (replicate-append-replicate count 1 Waited) (made-then (replicate count Waited) (Waited ∷ []) old middle new made (made-wait middle new adds))

-- and the room that it took
pub waited-room : (count total : ℕ) (middle new : WireView) → middle.spare + count ≡ total → WaitAdds middle new → new.spare + (count + 1) ≡ total
waited-room count total middle new is adds = omega (arith, is, made-room (Waited ∷ []) middle new (made-wait middle new adds))
