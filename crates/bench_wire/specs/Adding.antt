-- What entries make of a bench.
use Rattle.std.specs.Prelude.{◌≡◌, ℕ, ◌+◌, ◌-◌, Bool, true, false, IsTrue, List, [], ◌∷◌, ◌++◌, count_by, Option}
use Rattle.ec_model.specs.declared.event.Event.{Event}
use Rattle.ec_model.specs.declared.event.Event.TheVariants as event
use Rattle.ec_model.specs.declared.event.WorldEvent.{WorldEvent}
use Rattle.ec_model.specs.declared.event.WorldEvent.TheVariants.{Reset, Power, Pin, Byte}
use Rattle.ec_model.specs.declared.event.Entry.{Entry}
use Rattle.ec_model.specs.declared.event.Entry.TheVariants.{Step, Mark}
use Rattle.flash_dev.specs.declared.hurt.Hurt.{Hurt}
use Rattle.flash_dev.specs.declared.hurt.Hurt.TheVariants.{Cut}
use Rattle.ec_model.specs.HostCalls.{on_after}
use Rattle.ec_model.specs.Upset.{is_cut_entry}
use Rattle.flash_dev.specs.Told.{Changes}
use Rattle.ec_model.specs.Table.{Table}
use Rattle.ec_model.specs.Bench.{Bench, BenchCall, Happens as HappensNow}
use Rattle.ec_model.specs.Played.{Played, PlayedAll}
use Rattle.ec_wire.specs.Calls.{WireView, RunsAlong, RoseBy, ArePowerless, bench_of, is_failed_entry}

-- calls on the bench, whatever they are, added the entries
pub record IsPlayedBy (added : List Entry) (old new : Bench) : Type 0 where
  pub calls : List BenchCall
  pub played : PlayedAll old calls added new

-- the same of the benches behind a wire, where its tables are told
abbrev pub PlaysBy : List Entry → WireView → WireView → Option Table → Option Table → Type 0
PlaysBy added old new before after =
    Changes (λ first last. IsPlayedBy added (bench_of old first) (bench_of new last)) before after

-- These entries were added, whatever they are: the controller's states are joined by a run along them, calls on the bench
-- are played along them, and each failed and each cut entry raised its count.
pub record Extends (added : List Entry) (old new : WireView) : Type 0 where
  pub entries : new.entries ≡ old.entries ++ added
  pub on : new.on ≡ on_after added old.on
  pub bus : new.bus ≡ old.bus
  pub powerless : ArePowerless old.on added
  pub faults : RoseBy (count_by is_failed_entry added) old.faults new.faults
  pub cuts : RoseBy (count_by is_cut_entry added) old.cuts new.cuts
  pub run : RunsAlong added old.table new.table
  pub played : PlaysBy added old new old.table new.table

-- one entry was added, which took one off the room and brought no armed event nearer
pub record Adds (entry : Entry) (old new : WireView) : Type 0 where
  pub extends : Extends (entry ∷ []) old new
  pub room : new.spare + 1 ≡ old.spare
  pub armed : new.armed ≡ old.armed

-- the mark of a line was added, which took one off the room; nothing else changed
abbrev pub IsMarked : ℕ → WireView → WireView → Type 0
IsMarked line old new = new ≡ record old { entries = old.entries ++ Mark line ∷ []; spare = old.spare - 1 }

-- whether an event of the world is a changed byte, which happens to an access and is no event of its own
abbrev pub is_byte : WorldEvent → Bool
is_byte (Byte byte) = true
is_byte other = false

-- an event of the world is this event of the controller
abbrev pub IsEvent : WorldEvent → Event → Type 0
IsEvent (Reset cause) happened = happened ≡ event.Reset cause
IsEvent (Power on) happened = happened ≡ event.Power on
IsEvent (Pin on) happened = happened ≡ event.Pin on
IsEvent (Byte byte) happened = ⊥

-- an event of the world happened: it has an entry of its own, whose bytes are 0, and is played; only a controller that is on
-- loses power
pub record Happens (happened : WorldEvent) (old new : WireView) : Type 0 where
  pub event : Event
  pub is_event : IsEvent happened event
  pub hurt : Hurt
  pub alive : hurt ≡ Cut → IsTrue old.on
  pub adds : Adds (Step event 0 0 0 hurt) old new
  pub played : Changes (λ before after. Played (bench_of old before) (HappensNow happened) (Step event 0 0 0 hurt ∷ []) (bench_of new after)) old.table new.table
