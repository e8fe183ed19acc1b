-- What the steps of a bench add one by one, and what the events that are due add before an access or a wait.
use Rattle.std.specs.Prelude.{◌≡◌, ℕ, ◌+◌, IsTrue, List, [], ◌∷◌, ◌++◌, length, count_by, Option}
use Rattle.std.specs.List.{list_all}
use Rattle.flash_dev.specs.Told.{Changes}
use Rattle.flash_dev.specs.declared.hurt.Hurt.{Hurt}
use Rattle.flash_dev.specs.declared.hurt.Hurt.TheVariants.{Cut}
use Rattle.ec_model.specs.declared.event.Event.{Event}
use Rattle.ec_model.specs.declared.event.WorldEvent.{WorldEvent}
use Rattle.ec_model.specs.declared.event.Entry.{Entry}
use Rattle.ec_model.specs.declared.event.Entry.TheVariants.{Step}
use Rattle.ec_model.specs.HostCalls.{on_after, on_after_entry}
use Rattle.ec_model.specs.Upset.{is_world, is_cut_entry}
use Rattle.ec_model.specs.Table.{Table}
use Rattle.ec_model.specs.Bench.{due_events, still_armed, events_among}
use Rattle.ec_model.specs.Played.{PlaysEntry, PlaysEvents}
use Rattle.ec_core.specs.Held.{IsSilent}
use Rattle.ec_wire.specs.Calls.{WireView, RoseBy, IsPowerless, ArePowerless, bench_of, is_failed_entry, is_wire_step}

-- a step is an entry of the benches behind a wire, where its tables are told
abbrev pub EntryTold : Event → (answer meant seen : ℕ) → Hurt → WireView → WireView → Option Table → Option Table → Type 0
EntryTold event answer meant seen hurt old new =
    Changes (λ before after. PlaysEntry (bench_of old before) event answer meant seen hurt (bench_of new after))

-- one step of the controller, and its entry, whatever call it is of
pub record Steps (event : Event) (answer meant seen : ℕ) (hurt : Hurt) (old new : WireView) : Type 0 where
  pub entries : new.entries ≡ old.entries ++ Step event answer meant seen hurt ∷ []
  pub room : new.spare + 1 ≡ old.spare
  pub on : new.on ≡ on_after_entry (Step event answer meant seen hurt) old.on
  pub bus : new.bus ≡ old.bus
  pub armed : new.armed ≡ old.armed
  pub silent : IsSilent event answer
  pub alive : hurt ≡ Cut → IsTrue old.on
  pub powerless : IsPowerless old.on (Step event answer meant seen hurt)
  pub faults : RoseBy (count_by is_failed_entry (Step event answer meant seen hurt ∷ [])) old.faults new.faults
  pub cuts : RoseBy (count_by is_cut_entry (Step event answer meant seen hurt ∷ [])) old.cuts new.cuts
  pub plays : EntryTold event answer meant seen hurt old new old.table new.table

-- a wire whose armed events came nearer by one access or wait: the room that was kept for those that are due is free
abbrev pub come_nearer : WireView → WireView
come_nearer view =
    record view { spare = view.spare + length (events_among (due_events view.armed)); armed = still_armed view.armed }

-- events of the world are entries of the benches behind a wire, where its tables are told
abbrev pub EventsTold : List Event → List Entry → WireView → WireView → Option Table → Option Table → Type 0
EventsTold events added old new =
    Changes (λ first last. PlaysEvents (bench_of old first) events added (bench_of new last))

-- events of the world fell, in this order: each but a changed byte has an entry, which took one off the room
pub record Falls (events : List WorldEvent) (old new : WireView) : Type 0 where
  pub added : List Entry
  pub entries : new.entries ≡ old.entries ++ added
  pub count : length added ≡ length (events_among events)
  pub room : new.spare + length added ≡ old.spare
  pub on : new.on ≡ on_after added old.on
  pub bus : new.bus ≡ old.bus
  pub armed : new.armed ≡ old.armed
  pub worldly : IsTrue (list_all is_world added)
  pub steps : IsTrue (list_all is_wire_step added)
  pub powerless : ArePowerless old.on added
  pub faults : RoseBy (count_by is_failed_entry added) old.faults new.faults
  pub cuts : RoseBy (count_by is_cut_entry added) old.cuts new.cuts
  pub plays : EventsTold (events_among events) added old new old.table new.table
