-- What an event of the world, or the mark of a line, adds to the bench, whatever is armed.
use Rattle.std.proofs.Common.{◌≡◌, refl, ap, ◌∙◌, ℕ, ◌+◌, ◌-◌, List, [], ◌∷◌, ◌++◌, Option, Some, None, arith}
use Rattle.ec_types.specs.declared.bus.BusKind.{BusKind}
use Rattle.flash_dev.specs.Told.{Changes}
use Rattle.flash_dev.specs.declared.hurt.Hurt.{Hurt}
use Rattle.ec_model.specs.declared.event.Event.{Event}
use Rattle.ec_model.specs.declared.event.WorldEvent.{WorldEvent}
use Rattle.ec_model.specs.declared.event.WorldEvent.TheVariants.{Reset, Power, Pin, Byte}
use Rattle.ec_model.specs.declared.event.Entry.{Entry}
use Rattle.ec_model.specs.declared.event.Entry.TheVariants.{Step, Mark}
use Rattle.ec_model.specs.Upset.{event_byte}
use Rattle.ec_model.specs.Table.{Table}
use Rattle.ec_model.specs.Bench.{Armed, Bench, BenchCall, Happens as HappensNow, Marks, events_among}
use Rattle.ec_model.specs.Played.{Played}
use Rattle.ec_model.proofs.PlayRuns.{calls-run}
use Rattle.ec_core.specs.View.{EcView}
use Rattle.ec_wire.specs.Calls.{WireView, RunsAlong, bench_of}
use Rattle.bench_wire.specs.BenchView.{wire_view}
use Rattle.bench_wire.specs.Adding.{IsPlayedBy, PlaysBy, Adds, IsMarked, IsEvent, Happens}
use Rattle.bench_wire.specs.Falling.{EventsTold, Steps}
use Rattle.bench_wire.proofs.Falling.{steps-bare, told-one}

-- one call on the bench
one-played : (call : BenchCall) (entry : Entry) (old new : Bench) → Played old call (entry ∷ []) new → IsPlayedBy (entry ∷ []) old new
one-played call entry old new played = record { calls = call ∷ []; played = (entry ∷ [], [], new, refl, played, (refl, refl)) }

-- calls that are played are a run
run-by : (added : List Entry) (old new : WireView) (o p : Option Table) → PlaysBy added old new o p → RunsAlong added o p
run-by added old new None None played = tt
run-by added old new None (Some b) played = played
run-by added old new (Some a) None played = played
run-by added old new (Some a) (Some b) played = calls-run (bench_of old a) played.calls added (bench_of new b) played.played

-- an event of the world has the entry of its call
event-called : (happened : WorldEvent) (event : Event) (entry : Entry) (old new : WireView) (o p : Option Table) → events_among (happened ∷ []) ≡ event ∷ []
    → EventsTold (event ∷ []) (entry ∷ []) old new o p → Changes (λ before after. Played (bench_of old before) (HappensNow happened) (entry ∷ []) (bench_of new after)) o p
event-called happened event entry old new None None is told = tt
event-called happened event entry old new None (Some b) is told = told
event-called happened event entry old new (Some a) None is told = told
event-called happened event entry old new (Some a) (Some b) is told = rw is told

event-played : (happened : WorldEvent) (entry : Entry) (old new : WireView) (o p : Option Table) → Changes (λ before after. Played (bench_of old before) (HappensNow happened) (entry ∷ []) (bench_of new after)) o p
    → PlaysBy (entry ∷ []) old new o p
event-played happened entry old new None None called = tt
event-played happened entry old new None (Some b) called = called
event-played happened entry old new (Some a) None called = called
event-played happened entry old new (Some a) (Some b) called = one-played (HappensNow happened) entry (bench_of old a) (bench_of new b) called

-- an event among those that fall is the controller's
is-event : (happened : WorldEvent) (event : Event) → events_among (happened ∷ []) ≡ event ∷ [] → IsEvent happened event
is-event (Reset cause) event is = cc
is-event (Power on) event is = cc
is-event (Pin on) event is = cc
is-event (Byte byte) event is = cc

-- the step of an event of the world
pub happens-by : (happened : WorldEvent) (event : Event) (answer : ℕ) (hurt : Hurt) (old new : WireView) → events_among (happened ∷ []) ≡ event ∷ []
    → Steps event answer (event_byte event) answer hurt old new → Happens happened old new
happens-by happened event answer hurt old new is steps =
    let bare = steps-bare happened event answer hurt old new is steps in
    let called = event-called happened event (Step event 0 0 0 hurt) old new old.table new.table is (told-one event hurt old new old.table new.table bare.plays) in
    let played = event-played happened (Step event 0 0 0 hurt) old new old.table new.table called in
    record {
      event = event;
      is_event = is-event happened event is;
      hurt = hurt;
      alive = bare.alive;
      adds = record {
        extends = record {
          entries = bare.entries;
          on = bare.on;
          bus = bare.bus;
          powerless = (bare.powerless, tt);
          faults = bare.faults;
          cuts = bare.cuts;
          run = run-by (Step event 0 0 0 hurt ∷ []) old new old.table new.table played;
          played = played;
        };
        room = bare.room;
        armed = bare.armed;
      };
      played = called;
    }

-- a mark has the entry of its call
mark-played : (line : ℕ) (old new : WireView) (o : Option Table) → ((table : Table) → bench_of new table ≡ bench_of old table) → PlaysBy (Mark line ∷ []) old new o o
mark-played line old new None same = tt
mark-played line old new (Some table) same = one-played (Marks line) (Mark line) (bench_of old table) (bench_of new table) (refl, same table)

-- the mark of a line
pub adds-mark : (bus : BusKind) (line : ℕ) (controller : EcView) (armed : List Armed) (entries now : List Entry) (spare left : ℕ) → now ≡ entries ++ Mark line ∷ [] → left + 1 ≡ spare
    → Adds (Mark line) (wire_view bus (record { entries = entries; spare = spare; armed = armed; controller = controller })) (wire_view bus (record { entries = now; spare = left; armed = armed; controller = controller }))
adds-mark bus line controller armed entries now spare left added taken =
    let old : WireView = wire_view bus (record { entries = entries; spare = spare; armed = armed; controller = controller }) in
    let new : WireView = wire_view bus (record { entries = now; spare = left; armed = armed; controller = controller }) in
    let played : PlaysBy (Mark line ∷ []) old new controller.table controller.table = mark-played line old new controller.table (λ table. refl) in
    record {
      extends = record {
        entries = added;
        on = refl;
        bus = refl;
        powerless = (tt, tt);
        faults = record { later = omega arith; risen = omega arith };
        cuts = record { later = omega arith; risen = omega arith };
        run = run-by (Mark line ∷ []) old new controller.table controller.table played;
        played = played;
      };
      room = taken;
      armed = refl;
    }

-- it changes nothing but the entries and the room
pub is-marked : (bus : BusKind) (line : ℕ) (controller : EcView) (armed : List Armed) (entries now : List Entry) (spare left : ℕ) → now ≡ entries ++ Mark line ∷ [] → left + 1 ≡ spare
    → IsMarked line (wire_view bus (record { entries = entries; spare = spare; armed = armed; controller = controller })) (wire_view bus (record { entries = now; spare = left; armed = armed; controller = controller }))
is-marked bus line controller armed entries now spare left added taken =
    let less : left ≡ spare - 1 = omega (arith, taken) in
    ap (λ (list : List Entry). wire_view bus (record { entries = list; spare = left; armed = armed; controller = controller })) added
    ∙ ap (λ (n : ℕ). wire_view bus (record { entries = entries ++ Mark line ∷ []; spare = n; armed = armed; controller = controller })) less
