-- What arming an event makes of a bench, and what coming nearer makes of what is armed.
use Rattle.std.proofs.Common.{◌≡◌, ◌≤◌, ◌↔◌, refl, sym, ap, ◌∙◌, subst, ℕ, ◌+◌, ◌-◌, Bool, true, false, if◌then◌else◌, List, [], ◌∷◌, Option, Some, None, Result, IsOk, arith}
use Rattle.std.specs.Prelude.{IsTrue, length}
use Rattle.ec_types.specs.declared.bus.BusKind.{BusKind}
use Rattle.ec_model.specs.declared.event.Entry.{Entry}
use Rattle.ec_model.specs.declared.event.WorldEvent.{WorldEvent}
use Rattle.ec_model.specs.Table.{Table}
use Rattle.ec_model.specs.Bench.{Armed, Arms, due_events, still_armed, events_among, has_place, armed_behind}
use Rattle.ec_core.specs.View.{EcView}
use Rattle.ec_wire.specs.Calls.{WireView, bench_of}
use Rattle.bench_wire.specs.declared.arms.ArmsFull.{ArmsFull}
use Rattle.bench_wire.specs.Arming.{IsArmed, room_of, room_for}
use Rattle.bench_wire.specs.Adding.{PlaysBy}
use Rattle.bench_wire.specs.BenchView.{wire_view}
use Rattle.bench_wire.specs.Falling.{come_nearer}
use Rattle.bench_wire.proofs.ArmsLemmas.{room-one, room-split, room-behind}

-- a bench whose journal has so much room, and on which this is armed
abbrev pub wire_with : BusKind → EcView → List Entry → (spare : ℕ) → List Armed → WireView
wire_with bus controller entries spare armed = wire_view bus (record { entries = entries; spare = spare; armed = armed; controller = controller })

-- one more armed event takes room for one entry at most
taken-le : (place : Bool) (event : WorldEvent) → (if place then room_of event else 0) ≤ 1
taken-le true event = room-one event
taken-le false event = omega arith

pub behind-le : (armed : List Armed) (left : ℕ) (event : WorldEvent) (room : ℕ) → 1 ≤ room - room_for armed → room_for (armed_behind armed left event) ≤ room
behind-le armed left event room some = omega (arith, some, room-behind armed left event, taken-le (has_place armed) event)

-- an event was armed or refused
pub is-armed : (bus : BusKind) (controller : EcView) (entries : List Entry) (room left : ℕ) (event : WorldEvent) (result : Result (Unit {0}) ArmsFull) (armed now : List Armed) → (IsOk result ↔ IsTrue (has_place armed)) → now ≡ armed_behind armed left event
    → IsArmed left event result (wire_with bus controller entries (room - room_for armed) armed) (wire_with bus controller entries (room - room_for now) now)
is-armed bus controller entries room left event result armed now taken same =
    let behind = armed_behind armed left event in
    let spare : room - room_for behind ≡ room - room_for armed - (if has_place armed then room_of event else 0) = omega (arith, room-behind armed left event) in
    record {
      taken = taken;
      armed = ap (λ (list : List Armed). wire_with bus controller entries (room - room_for list) list) same ∙ ap (λ (n : ℕ). wire_with bus controller entries n behind) spare;
    }

-- that is a call on the bench, which adds no entry
pub arms-played : (left : ℕ) (event : WorldEvent) (result : Result (Unit {0}) ArmsFull) (old new : WireView) → IsArmed left event result old new → PlaysBy [] old new old.table new.table
arms-played left event result old new is = subst (λ (view : WireView). PlaysBy [] old view old.table view.table) (sym is.armed) (told old.table) where
  after : WireView
  after = record old { armed = armed_behind old.armed left event; spare = old.spare - (if has_place old.armed then room_of event else 0) }

  told : (o : Option Table) → PlaysBy [] old after o o
  told None = tt
  told (Some table) = record { calls = Arms left event (has_place old.armed) ∷ []; played = ([], [], bench_of after table, refl, (refl, refl, refl), (refl, refl)) }

-- what is armed came nearer, and the room that was kept for what is due is free
pub nearer-by : (bus : BusKind) (controller : EcView) (entries : List Entry) (room : ℕ) (armed still : List Armed) → still ≡ still_armed armed → room_for armed ≤ room
    → wire_with bus controller entries (room - room_for still) still ≡ come_nearer (wire_with bus controller entries (room - room_for armed) armed)
nearer-by bus controller entries room armed still same fits =
    let spare : room - room_for (still_armed armed) ≡ room - room_for armed + length (events_among (due_events armed)) = omega (arith, fits, room-split armed) in
    ap (λ (list : List Armed). wire_with bus controller entries (room - room_for list) list) same ∙ ap (λ (n : ℕ). wire_with bus controller entries n (still_armed armed)) spare
