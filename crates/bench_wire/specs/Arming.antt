-- Events of the world that are armed, the room that is kept for their entries, and one more of them.
use Rattle.std.specs.Prelude.{◌≡◌, ◌↔◌, ℕ, ◌+◌, ◌-◌, if◌then◌else◌, IsTrue, List, [], ◌∷◌, map, Result, IsOk}
use Rattle.ec_model.specs.declared.event.WorldEvent.{WorldEvent}
use Rattle.ec_model.specs.declared.event.WorldEvent.TheVariants.{Byte}
use Rattle.ec_model.specs.Bench.{Armed, has_place, armed_behind}
use Rattle.ec_wire.specs.Calls.{WireView}
use Rattle.bench_wire.specs.declared.arms.ArmsFull.{ArmsFull}

-- what the armed events are, whenever they fall
abbrev pub events_of : List Armed → List WorldEvent
events_of armed = map (λ one. one.event) armed

-- how many entries an armed event adds: a changed byte none, since it belongs to an access
abbrev pub room_of : WorldEvent → ℕ
room_of (Byte byte) = 0
room_of other = 1

-- how many entries the armed events will add
abbrev pub room_for : List Armed → ℕ
room_for [] = 0
room_for (armed ∷ more) = room_of armed.event + room_for more

-- an event was armed behind the others, and room was taken for its entry; where 64 are armed, it was refused, and nothing
-- changed
pub record IsArmed (left : ℕ) (event : WorldEvent) (result : Result (Unit {0}) ArmsFull) (old new : WireView) : Type 0 where
  pub taken : IsOk result ↔ IsTrue (has_place old.armed)
  pub armed : new ≡ record old {
    armed = armed_behind old.armed left event;
    spare = old.spare - (if has_place old.armed then room_of event else 0);
  }
