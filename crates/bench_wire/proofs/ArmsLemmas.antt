-- Lists of armed events: their room, and what is due among them.
use Rattle.std.proofs.Common.{◌≡◌, ◌≤◌, refl, ℕ, ◌+◌, ◌-◌, Bool, true, false, if◌then◌else◌, nat_le, List, [], ◌∷◌, ◌++◌, length, drop, arith}
use Rattle.ec_model.specs.declared.event.WorldEvent.{WorldEvent}
use Rattle.ec_model.specs.declared.event.WorldEvent.TheVariants.{Reset, Power, Pin, Byte}
use Rattle.ec_model.specs.Bench.{Armed, due_events, still_armed, events_among, has_place, armed_behind}
use Rattle.bench_wire.specs.Arming.{events_of, room_of, room_for}

-- the room for two lists
pub room-append : (armed more : List Armed) → room_for (armed ++ more) ≡ room_for armed + room_for more
room-append [] more = omega arith
room-append (one ∷ armed) more = omega (arith, room-append armed more)

-- an event takes room for one entry at most
pub room-one : (event : WorldEvent) → room_of event ≤ 1
room-one (Reset cause) = omega arith
room-one (Power on) = omega arith
room-one (Pin on) = omega arith
room-one (Byte byte) = omega arith

pub room-le : (armed : List Armed) → room_for armed ≤ length armed
room-le [] = omega arith
room-le (one ∷ armed) = omega (arith, room-one one.event, room-le armed)

-- the room of an event is its entry's
pub among-more : (event : WorldEvent) (events : List WorldEvent) → length (events_among (event ∷ events)) ≡ room_of event + length (events_among events)
among-more (Reset cause) events = omega arith
among-more (Power on) events = omega arith
among-more (Pin on) events = omega arith
among-more (Byte byte) events = omega arith

-- the room is that of what is due and of what is armed behind it
split-more : (due : Bool) (one : Armed) (events : List WorldEvent) (still : List Armed) (room : ℕ) → room ≡ length (events_among events) + room_for still →
    room_of one.event + room
    ≡ length (events_among (if due then one.event ∷ events else events)) + room_for (if due then still else record { left = one.left - 1; event = one.event } ∷ still)
split-more true one events still room same = omega (arith, among-more one.event events, same)
split-more false one events still room same = omega (arith, same)

pub room-split : (armed : List Armed) → room_for armed ≡ length (events_among (due_events armed)) + room_for (still_armed armed)
room-split [] = refl
room-split (one ∷ armed) = split-more (nat_le one.left 1) one (due_events armed) (still_armed armed) (room_for armed) (room-split armed)

-- the room that one more event takes
pub room-behind : (armed : List Armed) (left : ℕ) (event : WorldEvent) → room_for (armed_behind armed left event) ≡ room_for armed + (if has_place armed then room_of event else 0)
room-behind armed left event = behind-by (has_place armed) where
  behind-by : (place : Bool) → room_for (if place then armed ++ record { left = left; event = event } ∷ [] else armed) ≡ room_for armed + (if place then room_of event else 0)
  behind-by true = omega (arith, room-append armed (record { left = left; event = event } ∷ []))
  behind-by false = omega arith

-- so many of the armed events were sorted: what is due, and what stays armed
pub record Sorts (armed : List Armed) (count : ℕ) (due still : List Armed) : Type 0 where
  pub due_is : events_of due ++ due_events (drop count armed) ≡ due_events armed
  pub still_is : still ++ still_armed (drop count armed) ≡ still_armed armed
  pub due_room : length due ≤ count
  pub still_room : length still ≤ count
