-- A bench: a controller with armed events and an armed cut, and the calls on it.
use Rattle.std.specs.Prelude.{ℕ, ◌-◌, Bool, nat_le, nat_lt, if◌then◌else◌, List, [], ◌∷◌, ◌++◌, length, Option, None}
use Rattle.flash_dev.specs.Counts.{Rose}
use Rattle.ec_model.specs.declared.event.Access.{Access}
use Rattle.ec_model.specs.declared.event.Event.{Event}
use Rattle.ec_model.specs.declared.event.Event.TheVariants as event
use Rattle.ec_model.specs.declared.event.WorldEvent.{WorldEvent}
use Rattle.ec_model.specs.declared.event.WorldEvent.TheVariants.{Reset, Power, Pin, Byte}
use Rattle.ec_model.specs.Table.{Table}
pub use Rattle.flash_dev.specs.Cuts.{ArmedCut, cut_at, cut_after}

-- an armed event: before which access or wait from now it falls, and what it is
pub record Armed : Type 0 where
  pub left : ℕ
  pub event : WorldEvent

-- a controller with what is armed, and what its flash counted of faults and of cuts of its own
pub record Bench : Type 0 where
  pub table : Table
  pub armed : List Armed
  pub cut : Option ArmedCut
  pub faults : ℕ
  pub cuts : ℕ

-- a bench with nothing armed, whose flash counted so much
abbrev pub unarmed : Table → (faults cuts : ℕ) → Bench
unarmed table faults cuts = record { table = table; armed = []; cut = None; faults = faults; cuts = cuts }

-- between two benches the flash counted neither a fault nor a cut of its own
pub record CountsNothing (old new : Bench) : Type 0 where
  pub faults : ¬ Rose old.faults new.faults
  pub cuts : ¬ Rose old.cuts new.cuts

-- a call on the bench: an access or a wait of the host, an event of the world now, the mark of a line, an event that is
-- armed or refused, or a cut that is armed
pub data BenchCall : Type 0 where
  Accesses : Access → BenchCall
  Waits : BenchCall
  Happens : WorldEvent → BenchCall
  Marks : (line : ℕ) → BenchCall
  Arms : (left : ℕ) → WorldEvent → (taken : Bool) → BenchCall
  ArmsCut : (left : ℕ) → (torn : List ℕ) → BenchCall

-- the events that fall before the next access or wait, in the order in which they were armed
abbrev pub due_events : List Armed → List WorldEvent
due_events [] = []
due_events (armed ∷ more) = if nat_le armed.left 1 then armed.event ∷ due_events more else due_events more

-- what is armed behind the next access or wait
abbrev pub still_armed : List Armed → List Armed
still_armed [] = []
still_armed (armed ∷ more) =
    if nat_le armed.left 1 then still_armed more else record { left = armed.left - 1; event = armed.event } ∷ still_armed more

-- the events among these that are the controller's too: all but changed bytes
abbrev pub events_among : List WorldEvent → List Event
events_among [] = []
events_among (Reset cause ∷ more) = event.Reset cause ∷ events_among more
events_among (Power on ∷ more) = event.Power on ∷ events_among more
events_among (Pin on ∷ more) = event.Pin on ∷ events_among more
events_among (Byte byte ∷ more) = events_among more

-- the last changed byte among these events, and else the byte as it was
abbrev pub byte_among : List WorldEvent → ℕ → ℕ
byte_among [] byte = byte
byte_among (Byte other ∷ more) byte = byte_among more other
byte_among (event ∷ more) byte = byte_among more byte

-- whether there is a place for one more armed event: at most 64 are armed at once
abbrev pub has_place : List Armed → Bool
has_place armed = nat_lt (length armed) 64

-- what is armed once one more event was to be armed: it falls behind the others that are due with it
abbrev pub armed_behind : List Armed → ℕ → WorldEvent → List Armed
armed_behind armed left event = if has_place armed then armed ++ record { left = left; event = event } ∷ [] else armed
