-- What a wire shows, and what its calls add to its entries and do to the rest.
use Rattle.std.specs.Prelude.{◌≡◌, ℕ, ◌+◌, ◌≤◌, min, Bool, true, false, ◌&&◌, ◌==◌, IsTrue, IsFalse, List, [], ◌∷◌, ◌++◌, length, count_by, Option, IfSome, ⊤}
use Rattle.std.specs.List.{list_all, list_any}
use Rattle.flash_dev.specs.Counts.{last_count}
use Rattle.flash_dev.specs.Told.{Changes}
use Rattle.ec_types.specs.declared.bus.BusKind.{BusKind}
use Rattle.ec_model.specs.declared.event.Access.{Access}
use Rattle.ec_model.specs.HostCalls.{HostCall, with_byte, calls_of, are_calls, on_after, on_after_entry}
use Rattle.ec_model.specs.declared.event.Event.TheVariants.{Access as AccessEvent, Tick}
use Rattle.ec_model.specs.declared.event.Entry.{Entry}
use Rattle.ec_model.specs.declared.event.Entry.TheVariants.{Step, Mark}
use Rattle.flash_dev.specs.declared.hurt.Hurt.{Hurt}
use Rattle.flash_dev.specs.declared.hurt.Hurt.TheVariants.{Whole, Failed, Cut}
use Rattle.ec_model.specs.Bench.{Armed, ArmedCut, Bench, BenchCall, Accesses, Waits}
use Rattle.ec_model.specs.Played.{PlayedAll}
use Rattle.ec_model.specs.Work.{lost_answer}
use Rattle.ec_model.specs.Table.{Table, Valid, is_on}
use Rattle.ec_model.specs.Run.{IsRun}
use Rattle.ec_model.specs.Upset.{access_byte, is_world, is_changed, is_cut_entry}

-- a wire: what happened so far, for how many entries there is room, whether the controller is on, which bus it is, the
-- events and changed bytes of the world that are armed, the cut that is armed for the flash, what the flash counted of
-- faults, of cuts, and of cuts of its own, and the controller's state where the flash tells its bytes
pub record WireView : Type 0 where
  pub entries : List Entry
  pub spare : ℕ
  pub on : Bool
  pub bus : BusKind
  pub armed : List Armed
  pub cut : Option ArmedCut
  pub faults : ℕ
  pub cuts : ℕ
  pub own_cuts : ℕ
  pub table : Option Table

-- a table that is told agrees with what is always told
pub record Agrees (kind : BusKind) (on : Bool) (table : Table) : Type 0 where
  pub valid : Valid table
  pub kind_is : table.kind ≡ kind
  pub on_is : is_on table.power ≡ on

-- what a wire shows agrees with the table, where that is told
abbrev pub IsAgreed : WireView → Type 0
IsAgreed view = IfSome view.table (Agrees view.bus view.on)

-- the same with another room
abbrev pub with_spare : ℕ → WireView → WireView
with_spare spare view = record view { spare = spare }

-- the tables, where they are told, are joined by a run along the entries
abbrev pub RunsAlong : List Entry → Option Table → Option Table → Type 0
RunsAlong entries before after = Changes (λ old new. IsRun old entries new) before after

-- whether a flash call failed in the entry
abbrev pub is_failed_entry : Entry → Bool
is_failed_entry (Step event answer meant seen Failed) = true
is_failed_entry other = false

-- whether an entry is one that a call of a wire adds: a step, all of whose bytes are 0 where its event is no access
abbrev pub is_wire_step : Entry → Bool
is_wire_step (Step (AccessEvent access) answer meant seen hurt) = true
is_wire_step (Step other answer meant seen hurt) = (answer == 0) && (meant == 0) && (seen == 0)
is_wire_step (Mark line) = false

-- nothing of the world is armed behind the entries, and none of them is of it
pub record KeepsQuiet (added : List Entry) (armed : List Armed) : Type 0 where
  pub disarmed : armed ≡ []
  pub no_event : IsFalse (list_any is_world added)
  pub no_byte : IsFalse (list_any is_changed added)

-- a count never fell, and rose by at least so much, up to its last value
pub record RoseBy (amount before now : ℕ) : Type 0 where
  pub later : before ≤ now
  pub risen : min (before + amount) last_count ≤ now

-- the bench of a wire whose table is told
abbrev pub bench_of : WireView → Table → Bench
bench_of view table =
    record { table = table; armed = view.armed; cut = view.cut; faults = view.faults; cuts = view.own_cuts }

-- whether a call on a bench is the host's
abbrev pub is_host_call : BenchCall → Bool
is_host_call (Accesses access) = true
is_host_call Waits = true
is_host_call other = false

-- the host's calls on the bench, one after the other, added the entries
pub record IsPlayed (added : List Entry) (old new : Bench) : Type 0 where
  pub calls : List BenchCall
  pub hosts : IsTrue (list_all is_host_call calls)
  pub played : PlayedAll old calls added new

-- the same of the benches behind a wire, where its tables are told
abbrev pub PlaysAlong : List Entry → WireView → WireView → Option Table → Option Table → Type 0
PlaysAlong added old new before after =
    Changes (λ first last. IsPlayed added (bench_of old first) (bench_of new last)) before after

-- a controller that is off, or that lost its power in an entry, answers what no power answers: 0xFF to an access
abbrev pub IsPowerless : Bool → Entry → Type 0
IsPowerless on (Mark line) = ⊤
IsPowerless false (Step event answer meant seen hurt) = answer ≡ lost_answer event
IsPowerless true (Step event answer meant seen Cut) = answer ≡ lost_answer event
IsPowerless true (Step event answer meant seen Whole) = ⊤
IsPowerless true (Step event answer meant seen Failed) = ⊤

-- the same of entries, by whether the controller is on before each
abbrev pub ArePowerless : Bool → List Entry → Type 0
ArePowerless on [] = ⊤
ArePowerless on (entry ∷ entries) = IsPowerless on entry × ArePowerless (on_after_entry entry on) entries

-- Calls added these entries. Each call took one off the room. Where nothing of the world was armed, nothing of it came.
-- Each failed entry raised the count of faults, and each cut entry that of cuts, which an armed cut that falls raises, too.
-- The tables are joined by a run, and the calls are played on the bench behind the wire.
pub record Grows (added : List Entry) (old new : WireView) : Type 0 where
  pub entries : new.entries ≡ old.entries ++ added
  pub room : new.spare + length (calls_of added) ≡ old.spare
  pub on : new.on ≡ on_after added old.on
  pub bus : new.bus ≡ old.bus
  pub calls : IsTrue (are_calls added)
  pub steps : IsTrue (list_all is_wire_step added)
  pub quiet : old.armed ≡ [] → KeepsQuiet added new.armed
  pub powerless : ArePowerless old.on added
  pub faults : RoseBy (count_by is_failed_entry added) old.faults new.faults
  pub cuts : RoseBy (count_by is_cut_entry added) old.cuts new.cuts
  pub run : RunsAlong added old.table new.table
  pub played : PlaysAlong added old new old.table new.table

-- an access added the world's events that were due, and then its own entry
pub record AccessAdds (access : Access) (seen : ℕ) (old new : WireView) : Type 0 where
  pub world : List Entry
  pub arrived : ℕ
  pub answer : ℕ
  pub hurt : Hurt
  pub worldly : IsTrue (list_all is_world world)
  pub grows : Grows (world ++ Step (AccessEvent (with_byte access arrived)) answer (access_byte access) seen hurt ∷ []) old new

-- a wait added the world's events that were due, and then a tick
pub record WaitAdds (old new : WireView) : Type 0 where
  pub world : List Entry
  pub hurt : Hurt
  pub worldly : IsTrue (list_all is_world world)
  pub grows : Grows (world ++ Step Tick 0 0 0 hurt ∷ []) old new

-- the host made these calls, whatever the world did between them
pub record Made (calls : List HostCall) (old new : WireView) : Type 0 where
  pub added : List Entry
  pub grows : Grows added old new
  pub calls_are : calls_of added ≡ calls
