-- A boot ends with RO running, whatever fails in it.
use Rattle.std.proofs.Common.{◌≡◌, refl, sym, ◌∙◌, subst, ℕ, true, false, inl, inr, List, [], length, Option, Some, None, Result, Ok, Err, slice_get}
use Rattle.ec_types.specs.Tables.{packet_limit}
use Rattle.ec_model.specs.declared.event.Event.{Event}
use Rattle.ec_model.specs.declared.event.Event.TheVariants.{Power as PowerEvent, Pin as PinEvent}
use Rattle.flash_dev.specs.declared.hurt.Hurt.{Hurt}
use Rattle.flash_dev.specs.declared.hurt.Hurt.TheVariants.{Whole, Failed, Cut}
use Rattle.ec_model.specs.declared.event.Entry.TheVariants.{Step}
use Rattle.ec_model.specs.Commands.{Command, FlashWrite, FlashProtect}
use Rattle.ec_model.specs.Bus.{BusAnswer, kind_of}
use Rattle.ec_model.specs.Table.{Table, Power, Off, On, Core, Valid, IsPowerValid, core_of}
use Rattle.ec_model.specs.Operations.{Operation, StopsAt}
use Rattle.ec_model.specs.Answer.{Outcome, Answered, Restarts, unless_refused, is_restart}
use Rattle.ec_model.specs.FlashRows.{write_refusal}
use Rattle.ec_model.specs.Handle.{Admitted, row, row_of, row_operations, operations_by, asked, handled}
use Rattle.ec_model.specs.Work.{is_power_on, After, Work, Serve, EraseNext, Boot, work_on, work_operations, bus_after, lost_answer}
use Rattle.ec_model.specs.WholeStep.{after_outcome}
use Rattle.ec_model.specs.Step.{IsStep, after_unread, WorkLeaves, OffLeaves, EventLeavesBy}
use Rattle.ec_model.specs.Guarded.{Guarded, boots, boots_by, is_boot, is_locked_if_on, keeps_pin, runs_ro, runs_ro_locked}
use Rattle.ec_model.proofs.GuardStep.{step-kept}

-- a write is answered
unless-answered : (refusal : Option ℕ) (core after : Core) (body : List ℕ) → is_restart (unless_refused refusal core (Answered after 0 body)) ≡ false
unless-answered None core after body = refl
unless-answered (Some status) core after body = refl

-- a row that restarts the controller has no flash operation
row-restarts : (core : Core) (limit : ℕ) (command : Command) (version : ℕ) (body : List ℕ) → is_restart (row core limit command version body) ≡ true → row_operations core command version body ≡ []
row-restarts core limit FlashWrite version body restarts =
    let answered = unless-answered (write_refusal core version body) core _ [] in absurd (false-true (sym answered ∙ restarts)) where
      false-true : false ≡ true → ⊥
      false-true same = cc
row-restarts core limit FlashProtect version body restarts = cc
row-restarts core limit other version body restarts = refl

result-restarts : (core : Core) (limit : ℕ) (result : Result Admitted ℕ) → is_restart (row_of core limit result) ≡ true → operations_by core result ≡ []
result-restarts core limit (Err status) restarts = refl
result-restarts core limit (Ok found) restarts = row-restarts core limit found.command found.version found.body restarts

-- work that boots the controller has no flash operation
boot-operations : (core : Core) (limit : ℕ) (work : Work) → is_boot core limit work ≡ true → work_operations core work ≡ []
boot-operations core limit (Serve request) boot = result-restarts core limit (asked core request) boot
boot-operations core limit (EraseNext job) boot = cc
boot-operations core limit other boot = refl

-- none of no operations fails
none-stops : (k : ℕ) (operations : List Operation) (old new : List ℕ) → operations ≡ [] → StopsAt k operations old new → ⊥
none-stops k operations old new none stops = no_place (subst (λ (list : List Operation). slice_get list k ≡ Some stops.stopped) none stops.is_there) where
  no_place : slice_get [] k ≡ Some stops.stopped → ⊥
  no_place same = cc

outcome-boots : (core : Core) (bus : BusAnswer) (lost : ℕ) (outcome : Outcome) → is_restart outcome ≡ true → runs_ro (after_outcome core bus lost outcome).table.power ≡ true
outcome-boots core bus lost (Answered after status body) restarts = cc
outcome-boots core bus lost Restarts restarts = refl

unread-boots : (core : Core) (bus : BusAnswer) (lost : ℕ) (outcome : Outcome) → is_restart outcome ≡ true → runs_ro (after_unread core bus lost outcome).table.power ≡ true
unread-boots core bus lost (Answered after status body) restarts = cc
unread-boots core bus lost Restarts restarts = refl

-- RO runs behind work that boots, whatever fails in it
work-boots : (hurt : Hurt) (core : Core) (bus : BusAnswer) (lost : ℕ) (work : Work) (after : After) → is_boot core (packet_limit (kind_of bus.state)) work ≡ true → WorkLeaves hurt core bus lost work after → runs_ro after.table.power ≡ true
work-boots Whole core bus lost (Boot cause) after boot leaves = rw leaves refl
work-boots Whole core bus lost (Serve request) after boot leaves = rw leaves (outcome-boots core bus lost (handled core (packet_limit (kind_of bus.state)) request) boot)
work-boots Whole core bus lost other after boot leaves = cc
work-boots Failed core bus lost (Boot cause) after boot (inl unread) = rw unread.leaves refl
work-boots Failed core bus lost (Serve request) after boot (inl unread) = rw unread.leaves (unread-boots core bus lost (handled core (packet_limit (kind_of bus.state)) request) boot)
work-boots Failed core bus lost other after boot (inl unread) = cc
work-boots Failed core bus lost work after boot (inr failed) = absurd (none-stops failed.place (work_operations core work) core.flash failed.flash (boot-operations core _ work boot) failed.stops)
work-boots Cut core bus lost work after boot cut = absurd (none-stops cut.place (work_operations core work) core.flash cut.flash (boot-operations core _ work boot) cut.stops)

-- and behind a power-on
off-boots : (hurt : Hurt) (old : Table) (event : Event) (after : After) → is_power_on event ≡ true → OffLeaves hurt old event after → runs_ro after.table.power ≡ true
off-boots Whole old (PowerEvent true) after on leaves = rw leaves refl
off-boots Failed old (PowerEvent true) after on leaves = rw leaves.1 refl
off-boots Cut old event after on leaves = absurd leaves
off-boots hurt old other after on leaves = cc

-- RO runs behind an event that boots the controller, by whether this is on
event-boots : (hurt : Hurt) (old : Table) (event : Event) (power : Power) (after : After) → IsPowerValid (length old.flash) old.kind power → boots_by old event power ≡ true → EventLeavesBy hurt old event power after → runs_ro after.table.power ≡ true
event-boots hurt old event Off after valid boot leaves = off-boots hurt old event after boot leaves
event-boots hurt old event (On awake) after valid boot leaves =
    work-boots hurt (core_of old awake) (bus_after awake.bus event) (lost_answer event) (work_on awake event) after boot leaves

-- RO runs behind each boot
pub boots-ro : (old : Table) (event : Event) (answer meant seen : ℕ) (hurt : Hurt) (new : Table) → Valid old → boots old event ≡ true → IsStep old (Step event answer meant seen hurt) new → runs_ro new.power ≡ true
boots-ro old event answer meant seen hurt new valid boot leaves = event-boots hurt old event old.power (record { table = new; answer = answer }) valid.power boot leaves

-- a pin event boots no controller
boot-pin : (old : Table) (event : Event) (power : Power) → boots_by old event power ≡ true → keeps_pin event ≡ true
boot-pin old (PinEvent on) Off boot = cc
boot-pin old (PinEvent on) (On awake) boot = cc
boot-pin old other power boot = refl

-- RO runs and is locked, where it runs and is locked if the controller is on
both : (power : Power) → runs_ro power ≡ true → is_locked_if_on power ≡ true → runs_ro_locked power ≡ true
both Off runs locked = runs
both (On awake) runs locked = rw runs locked

-- and is locked behind each boot of a guarded table
pub boots-locked : (old : Table) (event : Event) (answer meant seen : ℕ) (hurt : Hurt) (new : Table) → Valid old → Guarded old → boots old event ≡ true → IsStep old (Step event answer meant seen hurt) new → runs_ro_locked new.power ≡ true
boots-locked old event answer meant seen hurt new valid guarded boot leaves =
    let kept = step-kept old (Step event answer meant seen hurt) new valid guarded (boot-pin old event old.power boot, tt) leaves in
    both new.power (boots-ro old event answer meant seen hurt new valid boot leaves) kept.guarded.locked
