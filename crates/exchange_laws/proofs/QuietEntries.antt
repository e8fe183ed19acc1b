-- The entries of calls that nothing disturbs.
use Rattle.std.proofs.Common.{◌≡◌, refl, sym, ap, subst, ℕ, true, false, ◌==◌, List, [], ◌∷◌, map, arith}
use Rattle.std.specs.List.{list_any}
use Rattle.std.proofs.lemmas.Bool.Decides.{eqb_tells}
use Rattle.ec_model.specs.declared.event.Event.TheVariants.{Access as AccessEvent, Tick}
use Rattle.flash_dev.specs.declared.hurt.Hurt.TheVariants.{Whole}
use Rattle.ec_model.specs.HostCalls.{HostCall, Did, Waited, calls_of, are_calls}
use Rattle.ec_model.specs.Bus.{BusAnswer}
use Rattle.ec_model.specs.Upset.{access_byte, is_upset}
use Rattle.ec_model.specs.Table.{Table, Power, Off, On, Core, core_of}
use Rattle.ec_model.specs.Answer.{Outcome, Answered, Restarts}
use Rattle.ec_model.specs.Work.{Work, Rest, Serve, EraseNext, HashNext, Boot, Stop, SetPin, bus_after, work_on}
use Rattle.ec_model.specs.WholeStep.{stepped, stepped_by, worked, after_outcome}
use Rattle.ec_model.specs.Step.{EventLeavesBy}
use Rattle.ec_model.specs.Run.{IsRun}
use Rattle.ec_wire.specs.Quiet.{quiet_entry}
use Rattle.ec_wire.proofs.Calm.{with_byte-access_byte}
use Rattle.exchange_laws.specs.Calm.{CallsLead}
use Rattle.exchange_laws.proofs.Settled.{whole-leaves}

-- a number is itself
self : (n : ℕ) → (n == n) ≡ true
self n = grind (arith, eqb_tells)

-- nothing disturbs them
pub quiet-calm : (calls : List HostCall) → list_any is_upset (map quiet_entry calls) ≡ false
quiet-calm [] = refl
quiet-calm (Did access byte ∷ calls) = let seen = self byte in let arrived = self (access_byte access) in rw (seen, arrived) (quiet-calm calls)
quiet-calm (Waited ∷ calls) = quiet-calm calls

-- they are the host's
pub quiet-are-calls : (calls : List HostCall) → are_calls (map quiet_entry calls) ≡ true
quiet-are-calls [] = refl
quiet-are-calls (Did access byte ∷ []) = refl
quiet-are-calls (Waited ∷ []) = refl
quiet-are-calls (Did access byte ∷ next ∷ calls) = quiet-are-calls (next ∷ calls)
quiet-are-calls (Waited ∷ next ∷ calls) = quiet-are-calls (next ∷ calls)

-- their calls are these
pub quiet-calls : (calls : List HostCall) → calls_of (map quiet_entry calls) ≡ calls
quiet-calls [] = refl
quiet-calls (Did access byte ∷ calls) = rw (with_byte-access_byte access) (ap (λ (rest : List HostCall). Did access byte ∷ rest) (quiet-calls calls))
quiet-calls (Waited ∷ calls) = ap (λ (rest : List HostCall). Waited ∷ rest) (quiet-calls calls)

-- a request's outcome answers what the bus does, or what a lost one does
outcome-zero : (core : Core) (bus : BusAnswer) (outcome : Outcome) → bus.answer ≡ 0 → (after_outcome core bus 0 outcome).answer ≡ 0
outcome-zero core bus (Answered after status body) none = none
outcome-zero core bus Restarts none = refl

-- so does any work
worked-zero : (core : Core) (bus : BusAnswer) (work : Work) → bus.answer ≡ 0 → (worked core bus 0 work).answer ≡ 0
worked-zero core bus Rest none = none
worked-zero core bus (Serve request) none = outcome-zero core bus _ none
worked-zero core bus (EraseNext job) none = none
worked-zero core bus HashNext none = none
worked-zero core bus (Boot cause) none = none
worked-zero core bus Stop none = none
worked-zero core bus (SetPin on) none = none

-- a tick answers 0
tick-zero : (table : Table) (power : Power) → (stepped_by table Tick power).answer ≡ 0
tick-zero table Off = refl
tick-zero table (On awake) = worked-zero (core_of table awake) (bus_after awake.bus Tick) (work_on awake Tick) refl

-- they are a run where their calls lead on
pub quiet-run : (old : Table) (calls : List HostCall) (new : Table) → CallsLead old calls new → IsRun old (map quiet_entry calls) new
quiet-run old [] new lead = lead
quiet-run old (Did access byte ∷ calls) new lead = (
  (stepped old (AccessEvent access)).table,
  subst (λ (answer : ℕ). EventLeavesBy Whole old (AccessEvent access) old.power (record { table = (stepped old (AccessEvent access)).table; answer = answer })) (sym lead.0) (whole-leaves old (AccessEvent access) old.power),
  quiet-run (stepped old (AccessEvent access)).table calls new lead.1,
)
quiet-run old (Waited ∷ calls) new lead = (
  (stepped old Tick).table,
  subst (λ (answer : ℕ). EventLeavesBy Whole old Tick old.power (record { table = (stepped old Tick).table; answer = answer })) (tick-zero old old.power) (whole-leaves old Tick old.power),
  quiet-run (stepped old Tick).table calls new lead,
)
