-- What holds of a controller's table behind an event, where it is told.
use Rattle.std.proofs.Common.{◌≡◌, ℕ, ◌≤◌, true, false, List, length, Option, Some, None, refl, subst, inl, inr, arith}
use Rattle.std.specs.Prelude.{option_map, IfSome}
use Rattle.flash_dev.specs.Told.{Changes}
use Rattle.ec_types.specs.declared.bus.BusKind.{BusKind}
use Rattle.flash_dev.specs.declared.hurt.Hurt.{Hurt}
use Rattle.flash_dev.specs.declared.hurt.Hurt.TheVariants.{Whole, Failed, Cut}
use Rattle.flash_dev.specs.View.{DeviceView}
use Rattle.flash_dev.specs.Counts.{RisesAtMost}
use Rattle.flash_dev.specs.Costs.{Costs}
use Rattle.flash_dev.proofs.Accounting.{wears-most}
use Rattle.std.proofs.lemmas.Option.{slice_get_within}
use Rattle.ec_model.specs.declared.event.Event.{Event}
use Rattle.ec_model.specs.declared.event.Entry.TheVariants.{Step}
use Rattle.ec_model.specs.Bus.{BusState, kind_of}
use Rattle.ec_model.specs.Table.{Table, Valid, Power, Off, On, table_of, off_table, core_of}
use Rattle.ec_model.specs.Work.{After, work_on, work_operations, operations_by_power, operations_of}
use Rattle.ec_model.specs.Step.{IsStep, EventLeaves}
use Rattle.ec_model.specs.Played.{EventBegins, PlaysEntry}
use Rattle.ec_model.proofs.PlayRuns.{begins-step}
use Rattle.ec_model.specs.Guarded.{keeps_pin}
use Rattle.ec_model.specs.Appending.{AddsWhole}
use Rattle.ec_model.proofs.ValidEvents.{step-valid}
use Rattle.ec_model.proofs.GuardStep.{step-kept}
use Rattle.ec_model.proofs.RunLaws.{guarded_bytes-leaves}
use Rattle.ec_model.proofs.BootLaws.{boots-ro, boots-locked}
use Rattle.ec_model.proofs.AppendLaws.{step-adds}
use Rattle.ec_wire.specs.Calls.{Agrees}
use Rattle.ec_boot.specs.Either.{run_of}
use Rattle.ec_boot.specs.States.{core_at}
use Rattle.ec_core.specs.View.{KeepsGuard, BootsRo, WearsBy, bench_at}
use Rattle.ec_core.specs.Held.{Accounts, EventTold, kept_table, is_kept_up}
use Rattle.ec_core.specs.declared.held.Held.{Held}
use Rattle.ec_core.specs.declared.held.Held.TheVariants.{Down, Up}

-- an event that began some operations is a step
step-of : (hurt : Hurt) (event : Event) (answer : ℕ) (device changed : DeviceView) (old new : Table) → Accounts hurt event answer device changed old new → EventLeaves hurt old event (record { table = new; answer = answer })
step-of hurt event answer device changed old new told = begins-step hurt told.begun old event old.power (record { table = new; answer = answer }) told.leaves

-- the step, where the flash tells its bytes, whatever byte was sent and seen
pub step-told : (hurt : Hurt) (event : Event) (answer : ℕ) (device changed : DeviceView) (meant seen : ℕ) (o p : Option Table) → EventTold hurt event answer device changed o p
    → Changes (λ old new. IsStep old (Step event answer meant seen hurt) new) o p
step-told hurt event answer device changed meant seen None None told = tt
step-told hurt event answer device changed meant seen None (Some new) told = told
step-told hurt event answer device changed meant seen (Some old) None told = told
step-told hurt event answer device changed meant seen (Some old) (Some new) told = step-of hurt event answer device changed old new told

-- no more operations were begun than there are
within : (hurt : Hurt) (begun : ℕ) (table : Table) (event : Event) (power : Power) (after : After) → EventBegins hurt begun table event power after → begun ≤ length (operations_by_power table event power)
within hurt begun table event Off after begins = omega (arith, begins.0)
within Whole begun table event (On awake) after begins = omega (arith, begins.0)
within Failed begun table event (On awake) after (inl unread) = omega (arith, unread.0)
within Failed begun table event (On awake) after (inr failed) =
    omega (arith, failed.1, slice_get_within (work_operations (core_of table awake) (work_on awake event)) failed.0.place failed.0.stops.stopped failed.0.stops.is_there)
within Cut begun table event (On awake) after cut =
    omega (arith, cut.1, slice_get_within (work_operations (core_of table awake) (work_on awake event)) cut.0.place cut.0.stops.stopped cut.0.stops.is_there)

-- the device wears by at most one for each operation
pub wears-told : (hurt : Hurt) (event : Event) (answer : ℕ) (device changed : DeviceView) (o p : Option Table) → EventTold hurt event answer device changed o p → WearsBy event o device.wear changed.wear
wears-told hurt event answer device changed None p told table is = cc
wears-told hurt event answer device changed (Some old) None told table is = absurd told
wears-told hurt event answer device changed (Some old) (Some new) told table is =
    let same : old ≡ table = cc in
    subst (λ (t : Table). RisesAtMost (length (operations_of t event)) device.wear changed.wear) same
    (wears-most hurt told.begun (length (operations_of old event)) device.wear changed.wear told.account.wear
    (within hurt told.begun old event old.power (record { table = new; answer = answer }) told.leaves))

-- the entry of a bench on which nothing else is armed than the device's cut
pub plays-told : (hurt : Hurt) (event : Event) (answer : ℕ) (device changed : DeviceView) (meant seen : ℕ) (o p : Option Table) → Costs hurt 1024 device changed → EventTold hurt event answer device changed o p
    → Changes (λ old new. PlaysEntry (bench_at device old) event answer meant seen hurt (bench_at changed new)) o p
plays-told hurt event answer device changed meant seen None None spent told = tt
plays-told hurt event answer device changed meant seen None (Some new) spent told = told
plays-told hurt event answer device changed meant seen (Some old) None spent told = told
plays-told hurt event answer device changed meant seen (Some old) (Some new) spent told = record {
  begun = told.begun;
  step = told.leaves;
  falls = told.account.falls;
  cause = told.account.cause;
  cut_is = told.account.armed;
  armed_is = refl;
  faults_later = spent.faults;
  cuts_later = spent.own_cuts;
}

-- an event keeps a told table valid
pub valid-told : (hurt : Hurt) (event : Event) (answer : ℕ) (device changed : DeviceView) (o p : Option Table) → IfSome o Valid → EventTold hurt event answer device changed o p → IfSome p Valid
valid-told hurt event answer device changed None None valid told = tt
valid-told hurt event answer device changed None (Some new) valid told = absurd told
valid-told hurt event answer device changed (Some old) None valid told = absurd told
valid-told hurt event answer device changed (Some old) (Some new) valid told = step-valid old (Step event answer 0 0 hurt) new valid (step-of hurt event answer device changed old new told)

-- an event that leaves the pin keeps the guard
pub guard-told : (hurt : Hurt) (event : Event) (answer : ℕ) (device changed : DeviceView) (o p : Option Table) → keeps_pin event ≡ true → IfSome o Valid → EventTold hurt event answer device changed o p → Changes KeepsGuard o p
guard-told hurt event answer device changed None None keeps valid told = tt
guard-told hurt event answer device changed None (Some new) keeps valid told = told
guard-told hurt event answer device changed (Some old) None keeps valid told = told
guard-told hurt event answer device changed (Some old) (Some new) keeps valid told =
    record {
      guarded = λ guarded. (step-kept old (Step event answer 0 0 hurt) new valid guarded (keeps, tt) (step-of hurt event answer device changed old new told)).guarded;
      bytes = λ guarded. guarded_bytes-leaves old.flash new.flash (step-kept old (Step event answer 0 0 hurt) new valid guarded (keeps, tt) (step-of hurt event answer device changed old new told)).leaves;
    }

-- a boot runs RO
pub boots-told : (hurt : Hurt) (event : Event) (answer : ℕ) (device changed : DeviceView) (o p : Option Table) → IfSome o Valid → EventTold hurt event answer device changed o p → Changes (BootsRo event) o p
boots-told hurt event answer device changed None None valid told = tt
boots-told hurt event answer device changed None (Some new) valid told = told
boots-told hurt event answer device changed (Some old) None valid told = told
boots-told hurt event answer device changed (Some old) (Some new) valid told =
    record {
      ro = λ boots. boots-ro old event answer 0 0 hurt new valid boots (step-of hurt event answer device changed old new told);
      locked = λ guarded boots. boots-locked old event answer 0 0 hurt new valid guarded boots (step-of hurt event answer device changed old new told);
    }

-- a record that has its place is added whole
pub adds-told : (hurt : Hurt) (event : Event) (answer : ℕ) (device changed : DeviceView) (o p : Option Table) → IfSome o Valid → EventTold hurt event answer device changed o p → Changes (AddsWhole event) o p
adds-told hurt event answer device changed None None valid told = tt
adds-told hurt event answer device changed None (Some new) valid told = told
adds-told hurt event answer device changed (Some old) None valid told = told
adds-told hurt event answer device changed (Some old) (Some new) valid told = step-adds old event answer 0 0 hurt new valid (step-of hurt event answer device changed old new told)

-- a valid table agrees with what is held
pub agrees-told : {F : Type 0} (kind : BusKind) (bus : BusState) (held : Option (Held F)) → kind_of bus ≡ kind → IfSome (kept_table kind bus held) Valid → IfSome (kept_table kind bus held) (Agrees kind (is_kept_up held))
agrees-told kind bus None kind_is valid = tt
agrees-told kind bus (Some (Down off pin)) kind_is valid = by off.device.held valid where
  by : (o : Option (List ℕ)) → IfSome (option_map (λ flash. off_table flash pin kind) o) Valid → IfSome (option_map (λ flash. off_table flash pin kind) o) (Agrees kind false)
  by None here = tt
  by (Some f) here = record { valid = here; kind_is = refl; on_is = refl }
agrees-told kind bus (Some (Up up)) kind_is valid = by (run_of up).device.held valid where
  by : (o : Option (List ℕ)) → IfSome (option_map (λ flash. table_of (core_at (run_of up) flash) bus) o) Valid → IfSome (option_map (λ flash. table_of (core_at (run_of up) flash) bus) o) (Agrees kind true)
  by None here = tt
  by (Some f) here = record { valid = here; kind_is = kind_is; on_is = refl }
