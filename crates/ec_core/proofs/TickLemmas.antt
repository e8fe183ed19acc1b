-- What a tick leaves that serves no request.
use Rattle.std.proofs.Common.{◌≡◌, refl, sym, ap, subst, ℕ, Bool, List, Option, Some, None, Result, Ok, Err, inl, inr, arith}
use Rattle.std.specs.Prelude.{option_map}
use Rattle.flash_dev.specs.Told.{Changes}
use Rattle.flash_dev.specs.Device.{DeviceView}
use Rattle.flash_dev.specs.declared.device.DevErr.{DevErr}
use Rattle.flash_dev.specs.declared.device.DevErr.TheVariants.{Failed as FailedErr, PowerLost}
use Rattle.ec_types.specs.declared.bus.BusKind.{BusKind}
use Rattle.flash_dev.specs.declared.hurt.Hurt.TheVariants.{Whole, Cut}
use Rattle.ec_model.specs.declared.event.Event.{Event}
use Rattle.ec_model.specs.Bus.{BusState, kind_of}
use Rattle.ec_model.specs.Table.{Core, table_of, off_table}
use Rattle.ec_model.specs.Work.{Work, Rest, Serve, EraseNext, HashNext, Boot, Stop, SetPin, After, idle_work, work_on, lost_answer}
use Rattle.ec_boot.specs.declared.awake.Awake.{Awake}
use Rattle.ec_boot.specs.Either.{run_of}
use Rattle.ec_boot.specs.States.{RunView, OffView, core_at, told_core, Follows}
use Rattle.ec_boot.specs.Ticked.{IsTicked}
use Rattle.flash_dev.specs.Costs.{hurt_of}
use Rattle.ec_core.specs.Held.{awake_of, up_table, down_table, answer_by, kept_device, kept_pin}
use Rattle.ec_core.specs.Task.{IsTaken, IsTakenUp, IsStepped, Ticks, IsKeptTicked}
use Rattle.ec_core.specs.declared.held.Held.{Held}
use Rattle.ec_core.specs.declared.held.Held.TheVariants.{Down, Up}
use Rattle.ec_core.specs.declared.task.Task.TheVariants.{Tick as TickTask}
use Rattle.ec_core.proofs.TaskLemmas.{WorkBegun, WorkTold, none-begun, event-told, step-up, on-alive, spends-in}

-- the work of a tick is that of what is on, whatever bytes the flash tells
by-run : {T : Type 0} (result : Result T DevErr) (run next : RunView) → Changes (λ before after. IsTicked (idle_work before.live.erase before.live.hash) run.device next.device before after result) (told_core run) (told_core next) →
    Changes (λ before after. IsTicked (idle_work run.live.erase run.live.hash) run.device next.device before after result) (told_core run) (told_core next)
by-run result run next told = by run.device.held next.device.held told where
  by : (o p : Option (List ℕ)) → Changes (λ before after. IsTicked (idle_work before.live.erase before.live.hash) run.device next.device before after result) (option_map (core_at run) o) (option_map (core_at next) p) →
      Changes (λ before after. IsTicked (idle_work run.live.erase run.live.hash) run.device next.device before after result) (option_map (core_at run) o) (option_map (core_at next) p)
  by None None here = tt
  by None (Some g) here = here
  by (Some f) None here = here
  by (Some f) (Some g) here = here

-- a table, and the byte of the event
abbrev pub table_after : BusState → ℕ → Core → After
table_after bus answer core = record { table = table_of core bus; answer = answer }

-- the work of a tick behind which power is still there
ticked-leaves : {T : Type 0} (result : Result T DevErr) (work : Work) (device changed : DeviceView) (before after : Core) (bus : BusState) (answer lost : ℕ) → (hurt_of result ≡ Cut → ⊥) → IsTicked work device changed before after result →
    WorkBegun (hurt_of result) (record { state = bus; answer = answer }) lost work (answer_by (hurt_of result) answer lost) device changed before (table_of after bus)
ticked-leaves (Ok x) Rest device changed before after bus answer lost alive same =
    subst (λ (d : DeviceView). WorkBegun Whole (record { state = bus; answer = answer }) lost Rest answer device d before (table_of after bus)) (sym same.1)
    (none-begun (record { state = bus; answer = answer }) lost Rest answer device before (table_of after bus) refl (ap (table_after bus answer) same.0))
ticked-leaves (Err error) Rest device changed before after bus answer lost alive wrong = absurd wrong
ticked-leaves (Ok x) (EraseNext job) device changed before after bus answer lost alive same =
    record { begun = 1; leaves = (refl, ap (table_after bus answer) same.0); account = same.1 }
ticked-leaves (Err FailedErr) (EraseNext job) device changed before after bus answer lost alive stopped = record {
  begun = 1;
  leaves = inr (record { place = 0; flash = after.flash; stops = stopped.0; leaves = ap (table_after bus answer) stopped.1 }, refl);
  account = stopped.2;
}
ticked-leaves (Err PowerLost) (EraseNext job) device changed before after bus answer lost alive stopped = absurd (alive refl)
ticked-leaves (Ok x) HashNext device changed before after bus answer lost alive same =
    record { begun = 0; leaves = (refl, ap (table_after bus answer) same.0); account = same.1 }
ticked-leaves (Err FailedErr) HashNext device changed before after bus answer lost alive unread = record {
  begun = 0;
  leaves = inl (refl, record { reads = refl; leaves = ap (table_after bus answer) unread.0 });
  account = unread.1;
}
ticked-leaves (Err PowerLost) HashNext device changed before after bus answer lost alive wrong = absurd wrong
ticked-leaves result (Serve request) device changed before after bus answer lost alive wrong = absurd wrong
ticked-leaves result (Boot cause) device changed before after bus answer lost alive wrong = absurd wrong
ticked-leaves result Stop device changed before after bus answer lost alive wrong = absurd wrong
ticked-leaves result (SetPin on) device changed before after bus answer lost alive wrong = absurd wrong

-- the same, where the flash tells its bytes
ticked-told : {T : Type 0} (result : Result T DevErr) (work : Work) (run next : RunView) (bus : BusState) (answer lost : ℕ) → (hurt_of result ≡ Cut → ⊥) →
    Changes (λ before after. IsTicked work run.device next.device before after result) (told_core run) (told_core next) →
    WorkTold (hurt_of result) (record { state = bus; answer = answer }) lost work (answer_by (hurt_of result) answer lost) next.device run (up_table bus next)
ticked-told result work run next bus answer lost alive told = by run.device.held next.device.held told where
  by : (o p : Option (List ℕ)) → Changes (λ before after. IsTicked work run.device next.device before after result) (option_map (core_at run) o) (option_map (core_at next) p) →
      Follows (WorkBegun (hurt_of result) (record { state = bus; answer = answer }) lost work (answer_by (hurt_of result) answer lost) run.device next.device)
      (option_map (core_at run) o) (option_map (λ flash. table_of (core_at next flash) bus) p)
  by None None here = tt
  by None (Some g) here = here
  by (Some f) None here = here
  by (Some f) (Some g) here = ticked-leaves result work run.device next.device (core_at run f) (core_at next g) bus answer lost alive here

-- the work of a tick in which power was lost
cut-leaves : (T : Type 0) (work : Work) (device changed : DeviceView) (before after : Core) (bus : BusState) (kind : BusKind) (answer lost : ℕ) → kind_of bus ≡ kind → IsTicked {T = T} work device changed before after (Err PowerLost) →
    WorkBegun Cut (record { state = bus; answer = answer }) lost work lost device changed before (off_table after.flash before.pin kind)
cut-leaves T (EraseNext job) device changed before after bus kind answer lost kind_is stopped = record {
  begun = 1;
  leaves = (record { place = 0; flash = after.flash; stops = stopped.0; leaves = ap (λ (k : BusKind). let a : After = record { table = off_table after.flash before.pin k; answer = lost } in a) (sym kind_is) }, refl);
  account = stopped.2;
}
cut-leaves T Rest device changed before after bus kind answer lost kind_is wrong = absurd wrong
cut-leaves T HashNext device changed before after bus kind answer lost kind_is wrong = absurd wrong
cut-leaves T (Serve request) device changed before after bus kind answer lost kind_is wrong = absurd wrong
cut-leaves T (Boot cause) device changed before after bus kind answer lost kind_is wrong = absurd wrong
cut-leaves T Stop device changed before after bus kind answer lost kind_is wrong = absurd wrong
cut-leaves T (SetPin on) device changed before after bus kind answer lost kind_is wrong = absurd wrong

-- the same, where the flash tells its bytes
cut-told : (T : Type 0) (work : Work) (run next : RunView) (bus : BusState) (kind : BusKind) (answer lost : ℕ) → kind_of bus ≡ kind →
    Changes (λ before after. IsTicked {T = T} work run.device next.device before after (Err PowerLost)) (told_core run) (told_core next) →
    WorkTold Cut (record { state = bus; answer = answer }) lost work lost next.device run (down_table kind run.pin (record { device = next.device }))
cut-told T work run next bus kind answer lost kind_is told = by run.device.held next.device.held told where
  by : (o p : Option (List ℕ)) → Changes (λ before after. IsTicked {T = T} work run.device next.device before after (Err PowerLost)) (option_map (core_at run) o) (option_map (core_at next) p) →
      Follows (WorkBegun Cut (record { state = bus; answer = answer }) lost work lost run.device next.device)
      (option_map (core_at run) o) (option_map (λ flash. off_table flash run.pin kind) p)
  by None None here = tt
  by None (Some g) here = here
  by (Some f) None here = here
  by (Some f) (Some g) here = cut-leaves T work run.device next.device (core_at run f) (core_at next g) bus kind answer lost kind_is here

same-work : (a b : Work) → Some a ≡ Some b → b ≡ a
same-work a b same = cc

-- the work of an event whose task is a tick
tick-work : (event : Event) (answer : ℕ) (old_bus bus : BusState) (run : RunView) → IsTakenUp event old_bus (Some TickTask) bus answer run → work_on (awake_of run old_bus) event ≡ idle_work run.live.erase run.live.hash
tick-work event answer old_bus bus run taken = same-work (idle_work run.live.erase run.live.hash) (work_on (awake_of run old_bus) event) taken.task_is

-- a tick behind which power is still there
ticked-up : {F T : Type 0} (kind : BusKind) (event : Event) (answer : ℕ) (old_bus bus : BusState) (up later : Awake F) (result : Result T DevErr) → (hurt_of result ≡ Cut → ⊥) → Ticks (run_of up) (run_of later) result →
    IsTakenUp event old_bus (Some TickTask) bus answer (run_of up) → IsStepped {F = F} kind event (hurt_of result) (answer_by (hurt_of result) answer (lost_answer event)) old_bus bus (Some (Up up)) (Some (Up later))
ticked-up {F} {T} kind event answer old_bus bus up later result alive ticks taken =
    step-up {F = F} kind event (hurt_of result) answer old_bus bus bus (Some TickTask) up (Up later) taken
    (event-told (hurt_of result) event old_bus bus answer (answer_by (hurt_of result) answer (lost_answer event)) (run_of later).device (run_of up) (idle_work (run_of up).live.erase (run_of up).live.hash) (up_table bus (run_of later)) taken.state taken.answer_is
    (tick-work event answer old_bus bus (run_of up) taken)
    (ticked-told result (idle_work (run_of up).live.erase (run_of up).live.hash) (run_of up) (run_of later) bus answer (lost_answer event) alive (by-run result (run_of up) (run_of later) ticks.told)))
    (on-alive (hurt_of result) alive) ticks.pin taken.calm (spends-in (hurt_of result) 1 (run_of up).device (run_of later).device (omega arith) ticks.spent ticks.wear)

-- a tick in which power was lost
ticked-down : {F T : Type 0} (kind : BusKind) (event : Event) (answer : ℕ) (old_bus bus : BusState) (up : Awake F) (next : RunView) (off : OffView) (pin : Bool) → kind_of bus ≡ kind → off.device ≡ next.device → pin ≡ (run_of up).pin →
    Ticks {T = T} (run_of up) next (Err PowerLost) → IsTakenUp event old_bus (Some TickTask) bus answer (run_of up) → IsStepped {F = F} kind event Cut (lost_answer event) old_bus bus (Some (Up up)) (Some (Down off pin))
ticked-down {F} {T} kind event answer old_bus bus up next off pin kind_is device_is pin_is ticks taken =
    subst (λ (p : Bool). IsStepped {F = F} kind event Cut (lost_answer event) old_bus bus (Some (Up up)) (Some (Down off p))) (sym pin_is)
    (subst (λ (device : DeviceView). IsStepped {F = F} kind event Cut (lost_answer event) old_bus bus (Some (Up up)) (Some (Down (record { device = device }) (run_of up).pin))) (sym device_is)
    (step-up {F = F} kind event Cut answer old_bus bus bus (Some TickTask) up (Down (record { device = next.device }) (run_of up).pin) taken
    (event-told Cut event old_bus bus answer (lost_answer event) next.device (run_of up) (idle_work (run_of up).live.erase (run_of up).live.hash) (down_table kind (run_of up).pin (record { device = next.device })) taken.state taken.answer_is
    (tick-work event answer old_bus bus (run_of up) taken)
    (cut-told T (idle_work (run_of up).live.erase (run_of up).live.hash) (run_of up) next bus kind answer (lost_answer event) kind_is (by-run {T = T} (Err PowerLost) (run_of up) next ticks.told)))
    refl refl tt (spends-in Cut 1 (run_of up).device next.device (omega arith) ticks.spent ticks.wear)))

-- the same of what a controller holds
pub kept-ticked : {F T : Type 0} (kind : BusKind) (event : Event) (answer : ℕ) (old_bus bus : BusState) (old new : Option (Held F)) (result : Result T DevErr) → (hurt_of result ≡ Cut → ⊥) → IsKeptTicked {F = F} {T = T} result old new →
    IsTaken {F = F} event old_bus (Some TickTask) bus answer old → IsStepped {F = F} kind event (hurt_of result) (answer_by (hurt_of result) answer (lost_answer event)) old_bus bus old new
kept-ticked {F} {T} kind event answer old_bus bus (Some (Up old)) (Some (Up new)) result alive ticks taken = ticked-up {F = F} {T = T} kind event answer old_bus bus old new result alive ticks taken
kept-ticked kind event answer old_bus bus (Some (Up old)) (Some (Down off pin)) result alive ticks taken = absurd ticks
kept-ticked kind event answer old_bus bus (Some (Up old)) None result alive ticks taken = absurd ticks
kept-ticked kind event answer old_bus bus (Some (Down off pin)) new result alive ticks taken = absurd ticks
kept-ticked kind event answer old_bus bus None new result alive ticks taken = absurd ticks

pub kept-cut : {F : Type 0} (T : Type 0) (kind : BusKind) (event : Event) (answer : ℕ) (old_bus bus : BusState) (old new : Option (Held F)) → kind_of bus ≡ kind → IsKeptTicked {F = F} {T = T} (Err PowerLost) old new →
    IsTaken {F = F} event old_bus (Some TickTask) bus answer old → IsStepped {F = F} kind event Cut (lost_answer event) old_bus bus old (Some (Down (record { device = kept_device new }) (kept_pin new)))
kept-cut {F} T kind event answer old_bus bus (Some (Up old)) (Some (Up new)) kind_is ticks taken =
    ticked-down {F = F} {T = T} kind event answer old_bus bus old (run_of new) (record { device = (run_of new).device }) (run_of new).pin kind_is refl ticks.pin ticks taken
kept-cut T kind event answer old_bus bus (Some (Up old)) (Some (Down off pin)) kind_is ticks taken = absurd ticks
kept-cut T kind event answer old_bus bus (Some (Up old)) None kind_is ticks taken = absurd ticks
kept-cut T kind event answer old_bus bus (Some (Down off pin)) new kind_is ticks taken = absurd ticks
kept-cut T kind event answer old_bus bus None new kind_is ticks taken = absurd ticks
