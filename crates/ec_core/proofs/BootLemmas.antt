-- What a boot leaves.
use Rattle.std.proofs.Common.{◌≡◌, refl, sym, ap, ◌∙◌, subst, ℕ, Bool, true, false, List, [], Option, Some, None, inl, arith}
use Rattle.std.specs.Prelude.{option_map, IsNone}
use Rattle.ec_types.specs.declared.bus.BusKind.{BusKind}
use Rattle.ec_types.specs.declared.bus.BusKind.TheVariants.{Lpc, I2c, Spi}
use Rattle.ec_types.specs.declared.reset.ResetCause.{ResetCause}
use Rattle.ec_types.specs.declared.reset.ResetCause.TheVariants.{PowerOn}
use Rattle.flash_dev.specs.Device.{DeviceView}
use Rattle.flash_dev.specs.declared.hurt.Hurt.{Hurt}
use Rattle.flash_dev.specs.declared.hurt.Hurt.TheVariants.{Whole, Failed, Cut}
use Rattle.ec_model.specs.declared.event.Event.{Event}
use Rattle.ec_model.specs.declared.event.Event.TheVariants.{Access, Tick, Reset, Power as PowerEvent, Pin}
use Rattle.ec_model.specs.Bus.{BusState, kind_of, fresh_bus, due_now}
use Rattle.ec_model.specs.Table.{Core, table_of, off_table}
use Rattle.ec_model.specs.Boot.{booted}
use Rattle.ec_model.specs.Work.{Boot, work_off, lost_answer, After}
use Rattle.flash_dev.specs.Costs.{Account}
use Rattle.flash_dev.proofs.Accounting.{account-none}
use Rattle.flash_dev.proofs.Costing.{rises-none}
use Rattle.flash_protect.specs.Setting.{IsLookedAt}
use Rattle.ec_boot.specs.declared.awake.Awake.{Awake}
use Rattle.ec_boot.specs.Either.{run_of}
use Rattle.ec_boot.specs.declared.awake.Awake.TheVariants.{Ro}
use Rattle.ec_boot.specs.States.{RunView, OffView, core_at, told_core, Follows}
use Rattle.ec_core.specs.Held.{up_table, down_table, IsSpent, Accounts, EventTold, answer_by}
use Rattle.command_table.specs.After.{boot_hurt}
use Rattle.ec_core.specs.Task.{IsTakenUp, IsTakenDown, IsStepped}
use Rattle.ec_core.specs.declared.held.Held.{Held}
use Rattle.ec_core.specs.declared.held.Held.TheVariants.{Down, Up}
use Rattle.ec_core.specs.declared.task.Task.TheVariants.{Boot as BootTask}
use Rattle.ec_core.proofs.TaskLemmas.{WorkBegun, WorkTold, Spends, event-told, on_by, step-up, step-down}

pub same-core : (a b : Core) (o : Option Core) → o ≡ Some a → o ≡ Some b → a ≡ b
same-core a b o first second = cc

-- a boot reads, and begins no operation
pub boot-account : (bad : Bool) (old new : DeviceView) (f g : List ℕ) → IsLookedAt bad old new → Account 0 (boot_hurt bad) [] old new f g
boot-account true old new f g looked = account-none Failed [] old new f g looked.begun looked.armed looked.wear (looked.failed refl)
boot-account false old new f g looked = account-none Whole [] old new f g looked.begun looked.armed looked.wear tt

boot-work : (core : Core) (bus : BusState) (kind : BusKind) (cause : ResetCause) (bad : Bool) (answer lost : ℕ) (device changed : DeviceView) (after : Core) → kind_of bus ≡ kind → IsLookedAt bad device changed → after ≡ booted core.flash core.pin cause bad →
    WorkBegun (boot_hurt bad) (record { state = bus; answer = answer }) lost (Boot cause) answer device changed core (table_of after (fresh_bus kind))
boot-work core bus kind cause true answer lost device changed after kind_is looked after_is = record {
  begun = 0;
  leaves = inl (refl, record { reads = refl; leaves = ap (λ (c : Core). let a : After = record { table = table_of c (fresh_bus kind); answer = answer } in a) after_is ∙ ap (λ (k : BusKind). let a : After = record { table = table_of (booted core.flash core.pin cause true) (fresh_bus k); answer = answer } in a) (sym kind_is) });
  account = boot-account true device changed core.flash after.flash looked;
}
boot-work core bus kind cause false answer lost device changed after kind_is looked after_is = record {
  begun = 0;
  leaves = (refl, ap (λ (c : Core). let a : After = record { table = table_of c (fresh_bus kind); answer = answer } in a) after_is ∙ ap (λ (k : BusKind). let a : After = record { table = table_of (booted core.flash core.pin cause false) (fresh_bus k); answer = answer } in a) (sym kind_is));
  account = boot-account false device changed core.flash after.flash looked;
}

boot-told : (run next : RunView) (bus : BusState) (kind : BusKind) (cause : ResetCause) (bad : Bool) (answer lost : ℕ) → kind_of bus ≡ kind → IsLookedAt bad run.device next.device →
    told_core next ≡ option_map (λ flash. booted flash run.pin cause bad) run.device.held →
    WorkTold (boot_hurt bad) (record { state = bus; answer = answer }) lost (Boot cause) answer next.device run (up_table (fresh_bus kind) next)
boot-told run next bus kind cause bad answer lost kind_is looked told = by run.device.held next.device.held told where
  by : (o p : Option (List ℕ)) → option_map (core_at next) p ≡ option_map (λ flash. booted flash run.pin cause bad) o →
      Follows (WorkBegun (boot_hurt bad) (record { state = bus; answer = answer }) lost (Boot cause) answer run.device next.device)
      (option_map (core_at run) o) (option_map (λ flash. table_of (core_at next flash) (fresh_bus kind)) p)
  by None None same = tt
  by None (Some g) same = cc
  by (Some f) None same = cc
  by (Some f) (Some g) same = boot-work (core_at run f) bus kind cause bad answer lost run.device next.device (core_at next g) kind_is looked (same-core (core_at next g) (booted f run.pin cause bad) (Some (core_at next g)) refl same)

-- no request is due on a fresh bus
pub fresh-none : (kind : BusKind) → IsNone (due_now (fresh_bus kind))
fresh-none Lpc = refl
fresh-none I2c = refl
fresh-none Spi = refl

boot-answer : (bad : Bool) (answer lost : ℕ) → answer_by (boot_hurt bad) answer lost ≡ answer
boot-answer true answer lost = refl
boot-answer false answer lost = refl

pub boot-on : (bad on : Bool) → on_by (boot_hurt bad) on ≡ on
boot-on true on = refl
boot-on false on = refl

pub boot-alive : (bad : Bool) → boot_hurt bad ≡ Cut → ⊥
boot-alive true cut = cc
boot-alive false cut = cc

boot-costs : (bad : Bool) (old new : DeviceView) → IsLookedAt bad old new → IsSpent (boot_hurt bad) old new
boot-costs true old new looked =
    record { extent = looked.extent; faults = looked.faults; cuts = looked.cuts; own_cuts = looked.own_cuts; rose = looked.failed refl; refusals = looked.refusals; fetched = record { least = omega (arith, looked.fetched); most = omega (arith, looked.fetched) } }
boot-costs false old new looked =
    record { extent = looked.extent; faults = looked.faults; cuts = looked.cuts; own_cuts = looked.own_cuts; rose = tt; refusals = looked.refusals; fetched = record { least = omega (arith, looked.fetched); most = omega (arith, looked.fetched) } }

-- a boot reads the stored bits once, and is no wear
pub boot-spent : (bad : Bool) (old new : DeviceView) → IsLookedAt bad old new → Spends (boot_hurt bad) old new
boot-spent bad old new looked = record { costs = boot-costs bad old new looked; wears = rises-none 9 old.wear new.wear looked.wear }

-- a boot of a controller that is on
pub booted-up : {F : Type 0} (kind : BusKind) (event : Event) (cause : ResetCause) (hurt : Hurt) (answer : ℕ) (old_bus bus new_bus : BusState) (up : Awake F) (next : RunView) (held : Held F) → kind_of bus ≡ kind → new_bus ≡ fresh_bus kind →
    hurt ≡ boot_hurt next.live.pstate_bad → held ≡ Up (Ro next) → IsTakenUp event old_bus (Some (BootTask cause)) bus answer (run_of up) → IsLookedAt next.live.pstate_bad (run_of up).device next.device →
    told_core next ≡ option_map (λ flash. booted flash (run_of up).pin cause next.live.pstate_bad) (run_of up).device.held → next.pin ≡ (run_of up).pin →
    IsStepped kind event hurt (answer_by hurt answer (lost_answer event)) old_bus new_bus (Some (Up up)) (Some held)
booted-up {F} kind event cause hurt answer old_bus bus new_bus up next held kind_is bus_is hurt_is held_is taken looked told pin_is =
    let bad : Bool = next.live.pstate_bad in
    subst (λ (h : Hurt). IsStepped {F = F} kind event h (answer_by h answer (lost_answer event)) old_bus new_bus (Some (Up up)) (Some held)) (sym hurt_is)
    (subst (λ (b : BusState). IsStepped {F = F} kind event (boot_hurt bad) (answer_by (boot_hurt bad) answer (lost_answer event)) old_bus b (Some (Up up)) (Some held)) (sym bus_is)
    (subst (λ (h : Held F). IsStepped {F = F} kind event (boot_hurt bad) (answer_by (boot_hurt bad) answer (lost_answer event)) old_bus (fresh_bus kind) (Some (Up up)) (Some h)) (sym held_is)
    (step-up {F = F} kind event (boot_hurt bad) answer old_bus bus (fresh_bus kind) (Some (BootTask cause)) up (Up (Ro next)) taken
    (subst (λ (n : ℕ). EventTold (boot_hurt bad) event n (run_of up).device next.device (up_table old_bus (run_of up)) (up_table (fresh_bus kind) next)) (sym (boot-answer bad answer (lost_answer event)))
    (event-told (boot_hurt bad) event old_bus bus answer answer next.device (run_of up) (Boot cause) (up_table (fresh_bus kind) next) taken.state taken.answer_is taken.task_is (boot-told (run_of up) next bus kind cause bad answer (lost_answer event) kind_is looked told)))
    (sym (boot-on bad true)) pin_is (fresh-none kind) (boot-spent bad (run_of up).device next.device looked))))

-- only power has a controller boot that is off, and that answers nothing
pub record IsPowerOn (event : Event) (cause : ResetCause) : Type 0 where
  pub event_is : event ≡ PowerEvent true
  pub cause_is : cause ≡ PowerOn

power-on : (event : Event) (cause : ResetCause) → work_off event ≡ Boot cause → IsPowerOn event cause
power-on (Access access) cause same = cc
power-on Tick cause same = cc
power-on (Reset other) cause same = cc
power-on (PowerEvent true) cause same = record { event_is = refl; cause_is = cc }
power-on (PowerEvent false) cause same = cc
power-on (Pin on) cause same = cc

boot-off : (flash : List ℕ) (pin : Bool) (kind : BusKind) (bad : Bool) (device changed : DeviceView) (after : Core) → IsLookedAt bad device changed → after ≡ booted flash pin PowerOn bad →
    Accounts (boot_hurt bad) (PowerEvent true) 0 device changed (off_table flash pin kind) (table_of after (fresh_bus kind))
boot-off flash pin kind true device changed after looked after_is = record {
  begun = 0;
  leaves = (refl, (refl, ap (λ (c : Core). let a : After = record { table = table_of c (fresh_bus kind); answer = 0 } in a) after_is));
  account = boot-account true device changed flash after.flash looked;
}
boot-off flash pin kind false device changed after looked after_is = record {
  begun = 0;
  leaves = (refl, ap (λ (c : Core). let a : After = record { table = table_of c (fresh_bus kind); answer = 0 } in a) after_is);
  account = boot-account false device changed flash after.flash looked;
}

boot-off-told : (off : OffView) (next : RunView) (pin : Bool) (kind : BusKind) (bad : Bool) → IsLookedAt bad off.device next.device →
    told_core next ≡ option_map (λ flash. booted flash pin PowerOn bad) off.device.held → EventTold (boot_hurt bad) (PowerEvent true) 0 off.device next.device (down_table kind pin off) (up_table (fresh_bus kind) next)
boot-off-told off next pin kind bad looked told = by off.device.held next.device.held told where
  by : (o p : Option (List ℕ)) → option_map (core_at next) p ≡ option_map (λ flash. booted flash pin PowerOn bad) o →
      EventTold (boot_hurt bad) (PowerEvent true) 0 off.device next.device (option_map (λ flash. off_table flash pin kind) o) (option_map (λ flash. table_of (core_at next flash) (fresh_bus kind)) p)
  by None None same = tt
  by None (Some g) same = cc
  by (Some f) None same = cc
  by (Some f) (Some g) same = boot-off f pin kind bad off.device next.device (core_at next g) looked (same-core (core_at next g) (booted f pin PowerOn bad) (Some (core_at next g)) refl same)

-- a boot of a controller that is off
pub booted-down : {F : Type 0} (kind : BusKind) (event : Event) (cause : ResetCause) (hurt : Hurt) (answer : ℕ) (old_bus new_bus : BusState) (off : OffView) (pin : Bool) (next : RunView) (held : Held F) → new_bus ≡ fresh_bus kind →
    hurt ≡ boot_hurt next.live.pstate_bad → held ≡ Up (Ro next) → IsTakenDown event (Some (BootTask cause)) answer → IsLookedAt next.live.pstate_bad off.device next.device →
    told_core next ≡ option_map (λ flash. booted flash pin PowerOn next.live.pstate_bad) off.device.held → next.pin ≡ pin →
    IsStepped kind event hurt (answer_by hurt answer (lost_answer event)) old_bus new_bus (Some (Down off pin)) (Some held)
booted-down {F} kind event cause hurt answer old_bus new_bus off pin next held bus_is hurt_is held_is taken looked told pin_is =
    let bad : Bool = next.live.pstate_bad in
    let power = power-on event cause (taken.task_is old_bus) in
    let nothing : answer ≡ 0 = taken.answer_is ∙ ap lost_answer power.event_is in
    let here : EventTold (boot_hurt bad) event answer off.device next.device (down_table kind pin off) (up_table (fresh_bus kind) next) =
    subst (λ (e : Event). EventTold (boot_hurt bad) e answer off.device next.device (down_table kind pin off) (up_table (fresh_bus kind) next)) (sym power.event_is)
    (subst (λ (n : ℕ). EventTold (boot_hurt bad) (PowerEvent true) n off.device next.device (down_table kind pin off) (up_table (fresh_bus kind) next)) (sym nothing) (boot-off-told off next pin kind bad looked told)) in
    subst (λ (h : Hurt). IsStepped {F = F} kind event h (answer_by h answer (lost_answer event)) old_bus new_bus (Some (Down off pin)) (Some held)) (sym hurt_is)
    (subst (λ (b : BusState). IsStepped {F = F} kind event (boot_hurt bad) (answer_by (boot_hurt bad) answer (lost_answer event)) old_bus b (Some (Down off pin)) (Some held)) (sym bus_is)
    (subst (λ (h : Held F). IsStepped {F = F} kind event (boot_hurt bad) (answer_by (boot_hurt bad) answer (lost_answer event)) old_bus (fresh_bus kind) (Some (Down off pin)) (Some h)) (sym held_is)
    (step-down {F = F} kind event (boot_hurt bad) answer old_bus (fresh_bus kind) (Some (BootTask cause)) off pin (Up (Ro next)) (boot-alive bad) taken here
    refl pin_is (fresh-none kind) (boot-spent bad off.device next.device looked))))
