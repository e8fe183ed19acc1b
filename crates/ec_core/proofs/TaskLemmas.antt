-- What an event leaves, by what its task leaves.
use Rattle.std.proofs.Common.{◌≡◌, refl, sym, ap, ◌∙◌, subst, ℕ, ◌≤◌, Bool, true, false, List, [], length, Option, Some, None}
use Rattle.std.specs.Prelude.{option_map, is_some}
use Rattle.flash_dev.specs.Device.{DeviceView}
use Rattle.ec_types.specs.declared.bus.BusKind.{BusKind}
use Rattle.flash_dev.specs.declared.hurt.Hurt.{Hurt}
use Rattle.flash_dev.specs.declared.hurt.Hurt.TheVariants.{Whole, Failed, Cut}
use Rattle.ec_model.specs.declared.event.Event.{Event}
use Rattle.ec_model.specs.declared.event.Event.TheVariants.{Access, Tick, Reset, Power as PowerEvent, Pin}
use Rattle.ec_model.specs.HostCalls.{on_after_event}
use Rattle.ec_model.specs.Bus.{BusState, BusAnswer, kind_of}
use Rattle.ec_model.specs.Table.{Core, Table, table_of, off_table}
use Rattle.ec_model.specs.Work.{Work, Rest, Serve, Stop, SetPin, work_on, work_off, bus_after, lost_answer, work_operations, After}
use Rattle.ec_model.specs.WholeStep.{worked_off}
use Rattle.ec_model.specs.Step.{WorkLeaves, OffLeaves}
use Rattle.ec_wire.specs.Dues.{waiting_request}
use Rattle.ec_boot.specs.declared.awake.Awake.{Awake}
use Rattle.ec_boot.specs.Either.{run_of}
use Rattle.ec_boot.specs.States.{RunView, OffView, core_at, told_core, Follows}
use Rattle.flash_dev.specs.Costs.{Costs, Account}
use Rattle.flash_dev.proofs.Accounting.{account-same}
use Rattle.ec_model.specs.Operations.{Operation}
use Rattle.ec_model.specs.Played.{WorkBegins}
use Rattle.flash_dev.specs.Counts.{RisesAtMost}
use Rattle.flash_dev.proofs.Costing.{rises-none, rises-more, costs-none}
use Rattle.ec_core.specs.Held.{awake_of, up_table, down_table, held_table, held_pin, held_device, is_up, is_kept_up, IsCalm, IsSpent, WearsLittle, IsSilent, Accounts, EventTold, answer_by, on_behind}
use Rattle.ec_core.specs.Task.{IsTakenUp, IsTakenDown, IsTaken, IsStepped, CanCarry, on_after_task, pin_after_task}
use Rattle.ec_core.specs.declared.held.Held.{Held}
use Rattle.ec_core.specs.declared.held.Held.TheVariants.{Down, Up}
use Rattle.ec_core.specs.declared.task.Task.{Task}
use Rattle.ec_core.specs.declared.task.Task.TheVariants.{Serve as ServeTask, Tick as TickTask, Boot as BootTask, Stop as StopTask, SetPin as SetPinTask}

-- a bus and an answer, by their parts
bus-answer : (both : BusAnswer) (state : BusState) (answer : ℕ) → state ≡ both.state → answer ≡ both.answer → ◌≡◌ {A = BusAnswer} (record { state = state; answer = answer }) both
bus-answer both state answer state_is answer_is =
    ap (λ (s : BusState). let b : BusAnswer = record { state = s; answer = answer } in b) state_is
    ∙ ap (λ (n : ℕ). let b : BusAnswer = record { state = both.state; answer = n } in b) answer_is

-- what some work leaves of what is on, with the flash operations that it began, as the device counted them
pub record WorkBegun (hurt : Hurt) (bus : BusAnswer) (lost : ℕ) (work : Work) (said : ℕ) (device changed : DeviceView) (core : Core) (table : Table) : Type 0 where
  pub begun : ℕ
  pub leaves : WorkBegins hurt begun core bus lost work (record { table = table; answer = said })
  pub account : Account begun hurt (work_operations core work) device changed core.flash table.flash

-- the same, where the flash tells its bytes
abbrev pub WorkTold : Hurt → BusAnswer → ℕ → Work → ℕ → DeviceView → RunView → Option Table → Type 0
WorkTold hurt bus lost work said changed run after = Follows (WorkBegun hurt bus lost work said run.device changed) (told_core run) after

-- work that calls no flash
pub none-begun : (bus : BusAnswer) (lost : ℕ) (work : Work) (said : ℕ) (device : DeviceView) (core : Core) (table : Table) → work_operations core work ≡ [] → WorkLeaves Whole core bus lost work (record { table = table; answer = said }) →
    WorkBegun Whole bus lost work said device device core table
none-begun bus lost work said device core table none leaves = record {
  begun = 0;
  leaves = (sym (ap (λ (operations : List Operation). length operations) none), leaves);
  account = subst (λ (operations : List Operation). Account 0 Whole operations device device core.flash table.flash) (sym none) (account-same [] device device core.flash table.flash refl);
}

-- an event leaves what its work does
pub event-told : (hurt : Hurt) (event : Event) (old_bus bus : BusState) (answer said : ℕ) (changed : DeviceView) (run : RunView) (work : Work) (after : Option Table) →
    bus ≡ (bus_after old_bus event).state → answer ≡ (bus_after old_bus event).answer → work_on (awake_of run old_bus) event ≡ work →
    WorkTold hurt (record { state = bus; answer = answer }) (lost_answer event) work said changed run after → EventTold hurt event said run.device changed (up_table old_bus run) after
event-told hurt event old_bus bus answer said changed run work after state_is answer_is work_is told = by run.device.held after told where
  by : (o : Option (List ℕ)) (t : Option Table) →
      Follows (WorkBegun hurt (record { state = bus; answer = answer }) (lost_answer event) work said run.device changed) (option_map (core_at run) o) t →
      EventTold hurt event said run.device changed (option_map (λ flash. table_of (core_at run flash) old_bus) o) t
  by None None here = tt
  by None (Some t) here = here
  by (Some f) None here = here
  by (Some f) (Some t) here =
      let begun = subst (λ (b : BusAnswer). WorkBegun hurt b (lost_answer event) (work_on (awake_of run old_bus) event) said run.device changed (core_at run f) t) (bus-answer (bus_after old_bus event) bus answer state_is answer_is)
      (subst (λ (w : Work). WorkBegun hurt (record { state = bus; answer = answer }) (lost_answer event) w said run.device changed (core_at run f) t) (sym work_is) here) in
      record { begun = begun.begun; leaves = begun.leaves; account = begun.account }

-- whether a controller is on, where power may have been lost
abbrev pub on_by : Hurt → Bool → Bool
on_by Cut on = false
on_by Whole on = on
on_by Failed on = on

pub on-after : (hurt : Hurt) (event : Event) (before after : Bool) → on_after_event event before ≡ after → on_behind hurt event before ≡ on_by hurt after
on-after Whole event before after same = same
on-after Failed event before after same = same
on-after Cut event before after same = refl

-- without power, an event that is no access answers 0
pub lost-silent : (event : Event) → IsSilent event (lost_answer event)
lost-silent (Access access) = tt
lost-silent Tick = refl
lost-silent (Reset cause) = refl
lost-silent (PowerEvent on) = refl
lost-silent (Pin on) = refl

silent-by : (hurt : Hurt) (event : Event) (answer : ℕ) → IsSilent event answer → IsSilent event (answer_by hurt answer (lost_answer event))
silent-by Whole event answer silent = silent
silent-by Failed event answer silent = silent
silent-by Cut event answer silent = lost-silent event

-- what an event costs, and how little it wears the flash
pub record Spends (hurt : Hurt) (old new : DeviceView) : Type 0 where
  pub costs : IsSpent hurt old new
  pub wears : WearsLittle old new

-- a step of a controller that is on, by its parts
pub step-up : {F : Type 0} (kind : BusKind) (event : Event) (hurt : Hurt) (answer : ℕ) (old_bus bus new_bus : BusState) (task : Option Task) (up : Awake F) (new : Held F) →
    IsTakenUp event old_bus task bus answer (run_of up) → EventTold hurt event (answer_by hurt answer (lost_answer event)) (run_of up).device (held_device new) (up_table old_bus (run_of up)) (held_table kind new_bus new) →
    is_up new ≡ on_by hurt (on_after_task task true) → held_pin new ≡ pin_after_task task (run_of up).pin → IsCalm new_bus new → Spends hurt (run_of up).device (held_device new) →
    IsStepped kind event hurt (answer_by hurt answer (lost_answer event)) old_bus new_bus (Some (Up up)) (Some new)
step-up kind event hurt answer old_bus bus new_bus task up new taken told on pin calm spends =
    record {
      told = told;
      on = on ∙ sym (on-after hurt event true (on_after_task task true) taken.like.on_is);
      pin = pin ∙ sym (taken.like.pin_is (run_of up).pin);
      off = λ up. cc;
      lost = λ cut. ap (λ (h : Hurt). answer_by h answer (lost_answer event)) cut;
      alive = λ cut. refl;
      silent = silent-by hurt event answer taken.like.silent;
      calm = calm;
      spent = spends.costs;
      wears = spends.wears;
    }

-- a step of a controller that is off, by its parts
pub step-down : {F : Type 0} (kind : BusKind) (event : Event) (hurt : Hurt) (answer : ℕ) (old_bus new_bus : BusState) (task : Option Task) (off : OffView) (pin : Bool) (new : Held F) → (hurt ≡ Cut → ⊥) →
    IsTakenDown event task answer → EventTold hurt event answer off.device (held_device new) (down_table kind pin off) (held_table kind new_bus new) →
    is_up new ≡ on_after_task task false → held_pin new ≡ pin_after_task task pin → IsCalm new_bus new → Spends hurt off.device (held_device new) →
    IsStepped kind event hurt (answer_by hurt answer (lost_answer event)) old_bus new_bus (Some (Down off pin)) (Some new)
step-down {F} kind event hurt answer old_bus new_bus task off pin new alive taken told on pin_is calm spends =
    subst (λ (said : ℕ). IsStepped {F = F} kind event hurt said old_bus new_bus (Some (Down off pin)) (Some new)) (sym (by hurt))
    (record {
      told = told;
      on = on ∙ sym (on_is hurt alive);
      pin = pin_is ∙ sym (taken.like.pin_is pin);
      off = λ up. taken.answer_is;
      lost = λ cut. absurd (alive cut);
      alive = λ cut. absurd (alive cut);
      silent = taken.like.silent;
      calm = calm;
      spent = spends.costs;
      wears = spends.wears;
    }) where
      by : (h : Hurt) → answer_by h answer (lost_answer event) ≡ answer
      by Whole = refl
      by Failed = refl
      by Cut = sym taken.answer_is

      on_is : (h : Hurt) → (h ≡ Cut → ⊥) → on_behind h event false ≡ on_after_task task false
      on_is Whole lives = taken.like.on_is
      on_is Failed lives = taken.like.on_is
      on_is Cut lives = absurd (lives refl)

-- nothing was spent in an event
pub spends-none : (device : DeviceView) → Spends Whole device device
spends-none device = record { costs = costs-none 1024 device; wears = rises-none 9 device.wear device.wear refl }

-- an event may wear the flash more than its task did
pub spends-in : (hurt : Hurt) (worn : ℕ) (old new : DeviceView) → worn ≤ 9 → Costs hurt 1024 old new → RisesAtMost worn old.wear new.wear → Spends hurt old new
spends-in hurt worn old new few costs rises = record { costs = costs; wears = rises-more worn 9 old.wear new.wear few rises }

-- a controller stays on where power was not lost
pub on-alive : (hurt : Hurt) → (hurt ≡ Cut → ⊥) → true ≡ on_by hurt true
on-alive Whole alive = refl
on-alive Failed alive = refl
on-alive Cut alive = absurd (alive refl)

-- work that leaves all as it is
pub rest-told : (bus : BusState) (answer lost : ℕ) (run : RunView) → WorkTold Whole (record { state = bus; answer = answer }) lost Rest answer run.device run (up_table bus run)
rest-told bus answer lost run = by run.device.held where
  by : (o : Option (List ℕ)) → Follows (WorkBegun Whole (record { state = bus; answer = answer }) lost Rest answer run.device run.device) (option_map (core_at run) o) (option_map (λ flash. table_of (core_at run flash) bus) o)
  by None = tt
  by (Some f) = none-begun (record { state = bus; answer = answer }) lost Rest answer run.device (core_at run f) (table_of (core_at run f) bus) refl refl

-- an event of a controller that is off calls no flash, but for a boot
pub none-off : (event : Event) (answer : ℕ) (device : DeviceView) (flash : List ℕ) (pin : Bool) (kind : BusKind) (table : Table) → OffLeaves Whole (off_table flash pin kind) event (record { table = table; answer = answer }) →
    Accounts Whole event answer device device (off_table flash pin kind) table
none-off event answer device flash pin kind table leaves = record { begun = 0; leaves = (refl, leaves); account = account-same [] device device flash table.flash refl }

rest-down : (kind : BusKind) (event : Event) (pin : Bool) (off : OffView) (answer : ℕ) → answer ≡ lost_answer event → work_off event ≡ Rest → EventTold Whole event answer off.device off.device (down_table kind pin off) (down_table kind pin off)
rest-down kind event pin off answer answer_is work_is = by off.device.held where
  by : (o : Option (List ℕ)) → EventTold Whole event answer off.device off.device (option_map (λ flash. off_table flash pin kind) o) (option_map (λ flash. off_table flash pin kind) o)
  by None = tt
  by (Some f) =
      none-off event answer off.device f pin kind (off_table f pin kind)
      (subst (λ (w : Work). ◌≡◌ {A = After} (record { table = off_table f pin kind; answer = answer }) (worked_off (off_table f pin kind) event w)) (sym work_is)
      (ap (λ (n : ℕ). let a : After = record { table = off_table f pin kind; answer = n } in a) answer_is))

-- an event without a task leaves what is held
pub stepped-rest : {F : Type 0} (kind : BusKind) (event : Event) (answer : ℕ) (old_bus bus : BusState) (held : Option (Held F)) → IsTaken event old_bus None bus answer held → IsStepped kind event Whole answer old_bus bus held held
stepped-rest kind event answer old_bus bus None taken = absurd taken
stepped-rest {F} kind event answer old_bus bus (Some (Up up)) taken =
    step-up {F = F} kind event Whole answer old_bus bus bus None up (Up up) taken
    (event-told Whole event old_bus bus answer answer (run_of up).device (run_of up) Rest (up_table bus (run_of up)) taken.state taken.answer_is taken.task_is (rest-told bus answer (lost_answer event) (run_of up)))
    refl refl taken.calm (spends-none (run_of up).device)
stepped-rest {F} kind event answer old_bus bus (Some (Down off pin)) taken =
    step-down {F = F} kind event Whole answer old_bus bus None off pin (Down off pin) (λ cut. cc) taken
    (rest-down kind event pin off answer taken.answer_is (taken.task_is bus)) refl refl tt (spends-none off.device)

-- a stop
stop-told : (bus : BusState) (kind : BusKind) (answer lost : ℕ) (run : RunView) (off : OffView) → kind_of bus ≡ kind → off.device ≡ run.device →
    WorkTold Whole (record { state = bus; answer = answer }) lost Stop answer off.device run (down_table kind run.pin off)
stop-told bus kind answer lost run off kind_is device_is =
    subst (λ (device : DeviceView). WorkTold Whole (record { state = bus; answer = answer }) lost Stop answer device run (option_map (λ flash. off_table flash run.pin kind) device.held)) (sym device_is) (by run.device.held) where
      by : (o : Option (List ℕ)) → Follows (WorkBegun Whole (record { state = bus; answer = answer }) lost Stop answer run.device run.device) (option_map (core_at run) o) (option_map (λ flash. off_table flash run.pin kind) o)
      by None = tt
      by (Some f) =
          none-begun (record { state = bus; answer = answer }) lost Stop answer run.device (core_at run f) (off_table f run.pin kind) refl
          (ap (λ (k : BusKind). let a : After = record { table = off_table f run.pin k; answer = answer } in a) (sym kind_is))

pub stopped-up : {F : Type 0} (kind : BusKind) (event : Event) (answer : ℕ) (old_bus bus : BusState) (up : Awake F) (off : OffView) (pin : Bool) → kind_of bus ≡ kind → off.device ≡ (run_of up).device → pin ≡ (run_of up).pin →
    IsTakenUp event old_bus (Some StopTask) bus answer (run_of up) → IsStepped {F = F} kind event Whole answer old_bus bus (Some (Up up)) (Some (Down off pin))
stopped-up {F} kind event answer old_bus bus up off pin kind_is device_is pin_is taken =
    subst (λ (p : Bool). IsStepped {F = F} kind event Whole answer old_bus bus (Some (Up up)) (Some (Down off p))) (sym pin_is)
    (step-up {F = F} kind event Whole answer old_bus bus bus (Some StopTask) up (Down off (run_of up).pin) taken
    (event-told Whole event old_bus bus answer answer off.device (run_of up) Stop (down_table kind (run_of up).pin off) taken.state taken.answer_is taken.task_is (stop-told bus kind answer (lost_answer event) (run_of up) off kind_is device_is))
    refl refl tt (subst (λ (device : DeviceView). Spends Whole (run_of up).device device) (sym device_is) (spends-none (run_of up).device)))

-- a change of the pin
pin-told : (bus : BusState) (answer lost : ℕ) (on : Bool) (run : RunView) → WorkTold Whole (record { state = bus; answer = answer }) lost (SetPin on) answer run.device run (up_table bus (record run { pin = on }))
pin-told bus answer lost on run = by run.device.held where
  by : (o : Option (List ℕ)) → Follows (WorkBegun Whole (record { state = bus; answer = answer }) lost (SetPin on) answer run.device run.device) (option_map (core_at run) o) (option_map (λ flash. table_of (core_at (record run { pin = on }) flash) bus) o)
  by None = tt
  by (Some f) = none-begun (record { state = bus; answer = answer }) lost (SetPin on) answer run.device (core_at run f) (table_of (core_at (record run { pin = on }) f) bus) refl refl

pub pinned-up : {F : Type 0} (kind : BusKind) (event : Event) (on : Bool) (answer : ℕ) (old_bus bus : BusState) (up later : Awake F) → run_of later ≡ record (run_of up) { pin = on } →
    IsTakenUp event old_bus (Some (SetPinTask on)) bus answer (run_of up) → IsStepped {F = F} kind event Whole answer old_bus bus (Some (Up up)) (Some (Up later))
pinned-up {F} kind event on answer old_bus bus up later next_is taken =
    let told = event-told Whole event old_bus bus answer answer (run_of up).device (run_of up) (SetPin on) (up_table bus (record (run_of up) { pin = on })) taken.state taken.answer_is taken.task_is (pin-told bus answer (lost_answer event) on (run_of up)) in
    step-up {F = F} kind event Whole answer old_bus bus bus (Some (SetPinTask on)) up (Up later) taken
    (subst (λ (r : RunView). EventTold Whole event answer (run_of up).device r.device (up_table old_bus (run_of up)) (up_table bus r)) (sym next_is) told)
    refl (ap (λ (r : RunView). r.pin) next_is) taken.calm
    (subst (λ (r : RunView). Spends Whole (run_of up).device r.device) (sym next_is) (spends-none (run_of up).device))

-- only a change of the pin has a controller set it that is off, and that answers nothing
pub record IsPin (event : Event) (on : Bool) : Type 0 where
  pub event_is : event ≡ Pin on

pin-event : (event : Event) (on : Bool) → work_off event ≡ SetPin on → IsPin event on
pin-event (Access access) on same = cc
pin-event Tick on same = cc
pin-event (Reset other) on same = cc
pin-event (PowerEvent true) on same = cc
pin-event (PowerEvent false) on same = cc
pin-event (Pin other) on same = record { event_is = cc }

pin-off-told : (kind : BusKind) (pin on : Bool) (off : OffView) → EventTold Whole (Pin on) 0 off.device off.device (down_table kind pin off) (down_table kind on off)
pin-off-told kind pin on off = by off.device.held where
  by : (o : Option (List ℕ)) → EventTold Whole (Pin on) 0 off.device off.device (option_map (λ flash. off_table flash pin kind) o) (option_map (λ flash. off_table flash on kind) o)
  by None = tt
  by (Some f) = none-off (Pin on) 0 off.device f pin kind (off_table f on kind) refl

pub pinned-down : {F : Type 0} (kind : BusKind) (event : Event) (on : Bool) (answer : ℕ) (old_bus bus : BusState) (off : OffView) (pin : Bool) → IsTakenDown event (Some (SetPinTask on)) answer →
    IsStepped {F = F} kind event Whole answer old_bus bus (Some (Down off pin)) (Some (Down off on))
pinned-down {F} kind event on answer old_bus bus off pin taken =
    let is = pin-event event on (taken.task_is old_bus) in
    let nothing : answer ≡ 0 = taken.answer_is ∙ ap lost_answer is.event_is in
    let here : EventTold Whole event answer off.device off.device (down_table kind pin off) (down_table kind on off) =
    subst (λ (e : Event). EventTold Whole e answer off.device off.device (down_table kind pin off) (down_table kind on off)) (sym is.event_is)
    (subst (λ (n : ℕ). EventTold Whole (Pin on) n off.device off.device (down_table kind pin off) (down_table kind on off)) (sym nothing) (pin-off-told kind pin on off)) in
    step-down {F = F} kind event Whole answer old_bus bus (Some (SetPinTask on)) off pin (Down off on) (λ cut. cc) taken here refl refl tt (spends-none off.device)

-- a request is there where one is to be served, and only a controller that is on serves, ticks or stops
serves-not : (event : Event) (request : List ℕ) → work_off event ≡ Serve request → ⊥
serves-not (Access access) request same = cc
serves-not Tick request same = cc
serves-not (Reset other) request same = cc
serves-not (PowerEvent true) request same = cc
serves-not (PowerEvent false) request same = cc
serves-not (Pin other) request same = cc

ticks-not : (work : Work) → None ≡ Some work → ⊥
ticks-not work same = cc

stops-not : (event : Event) → work_off event ≡ Stop → ⊥
stops-not (Access access) same = cc
stops-not Tick same = cc
stops-not (Reset other) same = cc
stops-not (PowerEvent true) same = cc
stops-not (PowerEvent false) same = cc
stops-not (Pin other) same = cc

is-some : (o : Option (List ℕ)) (request : List ℕ) → o ≡ Some request → is_some o ≡ true
is-some o request same = ap (λ (p : Option (List ℕ)). is_some p) same

pub can-carry : {F : Type 0} (event : Event) (old_bus bus : BusState) (task : Task) (answer : ℕ) (held : Option (Held F)) → IsTaken event old_bus (Some task) bus answer held → CanCarry task bus (is_kept_up held)
can-carry event old_bus bus task answer None taken = absurd taken
can-carry event old_bus bus ServeTask answer (Some (Up up)) taken = is-some (waiting_request bus) taken.task_is.request taken.task_is.asked
can-carry event old_bus bus TickTask answer (Some (Up up)) taken = tt
can-carry event old_bus bus (BootTask cause) answer (Some (Up up)) taken = tt
can-carry event old_bus bus StopTask answer (Some (Up up)) taken = tt
can-carry event old_bus bus (SetPinTask on) answer (Some (Up up)) taken = tt
can-carry event old_bus bus ServeTask answer (Some (Down off pin)) taken = serves-not event (taken.task_is bus).request (taken.task_is bus).serves
can-carry event old_bus bus TickTask answer (Some (Down off pin)) taken = ticks-not (work_off event) (taken.task_is bus)
can-carry event old_bus bus (BootTask cause) answer (Some (Down off pin)) taken = tt
can-carry event old_bus bus StopTask answer (Some (Down off pin)) taken = stops-not event (taken.task_is bus)
can-carry event old_bus bus (SetPinTask on) answer (Some (Down off pin)) taken = tt
