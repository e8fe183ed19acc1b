-- What an event has the controller do, and what is left once that is done.
use Rattle.std.specs.Prelude.{◌≡◌, ℕ, Bool, true, false, IsNone, IsSome, IsTrue, IsFalse, List, Option, Some, None, Result, ⊤}
use Rattle.ec_types.specs.declared.bus.BusKind.{BusKind}
use Rattle.ec_model.specs.declared.event.Event.{Event}
use Rattle.flash_dev.specs.Told.{Changes}
use Rattle.flash_dev.specs.Counts.{RisesAtMost}
use Rattle.flash_dev.specs.Costs.{Costs, hurt_of}
use Rattle.flash_dev.specs.declared.device.DevErr.{DevErr}
use Rattle.flash_dev.specs.declared.hurt.Hurt.{Hurt}
use Rattle.flash_dev.specs.declared.hurt.Hurt.TheVariants.{Cut}
use Rattle.ec_model.specs.Bus.{BusState, due_now}
use Rattle.ec_model.specs.HostCalls.{on_after_event}
use Rattle.ec_model.specs.Guarded.{pin_after}
use Rattle.ec_model.specs.Work.{Work, Rest, Serve, Boot, Stop, SetPin, idle_work, work_on, work_off, bus_after, lost_answer}
use Rattle.ec_wire.specs.Dues.{waiting_request}
use Rattle.ec_boot.specs.Either.{run_of}
use Rattle.ec_boot.specs.States.{RunView, told_core}
use Rattle.ec_boot.specs.Ticked.{IsTicked}
use Rattle.ec_core.specs.Held.{awake_of, kept_table, kept_device, kept_pin, is_kept_up, IsKept, IsSpent, WearsLittle, IsSilent, EventTold, answer_behind, on_behind}
use Rattle.command_table.specs.Serving.{Finds, IsServed}
use Rattle.command_table.specs.declared.reboot.Next.{Next}
use Rattle.ec_core.specs.declared.held.Held.{Held}
use Rattle.ec_core.specs.declared.held.Held.TheVariants.{Down, Up}
use Rattle.ec_core.specs.declared.task.Task.{Task}
use Rattle.ec_core.specs.declared.task.Task.TheVariants.{Serve as ServeTask, Tick as TickTask, Boot as BootTask, Stop as StopTask, SetPin as SetPinTask}

-- the work is to serve the request that the bus has
pub record IsServing (bus : BusState) (work : Work) : Type 0 where
  pub request : List ℕ
  pub serves : work ≡ Serve request
  pub asked : waiting_request bus ≡ Some request

-- A task, if there is one, is this work; the request of one that serves is on the bus. `idle` is the work of a tick that
-- serves none, where the controller is on.
abbrev pub IsTask : Option Work → Option Task → BusState → Work → Type 0
IsTask idle None bus work = work ≡ Rest
IsTask idle (Some ServeTask) bus work = IsServing bus work
IsTask idle (Some TickTask) bus work = idle ≡ Some work
IsTask idle (Some (BootTask cause)) bus work = work ≡ Boot cause
IsTask idle (Some StopTask) bus work = work ≡ Stop
IsTask idle (Some (SetPinTask on)) bus work = work ≡ SetPin on

-- no request is due now but one to serve
abbrev pub IsCalmBut : Option Task → BusState → Type 0
IsCalmBut (Some ServeTask) bus = ⊤
IsCalmBut other bus = IsNone (due_now bus)

-- a request to serve is there, and only a controller that is on serves, ticks or stops
abbrev pub CanCarry : Task → BusState → Bool → Type 0
CanCarry ServeTask bus true = IsSome (waiting_request bus)
CanCarry ServeTask bus false = ⊥
CanCarry TickTask bus false = ⊥
CanCarry StopTask bus false = ⊥
CanCarry other bus on = ⊤

-- whether the controller is on once a task is done whole
abbrev pub on_after_task : Option Task → Bool → Bool
on_after_task (Some StopTask) before = false
on_after_task (Some (BootTask cause)) before = true
on_after_task other before = before

-- the pin once a task is done
abbrev pub pin_after_task : Option Task → Bool → Bool
pin_after_task (Some (SetPinTask on)) before = on
pin_after_task other before = before

-- a task leaves the power and the pin as its event does, and an event that is no access answers 0
pub record IsLike (event : Event) (task : Option Task) (answer : ℕ) (on : Bool) : Type 0 where
  pub on_is : on_after_event event on ≡ on_after_task task on
  pub pin_is : (pin : Bool) → pin_after event pin ≡ pin_after_task task pin
  pub silent : IsSilent event answer

-- a controller that is on took an event
pub record IsTakenUp (event : Event) (old_bus : BusState) (task : Option Task) (bus : BusState) (answer : ℕ) (run : RunView) : Type 0 where
  pub state : bus ≡ (bus_after old_bus event).state
  pub answer_is : answer ≡ (bus_after old_bus event).answer
  pub task_is : IsTask (Some (idle_work run.live.erase run.live.hash)) task bus (work_on (awake_of run old_bus) event)
  pub calm : IsCalmBut task bus
  pub like : IsLike event task answer true

-- a controller that is off took an event
pub record IsTakenDown (event : Event) (task : Option Task) (answer : ℕ) : Type 0 where
  pub answer_is : answer ≡ lost_answer event
  pub task_is : (bus : BusState) → IsTask None task bus (work_off event)
  pub like : IsLike event task answer false

-- a controller took an event
abbrev pub IsTaken : {F : Type 0} → Event → BusState → Option Task → BusState → ℕ → Option (Held F) → Type 0
IsTaken event old_bus task bus answer None = ⊥
IsTaken event old_bus task bus answer (Some (Up up)) = IsTakenUp event old_bus task bus answer (run_of up)
IsTaken event old_bus task bus answer (Some (Down off pin)) = IsTakenDown event task answer

-- what an event made of what a controller holds, and answered
pub record IsStepped {F : Type 0} (kind : BusKind) (event : Event) (hurt : Hurt) (answer : ℕ) (old_bus bus : BusState) (old new : Option (Held F)) : Type 0 where
  pub told : EventTold hurt event answer (kept_device old) (kept_device new) (kept_table kind old_bus old) (kept_table kind bus new)
  pub on : is_kept_up new ≡ on_behind hurt event (is_kept_up old)
  pub pin : kept_pin new ≡ pin_after event (kept_pin old)
  pub off : IsFalse (is_kept_up old) → answer ≡ lost_answer event
  pub lost : hurt ≡ Cut → answer ≡ lost_answer event
  pub alive : hurt ≡ Cut → IsTrue (is_kept_up old)
  pub silent : IsSilent event answer
  pub calm : IsKept bus new
  pub spent : IsSpent hurt (kept_device old) (kept_device new)
  pub wears : WearsLittle (kept_device old) (kept_device new)

-- what a task made of what a controller holds, for each event that it is the task of
abbrev pub IsCarried : {F : Type 0} → BusKind → Task → Hurt → Bool → BusState → BusState → Option (Held F) → Option (Held F) → Type 0
IsCarried kind task hurt restarted bus new_bus old new =
    (event : Event) (old_bus : BusState) (answer : ℕ) → IsTaken event old_bus (Some task) bus answer old →
    IsStepped kind event hurt (answer_behind restarted hurt answer (lost_answer event)) old_bus new_bus old new

-- a request was served on what a controller holds, which is on: what was done for it, by what is left to do
abbrev pub IsKeptServed : {F : Type 0} → Next → ℕ → Finds → Hurt → ℕ → List ℕ → Option (Held F) → Option (Held F) → Type 0
IsKeptServed next limit finds hurt status body (Some (Up old)) (Some (Up new)) = IsServed next limit finds hurt status body (run_of old) (run_of new)
IsKeptServed next limit finds hurt status body old new = ⊥

-- what a controller's tick did, on the runs before and behind it
pub record Ticks {T : Type 0} (run next : RunView) (result : Result T DevErr) : Type 0 where
  pub told : Changes (λ before after. IsTicked (idle_work before.live.erase before.live.hash) run.device next.device before after result) (told_core run) (told_core next)
  pub pin : next.pin ≡ run.pin
  pub spent : Costs (hurt_of result) 1024 run.device next.device
  pub wear : RisesAtMost 1 run.device.wear next.device.wear

-- a tick was done on what a controller holds, which is on
abbrev pub IsKeptTicked : {F T : Type 0} → Result T DevErr → Option (Held F) → Option (Held F) → Type 0
IsKeptTicked result (Some (Up old)) (Some (Up new)) = Ticks (run_of old) (run_of new) result
IsKeptTicked result old new = ⊥
