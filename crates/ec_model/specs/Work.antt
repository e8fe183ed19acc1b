-- What an event has the controller do, once the bus took the access.
use Rattle.std.specs.Prelude.{ℕ, Bool, true, false, List, [], ◌∷◌, Option, Some, None}
use Rattle.ec_types.specs.declared.reset.ResetCause.{ResetCause}
use Rattle.ec_types.specs.declared.reset.ResetCause.TheVariants.{PowerOn, Pin as PinReset, Watchdog as WatchdogReset}
use Rattle.ec_model.specs.declared.event.Event.{Event}
use Rattle.ec_model.specs.declared.event.Event.TheVariants.{Access, Tick, Reset, Power as PowerEvent, Pin as PinEvent}
use Rattle.ec_model.specs.declared.event.WorldReset.{WorldReset}
use Rattle.ec_model.specs.declared.event.WorldReset.TheVariants.{Pin, Watchdog}
use Rattle.ec_model.specs.declared.live.HashView.{HashView}
use Rattle.ec_model.specs.declared.live.HashView.TheVariants.{Busy}
use Rattle.ec_model.specs.declared.live.EraseJob.{EraseJob}
use Rattle.ec_model.specs.Bus.{BusState, BusAnswer, bus_step, due_now, due_at_tick}
use Rattle.ec_model.specs.Table.{Table, Awake, Power, Off, On, Core, core_of}
use Rattle.ec_model.specs.Operations.{Operation, Erase}
use Rattle.ec_model.specs.Handle.{handled_operations}

-- a table, and the byte that the event answers
pub record After : Type 0 where
  pub table : Table
  pub answer : ℕ

-- what an event has the controller do, once the bus took the access
pub data Work : Type 0 where
  Rest : Work
  Serve : List ℕ → Work
  EraseNext : EraseJob → Work
  HashNext : Work
  Boot : ResetCause → Work
  Stop : Work
  SetPin : Bool → Work

-- the cause of a reset from outside
abbrev pub cause_of : WorldReset → ResetCause
cause_of Pin = PinReset
cause_of Watchdog = WatchdogReset

-- the work of a hash: its next bytes, where it is busy
abbrev pub hash_work : HashView → Work
hash_work (Busy at size left) = HashNext
hash_work other = Rest

-- the work of a tick that serves no request: the next block of an erase, and else the hash
abbrev pub idle_work : Option EraseJob → HashView → Work
idle_work (Some job) hash = EraseNext job
idle_work None hash = hash_work hash

-- the request that is due, and else other work
abbrev pub serve_or : Option (List ℕ) → Work → Work
serve_or (Some request) other = Serve request
serve_or None other = other

-- the bus after an event's access, and the byte that the access got
abbrev pub bus_after : BusState → Event → BusAnswer
bus_after bus (Access access) = bus_step bus access
bus_after bus other = record { state = bus; answer = 0 }

-- the work of an event, where the controller is on
abbrev pub work_on : Awake → Event → Work
work_on awake (Access access) = serve_or (due_now (bus_step awake.bus access).state) Rest
work_on awake Tick = serve_or (due_at_tick awake.bus) (idle_work awake.live.erase awake.live.hash)
work_on awake (Reset cause) = Boot (cause_of cause)
work_on awake (PowerEvent true) = Rest
work_on awake (PowerEvent false) = Stop
work_on awake (PinEvent on) = SetPin on

-- the work of an event, where the controller is off
abbrev pub work_off : Event → Work
work_off (PowerEvent true) = Boot PowerOn
work_off (PinEvent on) = SetPin on
work_off other = Rest

-- whether an event is the power-on
abbrev pub is_power_on : Event → Bool
is_power_on (PowerEvent on) = on
is_power_on other = false

-- the byte that an event answers where the controller is off behind it, or was reset: 0xFF for an access
abbrev pub lost_answer : Event → ℕ
lost_answer (Access access) = 0xFF
lost_answer other = 0

-- the flash operations of some work
abbrev pub work_operations : Core → Work → List Operation
work_operations core (Serve request) = handled_operations core request
work_operations core (EraseNext job) = Erase job.next ∷ []
work_operations core other = []

-- the flash operations of an event, by whether the controller is on
abbrev pub operations_by_power : Table → Event → Power → List Operation
operations_by_power table event Off = []
operations_by_power table event (On awake) = work_operations (core_of table awake) (work_on awake event)

-- the flash operations of an event, in their order
abbrev pub operations_of : Table → Event → List Operation
operations_of table event = operations_by_power table event table.power
