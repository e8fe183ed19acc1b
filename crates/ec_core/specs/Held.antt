-- What a controller holds: the flash and the pin alone, or all that is on.
use Rattle.std.specs.Prelude.{◌≡◌, ℕ, Bool, true, false, Option, Some, None, option_map, IsNone, IfSome, ⊤}
use Rattle.flash_dev.specs.Told.{Changes}
use Rattle.flash_dev.specs.Device.{DeviceView}
use Rattle.ec_types.specs.declared.bus.BusKind.{BusKind}
use Rattle.ec_model.specs.declared.event.Event.{Event}
use Rattle.ec_model.specs.declared.event.Event.TheVariants.{Access as AccessEvent}
use Rattle.flash_dev.specs.declared.hurt.Hurt.{Hurt}
use Rattle.flash_dev.specs.declared.hurt.Hurt.TheVariants.{Whole, Failed, Cut}
use Rattle.ec_model.specs.Bus.{BusState, due_now}
use Rattle.ec_model.specs.Table.{Awake, Table, Valid, off_table, table_of}
use Rattle.ec_model.specs.HostCalls.{on_after_event}
use Rattle.ec_model.specs.Work.{operations_of}
use Rattle.ec_model.specs.Played.{EventBegins}
use Rattle.flash_dev.specs.Counts.{RisesAtMost}
use Rattle.flash_dev.specs.Costs.{Costs, Account}
use Rattle.ec_boot.specs.Either.{run_of}
use Rattle.ec_boot.specs.States.{RunView, OffView, core_at}
use Rattle.ec_core.specs.declared.held.Held.{Held}
use Rattle.ec_core.specs.declared.held.Held.TheVariants.{Down, Up}

-- what is on, with its bus
abbrev pub awake_of : RunView → BusState → Awake
awake_of run bus = record { live = run.live; nonce = run.nonce; bus = bus }

-- the table of a controller that is on
abbrev pub up_table : BusState → RunView → Option Table
up_table bus run = option_map (λ flash. table_of (core_at run flash) bus) run.device.held

-- the table of a controller that is off
abbrev pub down_table : BusKind → Bool → OffView → Option Table
down_table kind pin off = option_map (λ flash. off_table flash pin kind) off.device.held

-- the table of what is held, where the flash tells its bytes
abbrev pub held_table : {F : Type 0} → BusKind → BusState → Held F → Option Table
held_table kind bus (Down off pin) = down_table kind pin off
held_table kind bus (Up up) = up_table bus (run_of up)

-- whether it is on
abbrev pub is_up : {F : Type 0} → Held F → Bool
is_up (Down off pin) = false
is_up (Up up) = true

-- the pin
abbrev pub held_pin : {F : Type 0} → Held F → Bool
held_pin (Down off pin) = pin
held_pin (Up up) = (run_of up).pin

-- the device
abbrev pub held_device : {F : Type 0} → Held F → DeviceView
held_device (Down off pin) = off.device
held_device (Up up) = (run_of up).device

-- no request is due now, where the controller is on
abbrev pub IsCalm : {F : Type 0} → BusState → Held F → Type 0
IsCalm bus (Down off pin) = ⊤
IsCalm bus (Up up) = IsNone (due_now bus)

-- the table of a controller, which always holds something
abbrev pub kept_table : {F : Type 0} → BusKind → BusState → Option (Held F) → Option Table
kept_table kind bus None = None
kept_table kind bus (Some held) = held_table kind bus held

-- whether a controller is on
abbrev pub is_kept_up : {F : Type 0} → Option (Held F) → Bool
is_kept_up None = false
is_kept_up (Some held) = is_up held

-- the pin of a controller
abbrev pub kept_pin : {F : Type 0} → Option (Held F) → Bool
kept_pin None = false
kept_pin (Some held) = held_pin held

-- the device of a controller
abbrev pub kept_device : {F : Type 0} → Option (Held F) → DeviceView
kept_device None = record {
  held = None;
  extent = 0;
  faults = 0;
  cuts = 0;
  own_cuts = 0;
  refusals = 0;
  begun = 0;
  armed = None;
  wear = 0;
  fetched = 0;
}
kept_device (Some held) = held_device held

-- a controller holds something, and no request is due now where it is on
abbrev pub IsKept : {F : Type 0} → BusState → Option (Held F) → Type 0
IsKept bus None = ⊥
IsKept bus (Some held) = IsCalm bus held

-- what holds of each controller
pub record IsController {F : Type 0} (kind : BusKind) (bus : BusState) (held : Option (Held F)) : Type 0 where
  pub kept : IsKept bus held
  pub valid : IfSome (kept_table kind bus held) Valid

-- the answer of an event, where power may have been lost inside it
abbrev pub answer_by : Hurt → ℕ → ℕ → ℕ
answer_by Cut answer lost = lost
answer_by Whole answer lost = answer
answer_by Failed answer lost = answer

-- the answer of an event, where power may have been lost inside it, or a request restarted the controller
abbrev pub answer_behind : Bool → Hurt → ℕ → ℕ → ℕ
answer_behind true hurt answer lost = lost
answer_behind false hurt answer lost = answer_by hurt answer lost

-- what an event leaves and answers, with the flash operations that it began, as the device counted them
pub record Accounts (hurt : Hurt) (event : Event) (answer : ℕ) (device changed : DeviceView) (old new : Table) : Type 0 where
  pub begun : ℕ
  pub leaves : EventBegins hurt begun old event old.power (record { table = new; answer = answer })
  pub account : Account begun hurt (operations_of old event) device changed old.flash new.flash

-- the same, where the flash tells its bytes
abbrev pub EventTold : Hurt → Event → ℕ → DeviceView → DeviceView → Option Table → Option Table → Type 0
EventTold hurt event answer device changed = Changes (Accounts hurt event answer device changed)

-- an event that is no access answers 0
abbrev pub IsSilent : Event → ℕ → Type 0
IsSilent (AccessEvent access) answer = ⊤
IsSilent other answer = answer ≡ 0

-- whether the controller is on behind an event, by what a flash call did in it and whether it was on before
abbrev pub on_behind : Hurt → Event → Bool → Bool
on_behind Cut event before = false
on_behind Whole event before = on_after_event event before
on_behind Failed event before = on_after_event event before

-- what an event costs the device: at most 1,024 bytes are read
abbrev pub IsSpent : Hurt → DeviceView → DeviceView → Type 0
IsSpent hurt old new = Costs hurt 1024 old new

-- at most nine operations of an event are wear, as many as a write has pieces
abbrev pub WearsLittle : DeviceView → DeviceView → Type 0
WearsLittle old new = RisesAtMost 9 old.wear new.wear
