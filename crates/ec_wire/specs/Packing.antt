-- Entries of a journal in a few bytes each: a number for each event and each Hurt, and what is read back.
use Rattle.std.specs.Prelude.{ℕ, ◌/◌, ◌%◌, ◌==◌, true, false, if◌then◌else◌, slice_index}
use Rattle.std.specs.Int.{from_le_bytes, w32}
use Rattle.ec_model.specs.declared.event.Access.{Access}
use Rattle.ec_model.specs.declared.event.Access.TheVariants.{PortOut, PortIn, I2cStartWrite, I2cStartRead, I2cWrite, I2cRead, I2cStop, SpiSelect, SpiByte, SpiDeselect}
use Rattle.ec_model.specs.declared.event.Event.{Event}
use Rattle.ec_model.specs.declared.event.Event.TheVariants.{Access as AccessEvent, Tick, Reset, Power as PowerEvent, Pin as PinEvent}
use Rattle.ec_model.specs.declared.event.WorldReset.TheVariants.{Pin, Watchdog}
use Rattle.ec_model.specs.declared.event.Entry.{Entry}
use Rattle.ec_model.specs.declared.event.Entry.TheVariants.{Step, Mark}
use Rattle.flash_dev.specs.declared.hurt.Hurt.{Hurt}
use Rattle.flash_dev.specs.declared.hurt.Hurt.TheVariants.{Whole, Failed, Cut}
use Rattle.ec_wire.specs.declared.packed.Packed.{Packed}

-- the number of an access
abbrev pub access_number : Access → ℕ
access_number (PortOut port byte) = 0
access_number (PortIn port) = 1
access_number I2cStartWrite = 2
access_number I2cStartRead = 3
access_number (I2cWrite byte) = 4
access_number I2cRead = 5
access_number I2cStop = 6
access_number SpiSelect = 7
access_number (SpiByte byte) = 8
access_number SpiDeselect = 9

-- the number of an event
abbrev pub event_number : Event → ℕ
event_number (AccessEvent access) = access_number access
event_number Tick = 10
event_number (Reset Pin) = 11
event_number (Reset Watchdog) = 12
event_number (PowerEvent false) = 13
event_number (PowerEvent true) = 14
event_number (PinEvent false) = 15
event_number (PinEvent true) = 16

-- the number of a Hurt
abbrev pub hurt_number : Hurt → ℕ
hurt_number Whole = 0
hurt_number Failed = 1
hurt_number Cut = 2

-- the port of an event, and 0 where it has none
abbrev pub event_port : Event → ℕ
event_port (AccessEvent (PortOut port byte)) = port
event_port (AccessEvent (PortIn port)) = port
event_port other = 0

-- the access of a number, with its port and its byte
abbrev pub numbered_access : ℕ → ℕ → ℕ → Access
numbered_access number port byte =
    if number == 0 then PortOut port byte else
    if number == 1 then PortIn port else
    if number == 2 then I2cStartWrite else
    if number == 3 then I2cStartRead else
    if number == 4 then I2cWrite byte else
    if number == 5 then I2cRead else
    if number == 6 then I2cStop else
    if number == 7 then SpiSelect else
    if number == 8 then SpiByte byte else
    SpiDeselect

-- the event of a number, with its port and its byte
abbrev pub numbered_event : ℕ → ℕ → ℕ → Event
numbered_event number port byte =
    if number == 10 then Tick else
    if number == 11 then Reset Pin else
    if number == 12 then Reset Watchdog else
    if number == 13 then PowerEvent false else
    if number == 14 then PowerEvent true else
    if number == 15 then PinEvent false else
    if number == 16 then PinEvent true else
    AccessEvent (numbered_access number port byte)

-- the Hurt of a number
abbrev pub numbered_hurt : ℕ → Hurt
numbered_hurt number = if number == 0 then Whole else if number == 1 then Failed else Cut

-- the entry that was packed
abbrev pub unpacked : Packed → Entry
unpacked packed =
    if packed.code == 0xFF then Mark (from_le_bytes w32 packed.bytes) else
    Step (numbered_event (packed.code / 4) packed.port (slice_index packed.bytes 0)) (slice_index packed.bytes 1) (slice_index packed.bytes 2) (slice_index packed.bytes 3)
    (numbered_hurt (packed.code % 4))
