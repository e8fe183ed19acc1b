-- The controller's side of the three buses: what each access does, and what it answers.
use Rattle.std.specs.Prelude.{ℕ, ◌+◌, ◌-◌, Bool, true, false, not, ◌&&◌, ◌==◌, nat_lt, nat_le, if◌then◌else◌, List, [], ◌∷◌, ◌++◌, length, replicate, slice_index, slice_set, Option, Some, None, bit_and}
use Rattle.flash_dev.specs.Flash.{overwritten}
use Rattle.ec_types.specs.LittleEndian.{u16_at, has_bit}
use Rattle.ec_types.specs.declared.bus.BusKind.{BusKind}
use Rattle.ec_types.specs.declared.bus.BusKind.TheVariants.{Lpc, I2c, Spi}
use Rattle.ec_model.specs.declared.event.Access.{Access}
use Rattle.ec_model.specs.declared.event.Access.TheVariants.{PortOut, PortIn, I2cStartWrite, I2cStartRead, I2cWrite, I2cRead, I2cStop, SpiSelect, SpiByte, SpiDeselect}

-- LPC: a window of 256 bytes, a status byte and a result byte
pub record LpcState : Type 0 where
  pub window : List ℕ
  pub status : ℕ
  pub outcome : ℕ

-- I2C: idle or writing, with what was written last; a request that is due now; or reading what is left of a reply
pub data I2cState : Type 0 where
  Idle : List ℕ → I2cState
  Writing : List ℕ → I2cState
  Asked : List ℕ → I2cState
  Reading : List ℕ → I2cState

-- SPI: not selected; receiving, with what came; bad; due, with the request; or replied, with what is left to send
pub data SpiState : Type 0 where
  Deselected : SpiState
  Receiving : List ℕ → SpiState
  Bad : SpiState
  Waiting : List ℕ → SpiState
  Replied : List ℕ → SpiState

-- the state of a bus
pub data BusState : Type 0 where
  OnLpc : LpcState → BusState
  OnI2c : I2cState → BusState
  OnSpi : SpiState → BusState

-- the bus of a state
abbrev pub kind_of : BusState → BusKind
kind_of (OnLpc state) = Lpc
kind_of (OnI2c state) = I2c
kind_of (OnSpi state) = Spi

-- the state after a boot
abbrev pub fresh_bus : BusKind → BusState
fresh_bus Lpc = OnLpc (record { window = replicate 256 0; status = 0; outcome = 0 })
fresh_bus I2c = OnI2c (Idle [])
fresh_bus Spi = OnSpi Deselected

-- a state, and the byte that the access got
pub record BusAnswer : Type 0 where
  pub state : BusState
  pub answer : ℕ

-- whether a status byte says busy
abbrev pub is_busy : ℕ → Bool
is_busy status = has_bit 0x06 status

-- whether a port is in the window
abbrev pub in_window : ℕ → Bool
in_window port = nat_le 0x800 port && nat_lt port 0x900

-- LPC after a write to a port
abbrev pub lpc_out : LpcState → ℕ → ℕ → LpcState
lpc_out state port byte =
    if is_busy state.status then state else
    if in_window port then record state { window = slice_set state.window (port - 0x800) byte } else
    if port == 0x204 then
    (if byte == 0xDA then record state { status = 0x06; outcome = 0xFF } else record state { status = 0x01; outcome = 1 })
    else state

-- the byte that a port shows
abbrev pub lpc_in : LpcState → ℕ → ℕ
lpc_in state port =
    if in_window port then slice_index state.window (port - 0x800) else
    if port == 0x204 then state.status else
    if port == 0x200 then state.outcome else
    0xFF

-- LPC after a read of a port
abbrev pub lpc_after_in : LpcState → ℕ → LpcState
lpc_after_in state port = if port == 0x200 then record state { status = bit_and state.status 0xFE } else state

-- one access on LPC
abbrev pub lpc_step : LpcState → Access → BusAnswer
lpc_step state (PortOut port byte) = record { state = OnLpc (lpc_out state port byte); answer = 0 }
lpc_step state (PortIn port) = record { state = OnLpc (lpc_after_in state port); answer = lpc_in state port }
lpc_step state other = record { state = OnLpc state; answer = 0xFF }

-- what was written, where that is kept
abbrev pub written_so_far : I2cState → List ℕ
written_so_far (Idle written) = written
written_so_far (Writing written) = written
written_so_far (Asked request) = []
written_so_far (Reading left) = []

-- what a start of a read finds, by what was written
abbrev pub i2c_started : List ℕ → I2cState
i2c_started [] = Reading []
i2c_started (first ∷ rest) = if first == 0xDA then Asked rest else Reading (0x01 ∷ 0x00 ∷ [])

-- I2C after a byte was written, and the answer to it
abbrev pub i2c_written : I2cState → ℕ → BusAnswer
i2c_written (Writing written) byte =
    record { state = OnI2c (Writing (if nat_lt (length written) 129 then written ++ byte ∷ [] else written)); answer = 0 }
i2c_written other byte = record { state = OnI2c other; answer = 0xFF }

-- I2C after a byte was read, and that byte
abbrev pub i2c_read : I2cState → BusAnswer
i2c_read (Reading (next ∷ left)) = record { state = OnI2c (Reading left); answer = next }
i2c_read other = record { state = OnI2c other; answer = 0xFF }

-- I2C after a stop: only what was written is kept
abbrev pub i2c_stopped : I2cState → I2cState
i2c_stopped state = Idle (written_so_far state)

-- one access on I2C
abbrev pub i2c_step : I2cState → Access → BusAnswer
i2c_step state I2cStartWrite = record { state = OnI2c (Writing []); answer = 0 }
i2c_step state I2cStartRead = record { state = OnI2c (i2c_started (written_so_far state)); answer = 0 }
i2c_step state (I2cWrite byte) = i2c_written state byte
i2c_step state I2cRead = i2c_read state
i2c_step state I2cStop = record { state = OnI2c (i2c_stopped state); answer = 0 }
i2c_step state other = record { state = OnI2c state; answer = 0xFF }

-- the most bytes of a request's body on any bus
abbrev pub largest_body : ℕ
largest_body = 536

-- SPI with these bytes of a request
abbrev pub spi_received : List ℕ → SpiState
spi_received bytes =
    if nat_lt (length bytes) 8 then Receiving bytes else
    if nat_lt largest_body (u16_at 6 bytes) then Bad else
    if nat_lt (length bytes) (8 + u16_at 6 bytes) then Receiving bytes else
    Waiting bytes

-- SPI after a byte, and the answer to it
abbrev pub spi_byte : SpiState → ℕ → BusAnswer
spi_byte Deselected byte = record { state = OnSpi Deselected; answer = 0xFF }
spi_byte (Receiving bytes) byte =
    record { state = OnSpi (spi_received (bytes ++ byte ∷ [])); answer = if length bytes == 0 then 0xF8 else 0xF9 }
spi_byte Bad byte = record { state = OnSpi Bad; answer = 0xFB }
spi_byte (Waiting request) byte = record { state = OnSpi (Waiting request); answer = 0xFA }
spi_byte (Replied []) byte = record { state = OnSpi (Replied []); answer = 0xED }
spi_byte (Replied (next ∷ left)) byte = record { state = OnSpi (Replied left); answer = next }

-- one access on SPI
abbrev pub spi_step : SpiState → Access → BusAnswer
spi_step state SpiSelect = record { state = OnSpi (Receiving []); answer = 0 }
spi_step state (SpiByte byte) = spi_byte state byte
spi_step state SpiDeselect = record { state = OnSpi Deselected; answer = 0 }
spi_step state other = record { state = OnSpi state; answer = 0xFF }

-- one access, by the bus
abbrev pub bus_step : BusState → Access → BusAnswer
bus_step (OnLpc state) access = lpc_step state access
bus_step (OnI2c state) access = i2c_step state access
bus_step (OnSpi state) access = spi_step state access

-- the request that is due now, if there is one
abbrev pub due_now : BusState → Option (List ℕ)
due_now (OnI2c (Asked request)) = Some request
due_now other = None

-- the request that waits for a tick, if there is one
abbrev pub due_at_tick : BusState → Option (List ℕ)
due_at_tick (OnLpc state) = if state.status == 0x06 then Some state.window else None
due_at_tick (OnSpi (Waiting request)) = Some request
due_at_tick other = None

-- the low byte of a response packet's result
abbrev pub low_status : List ℕ → ℕ
low_status packet = slice_index packet 2

-- the bus once the request that is due got its response packet
abbrev pub replied : List ℕ → BusState → BusState
replied packet (OnLpc state) =
    OnLpc (record { window = overwritten 0 packet state.window; status = 0x01; outcome = low_status packet })
replied packet (OnI2c state) = OnI2c (Reading (low_status packet ∷ length packet ∷ packet))
replied packet (OnSpi state) = OnSpi (Replied (0xEC ∷ packet))

-- whether no transaction is under way
abbrev pub is_at_rest : BusState → Bool
is_at_rest (OnLpc state) = not (is_busy state.status)
is_at_rest (OnI2c (Idle written)) = true
is_at_rest (OnI2c other) = false
is_at_rest (OnSpi Deselected) = true
is_at_rest (OnSpi other) = false
