-- Events in a row, and what the controller answers to them where nothing fails.
use Rattle.std.specs.Prelude.{ℕ, zero, suc, ◌+◌, true, false, List, [], ◌∷◌, ◌++◌, map, replicate}
use Rattle.ec_types.specs.declared.bus.BusKind.{BusKind}
use Rattle.ec_types.specs.declared.reset.ResetCause.TheVariants.{PowerOn}
use Rattle.ec_model.specs.declared.event.Access.TheVariants.{PortOut, PortIn, I2cStartWrite, I2cStartRead, I2cWrite, I2cRead, I2cStop, SpiByte}
use Rattle.ec_model.specs.declared.event.Event.{Event}
use Rattle.ec_model.specs.declared.event.Event.TheVariants.{Access, Tick}
use Rattle.ec_model.specs.Table.{Table}
use Rattle.ec_model.specs.Boot.{booted_table}
use Rattle.ec_model.specs.WholeStep.{stepped}

-- the controller behind a power-on, with the pin asserted
abbrev pub powered : List ℕ → BusKind → Table
powered flash bus = booted_table flash true bus PowerOn false

-- the bytes that the events answer
abbrev pub answers : Table → List Event → List ℕ
answers table [] = []
answers table (event ∷ events) = (stepped table event).answer ∷ answers (stepped table event).table events

-- the table behind the events
abbrev pub table_after : Table → List Event → Table
table_after table [] = table
table_after table (event ∷ events) = table_after (stepped table event).table events

-- bytes written to ports in a row
abbrev pub port_outs : ℕ → List ℕ → List Event
port_outs port [] = []
port_outs port (byte ∷ bytes) = Access (PortOut port byte) ∷ port_outs (port + 1) bytes

-- so many ports in a row that are read
abbrev pub port_ins : ℕ → ℕ → List Event
port_ins port zero = []
port_ins port (suc count) = Access (PortIn port) ∷ port_ins (port + 1) count

-- a packet that is sent and served on LPC
abbrev pub lpc_request : List ℕ → List Event
lpc_request packet = port_outs 0x800 packet ++ port_outs 0x204 (0xDA ∷ []) ++ Tick ∷ []

-- the result byte and the first bytes of the window once a packet was served on LPC
abbrev pub lpc_shown : Table → List ℕ → ℕ → List ℕ
lpc_shown table packet count = answers (table_after table (lpc_request packet)) (port_ins 0x200 1 ++ port_ins 0x800 count)

-- bytes that are written on I2C, from the start to the stop
abbrev pub i2c_message : List ℕ → List Event
i2c_message bytes = Access I2cStartWrite ∷ [] ++ map (λ byte. Access (I2cWrite byte)) bytes ++ Access I2cStop ∷ []

-- the first bytes that are read on I2C once these were written
abbrev pub i2c_shown : Table → List ℕ → ℕ → List ℕ
i2c_shown table bytes count =
    answers (table_after table (i2c_message bytes ++ Access I2cStartRead ∷ [])) (replicate count (Access I2cRead))

-- bytes that are sent on SPI
abbrev pub spi_bytes : List ℕ → List Event
spi_bytes bytes = map (λ byte. Access (SpiByte byte)) bytes
