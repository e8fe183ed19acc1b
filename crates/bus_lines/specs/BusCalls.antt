-- Lines that call the bus itself: which calls of the host they are, and what they print.
use Rattle.std.specs.Prelude.{◌≡◌, ℕ, ◌+◌, List, [], ◌∷◌, ◌++◌, length, replicate, codes}
use Rattle.hex.specs.Hex.{encode_lower}
use Rattle.ec_model.specs.declared.event.Access.TheVariants.{I2cStartWrite, I2cStartRead, I2cRead as I2cReadAccess, I2cStop, SpiSelect as SelectAccess, SpiDeselect as DeselectAccess}
use Rattle.ec_model.specs.HostCalls.{HostCall, Did, Waited}
use Rattle.ec_model.specs.Heard.{port_reads, port_writes, reads_in_row, i2c_writes, spi_writes}
use Rattle.script_lines.specs.declared.line.BusLine.{BusLine}
use Rattle.script_lines.specs.declared.line.BusLine.TheVariants.{Tick, PortsOut, PortsIn, I2cWrite, I2cRead, SpiSelect, SpiDeselect, SpiBytes}

-- how many calls of the host a line is
abbrev pub calls_in : BusLine → ℕ
calls_in (Tick count) = count
calls_in (PortsOut port bytes) = length bytes
calls_in (PortsIn port count) = count
calls_in (I2cWrite bytes) = length bytes + 2
calls_in (I2cRead count) = count + 2
calls_in SpiSelect = 1
calls_in SpiDeselect = 1
calls_in (SpiBytes bytes) = length bytes

-- the calls of the host that a line is, and its text without the line feed: `ok`, or the bytes that the host got
abbrev pub IsBusLine : BusLine → List HostCall → List ℕ → Type 0
IsBusLine (Tick count) calls text = (calls ≡ replicate count Waited) × (text ≡ codes "ok")
IsBusLine (PortsOut port bytes) calls text =
    (gots : List ℕ) × (length gots ≡ length bytes) × (calls ≡ port_writes port bytes gots) × (text ≡ codes "ok")
IsBusLine (PortsIn port count) calls text =
    (bytes : List ℕ) × (length bytes ≡ count) × (calls ≡ port_reads port bytes) × (text ≡ encode_lower bytes)
IsBusLine (I2cWrite bytes) calls text =
    (started stopped : ℕ) × (gots : List ℕ) × (length gots ≡ length bytes)
    × (calls ≡ Did I2cStartWrite started ∷ i2c_writes bytes gots ++ Did I2cStop stopped ∷ []) × (text ≡ codes "ok")
IsBusLine (I2cRead count) calls text =
    (started stopped : ℕ) × (bytes : List ℕ) × (length bytes ≡ count)
    × (calls ≡ Did I2cStartRead started ∷ reads_in_row I2cReadAccess bytes ++ Did I2cStop stopped ∷ []) × (text ≡ encode_lower bytes)
IsBusLine SpiSelect calls text = (got : ℕ) × (calls ≡ Did SelectAccess got ∷ []) × (text ≡ codes "ok")
IsBusLine SpiDeselect calls text = (got : ℕ) × (calls ≡ Did DeselectAccess got ∷ []) × (text ≡ codes "ok")
IsBusLine (SpiBytes bytes) calls text =
    (gots : List ℕ) × (length gots ≡ length bytes) × (calls ≡ spi_writes bytes gots) × (text ≡ encode_lower gots)
