-- A line that calls the bus itself, carried out and printed.
use Rattle.std.specs.Prelude.{◌≡◌, ℕ, List, [], length, Option, Result, Ok, Err}
use Rattle.ec_model.specs.HostCalls.{HostCall}
use Rattle.hex.specs.Hex.{encode_lower}
use Rattle.ec_model.specs.declared.event.Access.TheVariants.{I2cRead}
use Rattle.ec_model.specs.Heard.{port_reads, port_writes, reads_in_row, i2c_writes, spi_writes}
use Rattle.ec_wire.specs.Calls.{WireView, Made, with_spare}
use Rattle.bench_io.specs.declared.printing.PrintErr.{PrintErr}
use Rattle.bench_io.specs.declared.printing.PrintErr.TheVariants.{Sink, NoMemory}
use Rattle.bench_io.specs.Texts.{printed}
use Rattle.bench_io.specs.Printing.{Appends, AppendsFront}
use Rattle.script_lines.specs.declared.line.BusLine.{BusLine}
use Rattle.bus_lines.specs.BusCalls.{IsBusLine}

-- room was made on the wire, and the line's calls were made there; this is its text without the line feed
pub record MakesBusLine (line : BusLine) (text : List ℕ) (old new : WireView) : Type 0 where
  pub spare : ℕ
  pub calls : List HostCall
  pub is_line : IsBusLine line calls text
  pub made : Made calls (with_spare spare old) new

-- the line was carried out and its text printed, all of it or at a fault of the sink a front of it; or memory was refused,
-- and nothing happened
abbrev pub RunsBusLine : Result (Unit {0}) PrintErr → BusLine → WireView → WireView → (before after : Option (List ℕ)) → Type 0
RunsBusLine (Ok done) line old new before after = (text : List ℕ) × MakesBusLine line text old new × Appends (printed text) before after
RunsBusLine (Err Sink) line old new before after = (text : List ℕ) × MakesBusLine line text old new × AppendsFront (printed text) before after
RunsBusLine (Err NoMemory) line old new before after = (new ≡ old) × Appends [] before after

-- these bytes were written to the ports from this one on
pub record WritesPorts (port : ℕ) (bytes : List ℕ) (old new : WireView) : Type 0 where
  pub gots : List ℕ
  pub each : length gots ≡ length bytes
  pub made : Made (port_writes port bytes gots) old new

-- so many ports were read from this one on, and this is the text of the bytes that the host got
pub record ReadsPorts (port count : ℕ) (text : List ℕ) (old new : WireView) : Type 0 where
  pub bytes : List ℕ
  pub each : length bytes ≡ count
  pub made : Made (port_reads port bytes) old new
  pub text_is : text ≡ encode_lower bytes

-- these bytes were written on I2C
pub record WritesI2c (bytes : List ℕ) (old new : WireView) : Type 0 where
  pub gots : List ℕ
  pub each : length gots ≡ length bytes
  pub made : Made (i2c_writes bytes gots) old new

-- so many bytes were read on I2C, and this is the text of what the host got
pub record ReadsI2c (count : ℕ) (text : List ℕ) (old new : WireView) : Type 0 where
  pub bytes : List ℕ
  pub each : length bytes ≡ count
  pub made : Made (reads_in_row I2cRead bytes) old new
  pub text_is : text ≡ encode_lower bytes

-- these bytes were sent on SPI, and this is the text of what the host got
pub record SendsSpi (bytes text : List ℕ) (old new : WireView) : Type 0 where
  pub gots : List ℕ
  pub each : length gots ≡ length bytes
  pub made : Made (spi_writes bytes gots) old new
  pub text_is : text ≡ encode_lower gots

-- the calls of a line were made, and this is its text without the line feed
pub record DoesBusLine (line : BusLine) (text : List ℕ) (old new : WireView) : Type 0 where
  pub calls : List HostCall
  pub is_line : IsBusLine line calls text
  pub made : Made calls old new
