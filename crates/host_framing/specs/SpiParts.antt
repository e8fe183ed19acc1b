-- The parts of a send on SPI, each with the calls that it made.
use Rattle.std.specs.Prelude.{◌≡◌, ℕ, not, List, [], ◌∷◌, ◌++◌, length, IsTrue, Some}
use Rattle.ec_model.specs.declared.event.Access.TheVariants.{SpiByte, SpiDeselect}
use Rattle.ec_model.specs.HostCalls.{HostCall, Did}
use Rattle.ec_model.specs.Heard.{Heard, poll_end, last_byte, spaced_reads, reads_in_row, spi_writes, heard_packet, is_all_read, heard_if}
use Rattle.ec_model.specs.SendSpi.{is_spi_waiting, spi_reads_on, SpiAsked, SpiSend}
use Rattle.ec_wire.specs.Calls.{WireView, Made}

-- these bytes were sent
pub record Puts (bytes : List ℕ) (old new : WireView) : Type 0 where
  pub gots : List ℕ
  pub each : length gots ≡ length bytes
  pub made : Made (spi_writes bytes gots) old new

-- so many bytes were got, and appended
pub record Gets (count : ℕ) (before after : List ℕ) (old new : WireView) : Type 0 where
  pub bytes : List ℕ
  pub each : length bytes ≡ count
  pub appended : after ≡ before ++ bytes
  pub made : Made (reads_in_row (SpiByte 0) bytes) old new

-- the first step of a send
pub record Asks (packet : List ℕ) (old new : WireView) : Type 0 where
  pub calls : List HostCall
  pub asked : SpiAsked packet calls
  pub made : Made calls old new

-- a poll of at most five bytes, of which this was the last
pub record Polls (last : ℕ) (old new : WireView) : Type 0 where
  pub answers : List ℕ
  pub last_is : last_byte answers ≡ last
  pub polled : poll_end is_spi_waiting 5 answers ≡ Some (not (is_spi_waiting last))
  pub made : Made (spaced_reads (SpiByte 0) answers) old new

-- the bytes behind the one that begins a reply
pub record Hears (heard : Heard) (old new : WireView) : Type 0 where
  pub bytes : List ℕ
  pub whole : IsTrue (is_all_read (spi_reads_on bytes) bytes)
  pub heard_is : heard ≡ heard_if (spi_reads_on bytes) (heard_packet bytes)
  pub made : Made (reads_in_row (SpiByte 0) bytes) old new

-- the calls with a deselect behind them are a send of the packet that heard this
pub record Talks (packet : List ℕ) (heard : Heard) (old new : WireView) : Type 0 where
  pub calls : List HostCall
  pub ends : (stopped : ℕ) → SpiSend packet (calls ++ Did SpiDeselect stopped ∷ []) heard
  pub made : Made calls old new
