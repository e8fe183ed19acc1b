-- One send on SPI.
use Rattle.std.specs.Prelude.{◌≡◌, ◌≢◌, ℕ, Bool, true, ◌&&◌, ◌||◌, ◌==◌, if◌then◌else◌, List, [], ◌∷◌, ◌++◌, length, slice_index, IsTrue, Some}
use Rattle.ec_model.specs.declared.event.Access.TheVariants.{SpiSelect, SpiByte, SpiDeselect}
use Rattle.ec_model.specs.Bus.{largest_body}
use Rattle.ec_model.specs.HostCalls.{HostCall, Did}
use Rattle.ec_model.specs.Heard.{Heard, Bad, Silent, poll_end, spaced_reads, reads_in_row, spi_writes, last_byte, heard_packet, reads_on, is_all_read, heard_if}

-- whether an answer on SPI says that the request waits
abbrev pub is_spi_waiting : ℕ → Bool
is_spi_waiting byte = byte == 0xFA

-- SPI: the packet was sent
pub record SpiAsked (packet : List ℕ) (calls : List HostCall) : Type 0 where
  pub selected : ℕ
  pub gots : List ℕ
  pub each : length gots ≡ length packet
  pub made : calls ≡ Did SpiSelect selected ∷ spi_writes packet gots

-- what the host hears where no reply begins: nothing, where the controller says so or makes it wait to the end
abbrev pub heard_without : ℕ → Heard
heard_without last = if is_spi_waiting last || (last == 0xFF) then Silent else Bad

-- SPI: no reply began
pub record SpiUnserved (packet : List ℕ) (calls : List HostCall) (heard : Heard) : Type 0 where
  pub first : List HostCall
  pub answers : List ℕ
  pub stopped : ℕ
  pub ready : Bool
  pub asked : SpiAsked packet first
  pub polled : poll_end is_spi_waiting 5 answers ≡ Some ready
  pub no_reply : last_byte answers ≢ 0xEC
  pub made : calls ≡ first ++ spaced_reads (SpiByte 0) answers ++ Did SpiDeselect stopped ∷ []
  pub heard_is : heard ≡ heard_without (last_byte answers)

-- whether the host reads on behind a header on SPI
abbrev pub spi_reads_on : List ℕ → Bool
spi_reads_on bytes = (slice_index bytes 0 == 3) && reads_on largest_body bytes

-- SPI: a reply was read
pub record SpiServed (packet : List ℕ) (calls : List HostCall) (heard : Heard) : Type 0 where
  pub first : List HostCall
  pub answers : List ℕ
  pub bytes : List ℕ
  pub stopped : ℕ
  pub asked : SpiAsked packet first
  pub polled : poll_end is_spi_waiting 5 answers ≡ Some true
  pub replied : last_byte answers ≡ 0xEC
  pub whole : IsTrue (is_all_read (spi_reads_on bytes) bytes)
  pub made : calls ≡ first ++ spaced_reads (SpiByte 0) answers ++ reads_in_row (SpiByte 0) bytes ++ Did SpiDeselect stopped ∷ []
  pub heard_is : heard ≡ heard_if (spi_reads_on bytes) (heard_packet bytes)

-- one send on SPI
pub data SpiSend (packet : List ℕ) (calls : List HostCall) (heard : Heard) : Type 0 where
  SpiWasUnserved : SpiUnserved packet calls heard → SpiSend packet calls heard
  SpiWasServed : SpiServed packet calls heard → SpiSend packet calls heard
