-- What the host does and hears on any bus: polls, reads and writes in a row, and what the bytes that it read are.
use Rattle.std.specs.Prelude.{ℕ, zero, suc, ◌+◌, Bool, true, false, ◌&&◌, ◌==◌, nat_le, if◌then◌else◌, List, [], ◌∷◌, length, Option, Some, None}
use Rattle.ec_model.specs.declared.event.Access.{Access}
use Rattle.ec_model.specs.declared.event.Access.TheVariants.{PortOut, PortIn, I2cWrite, SpiByte}
use Rattle.ec_model.specs.Packet.{is_response, response_length}
use Rattle.ec_model.specs.Bus.{low_status}
use Rattle.ec_model.specs.HostCalls.{HostCall, Did, Waited}

-- what a send heard: a reply, bytes that are none, or nothing
pub data Heard : Type 0 where
  Reply : List ℕ → Heard
  Bad : Heard
  Silent : Heard

-- How a poll of so many reads at most ended that saw these bytes: with a byte that is not busy, or busy to the end.
-- None: no poll sees just these.
abbrev pub poll_end : (ℕ → Bool) → ℕ → List ℕ → Option Bool
poll_end busy zero [] = Some false
poll_end busy zero (byte ∷ bytes) = None
poll_end busy (suc reads) [] = None
poll_end busy (suc reads) (byte ∷ []) = if busy byte then poll_end busy reads [] else Some true
poll_end busy (suc reads) (byte ∷ next ∷ bytes) = if busy byte then poll_end busy reads (next ∷ bytes) else None

-- an access that got each of these bytes, with a wait before each
abbrev pub waited_reads : Access → List ℕ → List HostCall
waited_reads access [] = []
waited_reads access (byte ∷ bytes) = Waited ∷ Did access byte ∷ waited_reads access bytes

-- an access that got each of these bytes, with a wait between each two
abbrev pub spaced_reads : Access → List ℕ → List HostCall
spaced_reads access [] = []
spaced_reads access (byte ∷ bytes) = Did access byte ∷ waited_reads access bytes

-- an access that got each of these bytes in a row
abbrev pub reads_in_row : Access → List ℕ → List HostCall
reads_in_row access [] = []
reads_in_row access (byte ∷ bytes) = Did access byte ∷ reads_in_row access bytes

-- reads of ports in a row that got these bytes
abbrev pub port_reads : ℕ → List ℕ → List HostCall
port_reads port [] = []
port_reads port (byte ∷ bytes) = Did (PortIn port) byte ∷ port_reads (port + 1) bytes

-- writes of these bytes to ports in a row, with what they got
abbrev pub port_writes : ℕ → List ℕ → List ℕ → List HostCall
port_writes port (byte ∷ bytes) (got ∷ gots) = Did (PortOut port byte) got ∷ port_writes (port + 1) bytes gots
port_writes port other gots = []

-- writes of these bytes on I2C, with what they got
abbrev pub i2c_writes : List ℕ → List ℕ → List HostCall
i2c_writes (byte ∷ bytes) (got ∷ gots) = Did (I2cWrite byte) got ∷ i2c_writes bytes gots
i2c_writes other gots = []

-- these bytes sent on SPI, with what they got
abbrev pub spi_writes : List ℕ → List ℕ → List HostCall
spi_writes (byte ∷ bytes) (got ∷ gots) = Did (SpiByte byte) got ∷ spi_writes bytes gots
spi_writes other gots = []

-- the last byte, and 0 of none
abbrev pub last_byte : List ℕ → ℕ
last_byte [] = 0
last_byte (byte ∷ []) = byte
last_byte (byte ∷ next ∷ bytes) = last_byte (next ∷ bytes)

-- what a packet is heard as
abbrev pub heard_packet : List ℕ → Heard
heard_packet bytes = if is_response bytes then Reply bytes else Bad

-- what a packet behind a result byte is heard as
abbrev pub heard_with : ℕ → List ℕ → Heard
heard_with outcome bytes = if outcome == low_status bytes then heard_packet bytes else Bad

-- whether the host reads on behind a header: its length is at most the limit
abbrev pub reads_on : ℕ → List ℕ → Bool
reads_on limit header = nat_le (response_length header) limit

-- whether just as many bytes were read as the header asks for
abbrev pub is_all_read : Bool → List ℕ → Bool
is_all_read on bytes = nat_le 8 (length bytes) && (length bytes == (if on then 8 + response_length bytes else 8))

-- what bytes are heard as, if the host read on behind their header
abbrev pub heard_if : Bool → Heard → Heard
heard_if on heard = if on then heard else Bad
