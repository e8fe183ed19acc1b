-- The transactions of the host: one send, the quiet that brings the bus to rest, and a request that has no reply.
use Rattle.std.specs.Prelude.{◌≡◌, ◌≢◌, ℕ, Bool, List, [], ◌∷◌, ◌++◌, IsTrue, Some}
use Rattle.ec_types.specs.declared.bus.BusKind.{BusKind}
use Rattle.ec_types.specs.declared.bus.BusKind.TheVariants.{Lpc, I2c, Spi}
use Rattle.ec_model.specs.declared.event.Access.{Access}
use Rattle.ec_model.specs.declared.event.Access.TheVariants.{I2cStartRead, I2cStop, SpiDeselect}
use Rattle.ec_model.specs.declared.event.Entry.{Entry}
use Rattle.ec_model.specs.Bus.{is_busy}
use Rattle.ec_model.specs.Packet.{request_packet}
use Rattle.ec_model.specs.Bodies.{reboot_ask}
use Rattle.ec_model.specs.HostCalls.{HostCall, Did, Waited, calls_of, are_calls}
use Rattle.ec_model.specs.Upset.{IsUndisturbed, has_one_byte}
use Rattle.ec_model.specs.Heard.{Heard, Reply, poll_end, spaced_reads}
use Rattle.ec_model.specs.SendLpc.{status_in, LpcAsked, LpcBlocked, LpcSend}
use Rattle.ec_model.specs.SendI2c.{I2cAsked, I2cPut, I2cUnstarted, I2cUnwritten, I2cSend}
use Rattle.ec_model.specs.SendSpi.{SpiAsked, SpiSend}

-- the packet was put on the bus, by the bus
abbrev pub PutBy : BusKind → List ℕ → List HostCall → Type 0
PutBy Lpc packet calls = LpcAsked packet calls
PutBy I2c packet calls = I2cPut packet calls
PutBy Spi packet calls = SpiAsked packet calls

-- one send, by the bus
abbrev pub SendsBy : BusKind → List ℕ → List HostCall → Heard → Type 0
SendsBy Lpc packet calls heard = LpcSend packet calls heard
SendsBy I2c packet calls heard = I2cSend packet calls heard
SendsBy Spi packet calls heard = SpiSend packet calls heard

-- the entries are the host's accesses for the packet, and this is what it heard
abbrev pub Send : BusKind → List Entry → List ℕ → Heard → Type 0
Send bus entries packet heard = IsTrue (are_calls entries) × SendsBy bus packet (calls_of entries) heard

-- on LPC the host looked until the bus was idle, or as long as it may
pub record LpcQuiet (calls : List HostCall) : Type 0 where
  pub statuses : List ℕ
  pub ready : Bool
  pub polled : poll_end is_busy 5 statuses ≡ Some ready
  pub made : calls ≡ spaced_reads status_in statuses

-- one access in place of a poll
pub record OneAccess (access : Access) (calls : List HostCall) : Type 0 where
  pub got : ℕ
  pub made : calls ≡ Did access got ∷ []

-- the bus is brought to rest, by the bus
abbrev pub QuietBy : BusKind → List HostCall → Type 0
QuietBy Lpc calls = LpcQuiet calls
QuietBy I2c calls = OneAccess I2cStop calls
QuietBy Spi calls = OneAccess SpiDeselect calls

-- the entries bring the bus to rest
abbrev pub Quiet : BusKind → List Entry → Type 0
Quiet bus entries = IsTrue (are_calls entries) × QuietBy bus (calls_of entries)

-- LPC: a request that has no reply was sent
pub record LpcColdSent (packet : List ℕ) (calls : List HostCall) : Type 0 where
  pub first : List HostCall
  pub asked : LpcAsked packet first
  pub made : calls ≡ first ++ Waited ∷ []

-- I2C: a request that has no reply was sent
pub record I2cColdSent (packet : List ℕ) (calls : List HostCall) : Type 0 where
  pub first : List HostCall
  pub got : ℕ
  pub stopped : ℕ
  pub asked : I2cAsked packet first
  pub made : calls ≡ first ++ Did I2cStartRead got ∷ Did I2cStop stopped ∷ []

-- SPI: a request that has no reply was sent
pub record SpiColdSent (packet : List ℕ) (calls : List HostCall) : Type 0 where
  pub first : List HostCall
  pub stopped : ℕ
  pub asked : SpiAsked packet first
  pub made : calls ≡ first ++ Waited ∷ Did SpiDeselect stopped ∷ []

-- a request that has no reply was sent on LPC, or the bus was busy
pub data LpcCold (packet : List ℕ) (calls : List HostCall) : Type 0 where
  LpcColdBlocked : LpcBlocked calls → LpcCold packet calls
  LpcColdDone : LpcColdSent packet calls → LpcCold packet calls

-- a request that has no reply was sent on I2C, or it was not taken
pub data I2cCold (packet : List ℕ) (calls : List HostCall) : Type 0 where
  I2cColdUnstarted : I2cUnstarted calls → I2cCold packet calls
  I2cColdUnwritten : I2cUnwritten packet calls → I2cCold packet calls
  I2cColdDone : I2cColdSent packet calls → I2cCold packet calls

-- a request that has no reply was sent, by the bus
abbrev pub ColdBy : BusKind → List ℕ → List HostCall → Type 0
ColdBy Lpc packet calls = LpcCold packet calls
ColdBy I2c packet calls = I2cCold packet calls
ColdBy Spi packet calls = SpiColdSent packet calls

-- the entries send a request that has no reply
abbrev pub Cold : BusKind → List ℕ → List Entry → Type 0
Cold bus packet entries = IsTrue (are_calls entries) × ColdBy bus packet (calls_of entries)

-- a whole undisturbed transaction: this packet was sent, and this reply was shown
pub record Exchange (bus : BusKind) (entries : List Entry) (request reply : List ℕ) : Type 0 where
  pub undisturbed : IsUndisturbed entries
  pub sent : Send bus entries request (Reply reply)

-- the packet of a COLD
abbrev pub cold_packet : List ℕ
cold_packet = request_packet 0x00D2 0 (reboot_ask 4 0)

-- the entries of one transaction: a quiet, the send of a packet that has a reply, or that of a COLD
pub data IsTransaction (bus : BusKind) (entries : List Entry) : Type 0 where
  Quiets : Quiet bus entries → IsTransaction bus entries
  Sends : (packet : List ℕ) (heard : Heard) → packet ≢ cold_packet → Send bus entries packet heard → IsTransaction bus entries
  Colds : Cold bus cold_packet entries → IsTransaction bus entries

-- no transaction among the entries has more than one changed byte, nor one beside a reset or a change of power
abbrev pub OneByte : BusKind → List Entry → Type 0
OneByte bus entries =
    (before transaction after : List Entry) → entries ≡ before ++ transaction ++ after → IsTransaction bus transaction →
    IsTrue (has_one_byte transaction)
