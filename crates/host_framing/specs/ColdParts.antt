-- A request that has no reply as it was sent, its steps on I2C but for the stop, and what it leaves where nothing disturbs it.
use Rattle.std.specs.Prelude.{◌≡◌, ◌≤◌, ◌+◌, ℕ, false, List, [], ◌∷◌, ◌++◌, length, IsTrue}
use Rattle.flash_dev.specs.Told.{Changes}
use Rattle.ec_types.specs.Tables.{packet_limit}
use Rattle.ec_types.specs.declared.bus.BusKind.{BusKind}
use Rattle.ec_types.specs.declared.reset.ResetCause.TheVariants.{Cold as ColdReset}
use Rattle.ec_model.specs.declared.event.Access.TheVariants.{I2cStop}
use Rattle.ec_model.specs.declared.event.Entry.{Entry}
use Rattle.ec_model.specs.Packet.{request_length}
use Rattle.ec_model.specs.HostCalls.{HostCall, Did}
use Rattle.ec_model.specs.Send.{Cold, I2cCold}
use Rattle.ec_model.specs.Upset.{IsUndisturbed}
use Rattle.ec_model.specs.Boot.{booted_table}
use Rattle.ec_model.specs.Table.{Table, Awake, On, core_of}
use Rattle.ec_model.specs.Answer.{Outcome, Answered, Restarts}
use Rattle.ec_model.specs.Handle.{handled}
use Rattle.ec_model.specs.Syncable.{settled}
use Rattle.ec_wire.specs.Calls.{WireView, Grows, Made, Agrees}
use Rattle.exchange_laws.specs.Served.{LeavesCore}
use Rattle.host_framing.specs.Clean.{since}

-- the entries that were added send the packet as one that has no reply
pub record SendsCold (bus : BusKind) (packet : List ℕ) (old new : WireView) : Type 0 where
  pub added : List Entry
  pub grows : Grows added old new
  pub sent : Cold bus packet added

-- these calls, and then a stop, send the packet on I2C as one that has no reply
pub record TalksCold (packet : List ℕ) (old new : WireView) : Type 0 where
  pub calls : List HostCall
  pub ends : (stopped : ℕ) → I2cCold packet (calls ++ Did I2cStop stopped ∷ [])
  pub made : Made calls old new

-- a request of a header and just the body that this names
pub record IsSized (packet : List ℕ) : Type 0 where
  pub header : 8 ≤ length packet
  pub whole : length packet ≡ 8 + request_length packet

-- what handling a request on a table leaves: where it restarts the controller, just a boot; otherwise the core that it leaves
abbrev pub IsLeft : Table → Outcome → Table → Type 0
IsLeft table (Answered after status body) new = LeavesCore after new
IsLeft table Restarts new = new ≡ booted_table table.flash table.pin table.kind ColdReset false

-- from a table on which no request waits: the packet was handled, whatever it is answered
pub record HandlesPacket (packet : List ℕ) (table : Table) (new : Table) : Type 0 where
  pub awake : Awake
  pub on : table.power ≡ On awake
  pub leaves : IsLeft table (handled (core_of table awake) (packet_limit table.kind) packet) new

-- from a table that is on, and with nothing that disturbed the call: the packet was handled on the settled table
abbrev pub ResetsWhereCalm : List ℕ → WireView → WireView → Type 0
ResetsWhereCalm packet old new =
    Changes (λ told left. Agrees old.bus old.on told → IsTrue old.on → IsUndisturbed (since old new) → HandlesPacket packet (settled told) left) old.table new.table
