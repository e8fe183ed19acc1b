-- Buses at rest, and whole transactions from one to the next.
use Rattle.std.specs.Prelude.{◌≡◌, ℕ, ◌+◌, ◌-◌, Bool, true, List, [], ◌∷◌, ◌++◌, length, map, replicate, IsTrue}
use Rattle.ec_types.specs.declared.bus.BusKind.{BusKind}
use Rattle.ec_model.specs.declared.event.Access.TheVariants.{I2cStartWrite, I2cStartRead, I2cRead, I2cStop, SpiSelect, SpiByte, SpiDeselect}
use Rattle.ec_model.specs.declared.event.Entry.{Entry}
use Rattle.ec_model.specs.Bus.{BusState, is_at_rest, low_status}
use Rattle.ec_model.specs.HostCalls.{HostCall, Did}
use Rattle.ec_model.specs.Heard.{spaced_reads, reads_in_row, i2c_writes, spi_writes}
use Rattle.ec_model.specs.Run.{IsRun}
use Rattle.ec_model.specs.Send.{Exchange}
use Rattle.ec_model.specs.Table.{Table, Power, Off, On, Core, table_of}
use Rattle.ec_wire.specs.Quiet.{quiet_entry}
use Rattle.exchange_laws.specs.Exchange.{lpc_status_seen, lpc_exchange_calls}

-- whether no transaction is under way: the controller is off, or its bus is at rest
abbrev pub is_resting : Power → Bool
is_resting Off = true
is_resting (On awake) = is_at_rest awake.bus

-- the table has this core, and its bus is at rest
pub record IsAtRest (core : Core) (table : Table) : Type 0 where
  pub bus : BusState
  pub same : table ≡ table_of core bus
  pub rest : IsTrue (is_at_rest bus)

-- the entries are a whole exchange of a request for this response, which leaves this core, and the bus at rest
pub record IsTransacted (kind : BusKind) (request response : List ℕ) (core : Core) (entries : List Entry) (new : Table) : Type 0 where
  pub exchange : Exchange kind entries request response
  pub leaves : IsAtRest core new

-- on LPC: the host sees the table's status once, and a request is exchanged for this response
abbrev pub lpc_transaction : (request response : List ℕ) → Table → List HostCall
lpc_transaction request response table = lpc_exchange_calls (lpc_status_seen table ∷ []) request response

-- on I2C: the host writes a request, and reads the result byte, the length and this response
abbrev pub i2c_transaction : (request response : List ℕ) → List HostCall
i2c_transaction request response =
    Did I2cStartWrite 0 ∷ i2c_writes (0xDA ∷ request) (replicate (1 + length request) 0)
    ++ Did I2cStartRead 0 ∷ Did I2cRead (low_status response) ∷ Did I2cRead (length response) ∷ reads_in_row I2cRead response
    ++ Did I2cStop 0 ∷ []

-- on SPI: the host sends a request, sees that it waits and then that it was served, and reads this response
abbrev pub spi_transaction : (request response : List ℕ) → List HostCall
spi_transaction request response =
    Did SpiSelect 0 ∷ spi_writes request (0xF8 ∷ replicate (length request - 1) 0xF9) ++ spaced_reads (SpiByte 0) (0xFA ∷ 0xEC ∷ [])
    ++ reads_in_row (SpiByte 0) response
    ++ Did SpiDeselect 0 ∷ []

-- these calls, where nothing disturbs them, are a run and a whole exchange
pub record MakesTransaction (kind : BusKind) (request response : List ℕ) (core : Core) (table : Table) (calls : List HostCall) : Type 0 where
  pub new : Table
  pub run : IsRun table (map quiet_entry calls) new
  pub transacted : IsTransacted kind request response core (map quiet_entry calls) new
