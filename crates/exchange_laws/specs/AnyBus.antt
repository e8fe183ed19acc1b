-- An undisturbed exchange, whatever the bus.
use Rattle.std.specs.Prelude.{◌≡◌, ℕ, List, map}
use Rattle.ec_types.specs.declared.bus.BusKind.{BusKind}
use Rattle.ec_types.specs.declared.bus.BusKind.TheVariants.{Lpc, I2c, Spi}
use Rattle.ec_model.specs.declared.event.Entry.{Entry}
use Rattle.ec_model.specs.HostCalls.{HostCall}
use Rattle.ec_model.specs.Heard.{Heard, Reply}
use Rattle.ec_model.specs.Table.{Table, Core}
use Rattle.ec_wire.specs.Quiet.{quiet_entry}
use Rattle.exchange_laws.specs.Calm.{CallsLead}
use Rattle.exchange_laws.specs.Exchange.{first_statuses, lpc_exchange_calls}
use Rattle.exchange_laws.specs.Served.{LeavesCore}
use Rattle.exchange_laws.specs.Transaction.{i2c_transaction, spi_transaction}

-- the calls of an undisturbed exchange from a table, on a bus of this kind: on LPC the host looks first until the request that
-- waits is served, and on the others a request that waits is dropped
abbrev pub exchange_calls_on : BusKind → Table → (request response : List ℕ) → List HostCall
exchange_calls_on Lpc table request response = lpc_exchange_calls (first_statuses table) request response
exchange_calls_on I2c table request response = i2c_transaction request response
exchange_calls_on Spi table request response = spi_transaction request response

-- the same on the table's own bus
abbrev pub exchange_calls : Table → (request response : List ℕ) → List HostCall
exchange_calls table request response = exchange_calls_on table.kind table request response

-- the entries are the undisturbed exchange of a request for this response, which was heard; they lead to a table that has this
-- core, the same bus, and no request that waits
pub record IsExchangeOf (table : Table) (request response : List ℕ) (core : Core) (added : List Entry) (heard : Heard) (new : Table) : Type 0 where
  pub entries : added ≡ map quiet_entry (exchange_calls table request response)
  pub leads : CallsLead table (exchange_calls table request response) new
  pub heard_is : heard ≡ Reply response
  pub leaves : LeavesCore core new
  pub kind : new.kind ≡ table.kind
