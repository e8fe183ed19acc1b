-- An undisturbed exchange on LPC, call by call.
use Rattle.std.specs.Prelude.{◌≡◌, ℕ, List, [], ◌∷◌, ◌++◌, length, replicate, map, if◌then◌else◌}
use Rattle.ec_model.specs.declared.event.Access.TheVariants.{PortOut, PortIn}
use Rattle.ec_model.specs.declared.event.Event.TheVariants.{Access as AccessEvent}
use Rattle.ec_model.specs.declared.event.Entry.{Entry}
use Rattle.ec_model.specs.Bus.{OnLpc, low_status}
use Rattle.ec_model.specs.HostCalls.{HostCall, Did, Waited, calls_of}
use Rattle.ec_model.specs.Heard.{Heard, Reply, spaced_reads, port_reads, port_writes}
use Rattle.ec_model.specs.SendLpc.{status_in}
use Rattle.ec_model.specs.Syncable.{settled}
use Rattle.ec_model.specs.Table.{Table, Core, table_of}
use Rattle.ec_model.specs.WholeStep.{stepped}
use Rattle.ec_wire.specs.Quiet.{quiet_entry}
use Rattle.exchange_laws.specs.Resting.{is_waiting}

-- the byte that one look at LPC's status port sees on a table
abbrev pub lpc_status_seen : Table → ℕ
lpc_status_seen table = (stepped table (AccessEvent status_in)).answer

-- the statuses that the host sees before it writes a request: one, and where a request waits, also that behind the wait in
-- which it is served
abbrev pub first_statuses : Table → List ℕ
first_statuses table = lpc_status_seen table ∷ (if is_waiting table.power then lpc_status_seen (settled table) ∷ [] else [])

-- the host sees these statuses, writes the request and the command byte, waits once, sees that a response is there, and reads
-- the result byte and the response
abbrev pub lpc_exchange_calls : (statuses request response : List ℕ) → List HostCall
lpc_exchange_calls statuses request response =
    spaced_reads status_in statuses ++ port_writes 0x800 request (replicate (length request) 0)
    ++ Did (PortOut 0x204 0xDA) 0 ∷ Waited ∷ Did status_in 0x01 ∷ Did (PortIn 0x200) (low_status response) ∷ port_reads 0x800 response

-- the calls are the exchange of a request for this response, which was heard; the core is left, and the bus shows status 0
pub record Exchanges (statuses request response : List ℕ) (core : Core) (calls : List HostCall) (heard : Heard) (new : Table) : Type 0 where
  pub window : List ℕ
  pub calls_are : calls ≡ lpc_exchange_calls statuses request response
  pub heard_is : heard ≡ Reply response
  pub leaves : new ≡ table_of core (OnLpc (record { window = window; status = 0; outcome = low_status response }))

-- the entries are those of one such exchange
pub record IsExchange (statuses request response : List ℕ) (core : Core) (added : List Entry) (heard : Heard) (new : Table) : Type 0 where
  pub entries : added ≡ map quiet_entry (lpc_exchange_calls statuses request response)
  pub exchanges : Exchanges statuses request response core (calls_of added) heard new
