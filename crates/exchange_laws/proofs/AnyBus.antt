-- An undisturbed send is one exchange, whatever the bus.
use Rattle.std.proofs.Common.{◌≡◌, refl, ap, ◌∙◌, subst, ℕ, ◌≤◌, true, List, [], length, map}
use Rattle.std.specs.List.{list_all}
use Rattle.ec_types.specs.Tables.{packet_limit}
use Rattle.ec_types.specs.declared.bus.BusKind.{BusKind}
use Rattle.ec_types.specs.declared.bus.BusKind.TheVariants.{Lpc, I2c, Spi}
use Rattle.ec_model.specs.declared.event.Entry.{Entry}
use Rattle.ec_model.specs.Packet.{response_packet}
use Rattle.ec_model.specs.Bus.{OnLpc, OnI2c, OnSpi, Idle, Deselected, low_status}
use Rattle.ec_model.specs.HostCalls.{HostCall, calls_of}
use Rattle.ec_model.specs.Heard.{Heard, Reply}
use Rattle.ec_model.specs.Send.{Send, SendsBy}
use Rattle.ec_model.specs.Syncable.{settled}
use Rattle.ec_model.specs.Table.{Table, Awake, On, Core, Valid, core_of}
use Rattle.ec_model.specs.Answer.{Answered}
use Rattle.ec_model.specs.Handle.{handled}
use Rattle.ec_model.specs.Run.{IsRun}
use Rattle.ec_model.specs.Upset.{IsUndisturbed}
use Rattle.ec_wire.specs.Calls.{is_wire_step}
use Rattle.ec_wire.specs.Quiet.{quiet_entry}
use Rattle.ec_wire.proofs.Calm.{determined}
use Rattle.exchange_laws.specs.AnyBus.{exchange_calls_on, IsExchangeOf}
use Rattle.exchange_laws.specs.Calm.{CallsLead}
use Rattle.exchange_laws.specs.Served.{IsPlain, LeavesCore, ServesPacket}
use Rattle.exchange_laws.proofs.CalmRun.{calm_lead}
use Rattle.exchange_laws.proofs.LpcExchange.{on-before, lpc-exchange}
use Rattle.exchange_laws.proofs.Settled.{bus-facts}
use Rattle.exchange_laws.proofs.LpcSend.{lpc-calm}
use Rattle.exchange_laws.proofs.I2cSend.{i2c-settled, i2c-exchange, i2c-calm}
use Rattle.exchange_laws.proofs.SpiSend.{spi-settled, spi-exchanges, spi-calm}

-- the calls are the exchange of a request for this response, which was heard, and the core is left
record Exchanged (kind : BusKind) (table : Table) (request response : List ℕ) (core : Core) (calls : List HostCall) (heard : Heard) (new : Table) : Type 0 where
  pub calls_are : calls ≡ exchange_calls_on kind table request response
  pub heard_is : heard ≡ Reply response
  pub leaves : LeavesCore core new
  pub kind_is : new.kind ≡ kind

-- what the law of a bus says of an undisturbed send to a controller that is on
abbrev Exchanges : BusKind → Type 0
Exchanges kind =
    (table : Table) (awake : Awake) (packet : List ℕ) (calls : List HostCall) (heard : Heard) (new : Table) (after : Core) (result : ℕ) (body : List ℕ) → Valid table → table.kind ≡ kind → (settled table).power ≡ On awake → IsPlain packet → length packet ≤ packet_limit kind →
    SendsBy kind packet calls heard → CallsLead table calls new → handled (core_of (settled table) awake) (packet_limit kind) packet ≡ Answered after result body → Exchanged kind table packet (response_packet result body) after calls heard new

-- LPC
lpc-exchanged : Exchanges Lpc
lpc-exchanged table awake packet calls heard new after result body valid kind on plain short sent lead same =
    let exchange = lpc-exchange table awake packet calls heard new after result body valid kind on plain short sent lead same in
    let bus = OnLpc (record { window = exchange.window; status = 0; outcome = low_status (response_packet result body) }) in
    record { calls_are = exchange.calls_are; heard_is = exchange.heard_is; leaves = record { bus = bus; same = exchange.leaves; none_waits = refl }; kind_is = ap (λ (t : Table). t.kind) exchange.leaves }

-- I2C
i2c-exchanged : Exchanges I2c
i2c-exchanged table awake packet calls heard new after result body valid kind on plain short sent lead same =
    let was = on-before table awake table.power refl on in
    let still = i2c-settled table was.awake valid was.on kind in
    let power = subst (λ (t : Table). t.power ≡ On awake) still on in
    let answered = subst (λ (t : Table). handled (core_of t awake) 128 packet ≡ Answered after result body) still same in
    let exchange = i2c-exchange table awake packet calls heard new after result body valid power kind short sent lead answered in
    record { calls_are = exchange.calls_are; heard_is = exchange.heard_is; leaves = record { bus = OnI2c (Idle []); same = exchange.leaves; none_waits = refl }; kind_is = ap (λ (t : Table). t.kind) exchange.leaves }

-- SPI
spi-exchanged : Exchanges Spi
spi-exchanged table awake packet calls heard new after result body valid kind on plain short sent lead same =
    let was = on-before table awake table.power refl on in
    let facts = bus-facts table was.awake valid was.on in
    let still = spi-settled table was.awake was.on (facts.kind ∙ kind) in
    let power = subst (λ (t : Table). t.power ≡ On awake) still on in
    let answered = subst (λ (t : Table). handled (core_of t awake) 544 packet ≡ Answered after result body) still same in
    let exchange = spi-exchanges table awake packet calls heard new after result body valid power kind plain short sent lead answered in
    record { calls_are = exchange.calls_are; heard_is = exchange.heard_is; leaves = record { bus = OnSpi Deselected; same = exchange.leaves; none_waits = refl }; kind_is = ap (λ (t : Table). t.kind) exchange.leaves }

-- each bus
exchanged : (kind : BusKind) → Exchanges kind
exchanged Lpc = lpc-exchanged
exchanged I2c = i2c-exchanged
exchanged Spi = spi-exchanged

-- an undisturbed send is one exchange, entry by entry
pub exchange-of : (table : Table) (awake : Awake) (packet : List ℕ) (added : List Entry) (heard : Heard) (new : Table) (after : Core) (result : ℕ) (body : List ℕ) → Valid table → (settled table).power ≡ On awake → IsPlain packet → length packet ≤ packet_limit table.kind →
    Send table.kind added packet heard → IsRun table added new → IsUndisturbed added → list_all is_wire_step added ≡ true → handled (core_of (settled table) awake) (packet_limit table.kind) packet ≡ Answered after result body →
    IsExchangeOf table packet (response_packet result body) after added heard new
exchange-of table awake packet added heard new after result body valid on plain short sent run calm steps same =
    let lead = calm_lead table added new calm run in
    let exchange = exchanged table.kind table awake packet (calls_of added) heard new after result body valid refl on plain short sent.1 lead same in
    record {
      entries = determined added steps calm ∙ ap (λ (calls : List HostCall). map quiet_entry calls) exchange.calls_are;
      leads = subst (λ (calls : List HostCall). CallsLead table calls new) exchange.calls_are lead;
      heard_is = exchange.heard_is;
      leaves = exchange.leaves;
      kind = exchange.kind_is;
    }

-- an undisturbed send to a controller that is on is served
pub serves : (kind : BusKind) (table : Table) (awake : Awake) (packet : List ℕ) (calls : List HostCall) (heard : Heard) (new : Table) → Valid table → table.power ≡ On awake → table.kind ≡ kind → IsPlain packet → length packet ≤ packet_limit kind →
    SendsBy kind packet calls heard → CallsLead table calls new → ServesPacket packet (settled table) heard new
serves Lpc = lpc-calm
serves I2c = i2c-calm
serves Spi = spi-calm
