-- An undisturbed send on LPC is a whole exchange, and leaves the bus at rest.
use Rattle.std.proofs.Common.{◌≡◌, refl, ap, ◌∙◌, subst, ℕ, ◌≤◌, Bool, true, false, not, List, length}
use Rattle.ec_types.specs.declared.bus.BusKind.TheVariants.{Lpc}
use Rattle.ec_model.specs.declared.event.Entry.{Entry}
use Rattle.ec_model.specs.Packet.{response_packet}
use Rattle.ec_model.specs.Bus.{BusState, OnLpc, OnI2c, OnSpi, is_at_rest, is_busy, low_status}
use Rattle.ec_model.specs.HostCalls.{calls_of}
use Rattle.ec_model.specs.Heard.{Heard}
use Rattle.ec_model.specs.Send.{Send}
use Rattle.ec_model.specs.Syncable.{waits_on_lpc, settled}
use Rattle.ec_model.specs.Table.{Table, Awake, On, Core, Valid, core_of}
use Rattle.ec_model.specs.Answer.{Answered}
use Rattle.ec_model.specs.Handle.{handled}
use Rattle.ec_model.specs.Run.{IsRun}
use Rattle.ec_model.specs.Upset.{IsUndisturbed}
use Rattle.exchange_laws.specs.Served.{IsPlain}
use Rattle.exchange_laws.specs.Transaction.{IsTransacted}
use Rattle.exchange_laws.proofs.CalmRun.{calm_lead}
use Rattle.exchange_laws.proofs.LpcLead.{lpc}
use Rattle.exchange_laws.proofs.LpcSend.{idle-is-not-six}
use Rattle.exchange_laws.proofs.LpcExchange.{lpc-exchange}

-- a test that does not hold
pub not-true : (test : Bool) → not test ≡ true → test ≡ false
not-true true same = cc
not-true false same = refl

-- no request waits on LPC where the bus is at rest
none-waits : (bus : BusState) → is_at_rest bus ≡ true → waits_on_lpc bus ≡ false
none-waits (OnLpc state) rest = let other = idle-is-not-six state.status (not-true (is_busy state.status) rest) in rw other refl
none-waits (OnI2c state) rest = refl
none-waits (OnSpi state) rest = refl

-- a table whose bus is at rest is settled
settled-at-rest : (table : Table) (awake : Awake) → table.power ≡ On awake → is_at_rest awake.bus ≡ true → settled table ≡ table
settled-at-rest table awake on rest = let none = none-waits awake.bus rest in rw (on, none) refl

-- an undisturbed send is a whole exchange
pub settled-transacted : (table : Table) (awake : Awake) (packet : List ℕ) (entries : List Entry) (heard : Heard) (new : Table) (after : Core) (result : ℕ) (body : List ℕ) → Valid table → table.kind ≡ Lpc → (settled table).power ≡ On awake → IsPlain packet → length packet ≤ 256 →
    Send Lpc entries packet heard → IsRun table entries new → IsUndisturbed entries → handled (core_of (settled table) awake) 256 packet ≡ Answered after result body → IsTransacted Lpc packet (response_packet result body) after entries new
settled-transacted table awake packet entries heard new after result body valid kind on plain short sent run calm same =
    let exchanges = lpc-exchange table awake packet (calls_of entries) heard new after result body valid kind on plain short sent.1 (calm_lead table entries new calm run) same in
    record {
      exchange = record { undisturbed = calm; sent = subst (λ (h : Heard). Send Lpc entries packet h) exchanges.heard_is sent };
      leaves = record { bus = lpc exchanges.window 0 (low_status (response_packet result body)); same = exchanges.leaves; rest = refl };
    }

-- the same from a bus that is at rest
pub transacted : (table : Table) (awake : Awake) (packet : List ℕ) (entries : List Entry) (heard : Heard) (new : Table) (after : Core) (result : ℕ) (body : List ℕ) → Valid table → table.kind ≡ Lpc → table.power ≡ On awake → is_at_rest awake.bus ≡ true → IsPlain packet → length packet ≤ 256 →
    Send Lpc entries packet heard → IsRun table entries new → IsUndisturbed entries → handled (core_of table awake) 256 packet ≡ Answered after result body → IsTransacted Lpc packet (response_packet result body) after entries new
transacted table awake packet entries heard new after result body valid kind on rest plain short sent run calm same =
    let settles = settled-at-rest table awake on rest in
    settled-transacted table awake packet entries heard new after result body valid kind (ap (λ (t : Table). t.power) settles ∙ on) plain short sent run calm
    (ap (λ (t : Table). handled (core_of t awake) 256 packet) settles ∙ same)
