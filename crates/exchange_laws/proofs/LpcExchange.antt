-- An undisturbed send on LPC, call by call.
use Rattle.std.proofs.Common.{◌≡◌, refl, sym, ap, ◌∙◌, subst, ℕ, ◌≤◌, true, List, [], ◌∷◌, ◌++◌, length, replicate, map, append_assoc}
use Rattle.std.specs.List.{list_all}
use Rattle.ec_types.specs.declared.bus.BusKind.TheVariants.{Lpc}
use Rattle.ec_model.specs.declared.event.Access.TheVariants.{PortOut, PortIn}
use Rattle.ec_model.specs.declared.event.Entry.{Entry}
use Rattle.ec_model.specs.Packet.{response_packet}
use Rattle.ec_model.specs.Bus.{BusState, low_status}
use Rattle.ec_model.specs.HostCalls.{HostCall, Did, Waited, calls_of}
use Rattle.ec_model.specs.Heard.{Heard, spaced_reads, port_reads, port_writes}
use Rattle.ec_model.specs.SendLpc.{status_in, LpcServed, LpcSend, LpcWasBlocked, LpcWasUnserved, LpcWasServed}
use Rattle.ec_model.specs.Send.{Send}
use Rattle.ec_model.specs.Syncable.{settled_by, settled}
use Rattle.ec_model.specs.Table.{Table, Awake, Power, Off, On, Core, Valid, core_of, table_of}
use Rattle.ec_model.specs.Answer.{Outcome, Answered}
use Rattle.ec_model.specs.Handle.{handled, asked}
use Rattle.ec_model.specs.Run.{IsRun}
use Rattle.ec_model.specs.Upset.{IsUndisturbed}
use Rattle.ec_model.proofs.ShortRows.{IsShort}
use Rattle.ec_model.proofs.ValidRows.{IsCoreValid}
use Rattle.ec_model.proofs.ValidStep.{row_of-short}
use Rattle.ec_wire.specs.Calls.{is_wire_step}
use Rattle.ec_wire.specs.Quiet.{quiet_entry}
use Rattle.ec_wire.proofs.Calm.{determined}
use Rattle.exchange_laws.specs.Calm.{CallsLead}
use Rattle.exchange_laws.specs.Served.{IsPlain}
use Rattle.exchange_laws.specs.Exchange.{first_statuses, lpc_exchange_calls, Exchanges, IsExchange}
use Rattle.exchange_laws.proofs.CalmRun.{calm_lead}
use Rattle.exchange_laws.proofs.LpcLead.{lpc}
use Rattle.exchange_laws.proofs.LpcFirst.{Idled}
use Rattle.exchange_laws.proofs.Settled.{settled-valid}
use Rattle.exchange_laws.proofs.LpcSend.{served_calls, answers-by, hear-lead, core-valid, window-whole, idled-at, served-made, lpc-calm}

-- the calls, once each byte that they got is known
exchange-is : (statuses request response gots : List ℕ) (got : ℕ) (first second : List ℕ) (outcome : ℕ) (bytes : List ℕ) →
    first ≡ statuses → gots ≡ replicate (length request) 0 → got ≡ 0 → second ≡ 0x01 ∷ [] → outcome ≡ low_status response → bytes ≡ response →
    spaced_reads status_in first ++ served_calls request gots got second (Did (PortIn 0x200) outcome ∷ port_reads 0x800 bytes) ≡ lpc_exchange_calls statuses request response
exchange-is statuses request response gots got first second outcome bytes first_are gots_are got_is second_is outcome_is bytes_are =
    let zeros = replicate (length request) 0 in
    let behind = Did (PortOut 0x204 0xDA) 0 ∷ Waited ∷ Did status_in 0x01 ∷ Did (PortIn 0x200) (low_status response) ∷ port_reads 0x800 response in
    rw (first_are, gots_are, got_is, second_is, outcome_is, bytes_are) (sym (append_assoc (spaced_reads status_in statuses) (port_writes 0x800 request zeros) behind))

-- a core with what a controller that is on has of its own, and the core itself where it is off
abbrev core-in : Core → Power → Core
core-in core Off = core
core-in core (On awake) = record core { live = awake.live; nonce = awake.nonce }

-- the core of a table
same-core : (table : Table) (awake : Awake) (core : Core) (bus : BusState) → table ≡ table_of core bus → table.power ≡ On awake → core_of table awake ≡ core
same-core table awake core bus same on =
    let placed : (table_of core bus).power ≡ On awake = sym (ap (λ (t : Table). t.power) same) ∙ on in
    ap (λ (t : Table). core_of t awake) same ∙ sym (ap (core-in core) placed)

-- a table whose settled table is on
pub record IsOn (table : Table) : Type 0 where
  pub awake : Awake
  pub on : table.power ≡ On awake

-- it is on itself
pub on-before : (table : Table) (awake : Awake) (power : Power) → table.power ≡ power → (settled_by table power).power ≡ On awake → IsOn table
on-before table awake Off off on = absurd (let e = sym off ∙ on in cc)
on-before table awake (On first) same on = record { awake = first; on = same }

-- a send that was served, behind its first poll
served-exchange : (table : Table) (after : Core) (result : ℕ) (body packet : List ℕ) (calls : List HostCall) (heard : Heard) (new : Table) → Valid (settled table) → IsPlain packet → length packet ≤ 256 → (served : LpcServed packet calls heard) →
    (at : Idled table served.asked.statuses true (served_calls packet served.asked.gots served.asked.got served.statuses (Did (PortIn 0x200) served.outcome ∷ port_reads 0x800 served.bytes)) new) →
    handled at.core 256 packet ≡ Answered after result body → Exchanges (first_statuses table) packet (response_packet result body) after calls heard new
served-exchange table after result body packet calls heard new valid plain short served at same =
    let asks = served.asked in
    let tail = Did (PortIn 0x200) served.outcome ∷ port_reads 0x800 served.bytes in
    let placed = subst (λ (t : Table). Valid t) at.same valid in
    let size = window-whole at.core at.window at.status at.outcome placed in
    let fits = fits-by at.core after packet result body (core-valid at.core at.window at.status at.outcome placed) same in
    let answers = answers-by at.core after at.window at.status at.outcome result body packet asks.gots asks.got served.statuses true tail new size at.idle plain short asks.each served.idle same fits at.lead in
    let hears = hear-lead after answers.window result served.outcome body answers.rest served.bytes heard new answers.size answers.front fits served.whole served.heard_is answers.lead in
    record {
      window = answers.window;
      calls_are = served-made packet calls heard served ∙ exchange-is (first_statuses table) packet (response_packet result body) asks.gots asks.got asks.statuses served.statuses served.outcome served.bytes at.seen answers.zeros answers.taken answers.once hears.outcome_is hears.bytes_are;
      heard_is = hears.heard_is;
      leaves = hears.leaves;
    }
  where
    -- what is answered on LPC fits the window
    fits-by : (core after : Core) (packet : List ℕ) (result : ℕ) (body : List ℕ) → IsCoreValid core → handled core 256 packet ≡ Answered after result body → length body ≤ 248
    fits-by core after packet result body valid same = subst (λ (outcome : Outcome). IsShort outcome) same (row_of-short core (asked core packet) valid)

-- an undisturbed send is one exchange, from a table that is on itself
exchange-from : (table : Table) (first awake : Awake) (packet : List ℕ) (calls : List HostCall) (heard : Heard) (new : Table) (after : Core) (result : ℕ) (body : List ℕ) → Valid table → table.power ≡ On first → table.kind ≡ Lpc → (settled table).power ≡ On awake → IsPlain packet → length packet ≤ 256 →
    LpcSend packet calls heard → CallsLead table calls new → handled (core_of (settled table) awake) 256 packet ≡ Answered after result body → Exchanges (first_statuses table) packet (response_packet result body) after calls heard new
exchange-from table first awake packet calls heard new after result body valid was kind on plain short (LpcWasBlocked blocked silent) lead same =
    let reply = (lpc-calm table first packet calls heard new valid was kind plain short (LpcWasBlocked blocked silent) lead).heard_is in
    absurd (cc)
exchange-from table first awake packet calls heard new after result body valid was kind on plain short (LpcWasUnserved unserved silent) lead same =
    let reply = (lpc-calm table first packet calls heard new valid was kind plain short (LpcWasUnserved unserved silent) lead).heard_is in
    absurd (cc)
exchange-from table first awake packet calls heard new after result body valid was kind on plain short (LpcWasServed served) lead same =
    let asks = served.asked in
    let tail = Did (PortIn 0x200) served.outcome ∷ port_reads 0x800 served.bytes in
    let at = idled-at table first asks.statuses true calls (served_calls packet asks.gots asks.got served.statuses tail) new valid was kind asks.idle (served-made packet calls heard served) lead in
    let core = same-core (settled table) awake at.core (lpc at.window at.status at.outcome) at.same on in
    served-exchange table after result body packet calls heard new (settled-valid table valid) plain short served at (ap (λ (c : Core). handled c 256 packet) (sym core) ∙ same)

-- an undisturbed send is one exchange
pub lpc-exchange : (table : Table) (awake : Awake) (packet : List ℕ) (calls : List HostCall) (heard : Heard) (new : Table) (after : Core) (result : ℕ) (body : List ℕ) → Valid table → table.kind ≡ Lpc → (settled table).power ≡ On awake → IsPlain packet → length packet ≤ 256 →
    LpcSend packet calls heard → CallsLead table calls new → handled (core_of (settled table) awake) 256 packet ≡ Answered after result body → Exchanges (first_statuses table) packet (response_packet result body) after calls heard new
lpc-exchange table awake packet calls heard new after result body valid kind on plain short sent lead same =
    let was = on-before table awake table.power refl on in
    exchange-from table was.awake awake packet calls heard new after result body valid was.on kind on plain short sent lead same

-- the same of the entries that it added
pub exchange-run : (table : Table) (awake : Awake) (packet : List ℕ) (added : List Entry) (heard : Heard) (new : Table) (after : Core) (result : ℕ) (body : List ℕ) → Valid table → table.kind ≡ Lpc → (settled table).power ≡ On awake → IsPlain packet → length packet ≤ 256 →
    Send Lpc added packet heard → IsRun table added new → IsUndisturbed added → list_all is_wire_step added ≡ true → handled (core_of (settled table) awake) 256 packet ≡ Answered after result body → IsExchange (first_statuses table) packet (response_packet result body) after added heard new
exchange-run table awake packet added heard new after result body valid kind on plain short sent run calm steps same =
    let exchanges = lpc-exchange table awake packet (calls_of added) heard new after result body valid kind on plain short sent.1 (calm_lead table added new calm run) same in
    record { entries = determined added steps calm ∙ ap (λ (calls : List HostCall). map quiet_entry calls) exchanges.calls_are; exchanges = exchanges }
