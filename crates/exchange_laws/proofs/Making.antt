-- From a bus at rest there is an undisturbed exchange on LPC.
use Rattle.std.proofs.Common.{◌≡◌, refl, sym, ap, ◌∙◌, subst, ℕ, ◌+◌, ◌≤◌, Bool, true, false, ◌&&◌, ◌==◌, nat_le, List, [], ◌∷◌, ◌++◌, length, map, replicate, append_assoc, arith}
use Rattle.std.proofs.lemmas.List.{length-replicate}
use Rattle.std.proofs.lemmas.Bool.Decides.{leb_tells}
use Rattle.ec_types.specs.declared.bus.BusKind.TheVariants.{Lpc}
use Rattle.ec_model.specs.declared.event.Access.TheVariants.{PortOut, PortIn}
use Rattle.ec_model.specs.Packet.{response_packet, response_length}
use Rattle.ec_model.specs.Bus.{BusState, OnLpc, OnI2c, OnSpi, kind_of, is_busy, is_at_rest, low_status}
use Rattle.ec_model.specs.HostCalls.{HostCall, Did}
use Rattle.ec_model.specs.Heard.{Heard, Reply, waited_reads, spaced_reads, port_reads, port_writes, reads_on, is_all_read, heard_if, heard_with}
use Rattle.ec_model.specs.SendLpc.{status_in, LpcSend, LpcWasServed}
use Rattle.ec_model.specs.Send.{Send}
use Rattle.ec_model.specs.Table.{Table, Awake, On, Core, Valid, core_of, table_of}
use Rattle.ec_model.specs.Answer.{Outcome, Answered}
use Rattle.ec_model.specs.Handle.{handled, asked}
use Rattle.ec_model.proofs.ShortRows.{IsShort}
use Rattle.ec_model.proofs.ValidStep.{row_of-short}
use Rattle.ec_wire.specs.Quiet.{quiet_entry}
use Rattle.exchange_laws.specs.Served.{IsPlain}
use Rattle.exchange_laws.specs.Exchange.{lpc_exchange_calls}
use Rattle.exchange_laws.specs.Transaction.{MakesTransaction, lpc_transaction}
use Rattle.exchange_laws.proofs.Response.{length-response, response-named, heard-response, eq-true, fits}
use Rattle.exchange_laws.proofs.LpcLead.{lpc}
use Rattle.exchange_laws.proofs.Settled.{as-table}
use Rattle.exchange_laws.proofs.LpcSend.{core-valid, window-whole, regroup}
use Rattle.exchange_laws.proofs.LpcMakes.{left_window, exchange-goes}
use Rattle.exchange_laws.proofs.QuietEntries.{quiet-calm, quiet-are-calls, quiet-calls, quiet-run}
use Rattle.exchange_laws.proofs.Transacted.{not-true}

-- at least a header
header : (size : ℕ) → nat_le 8 (8 + size) ≡ true
header size = grind (arith, leb_tells)

-- the host reads on behind the header of a response that the window holds
response-on : (result : ℕ) (body : List ℕ) → length body ≤ 248 → reads_on 248 (response_packet result body) ≡ true
response-on result body short = ap (λ (n : ℕ). nat_le n 248) (response-named result body (omega (arith, short))) ∙ fits (length body) short

-- all of it is read
response-whole : (result : ℕ) (body : List ℕ) → length body ≤ 248 → is_all_read (reads_on 248 (response_packet result body)) (response_packet result body) ≡ true
response-whole result body short =
    let reply = response_packet result body in
    let on = response-on result body short in
    let many : nat_le 8 (length reply) ≡ true = ap (λ (n : ℕ). nat_le 8 n) (length-response result body) ∙ header (length body) in
    let all : (length reply == 8 + response_length reply) ≡ true = eq-true _ _ (length-response result body ∙ ap (λ (n : ℕ). 8 + n) (sym (response-named result body (omega (arith, short))))) in
    ap (λ (b : Bool). is_all_read b reply) on ∙ ap (λ (b : Bool). b && (length reply == 8 + response_length reply)) many ∙ all

-- and heard
response-heard : (result : ℕ) (body : List ℕ) → length body ≤ 248 → Reply (response_packet result body) ≡ heard_if (reads_on 248 (response_packet result body)) (heard_with (low_status (response_packet result body)) (response_packet result body))
response-heard result body short =
    let reply = response_packet result body in
    sym (ap (λ (b : Bool). heard_if b (heard_with (low_status reply) reply)) (response-on result body short) ∙ heard-response result body (omega (arith, short)))

-- the calls of an exchange are a send
exchange-sends : (status result : ℕ) (packet body : List ℕ) → is_busy status ≡ false → length body ≤ 248 → LpcSend packet (lpc_exchange_calls (status ∷ []) packet (response_packet result body)) (Reply (response_packet result body))
exchange-sends status result packet body idle short =
    let reply = response_packet result body in
    let zeros = replicate (length packet) 0 in
    let tail = Did (PortIn 0x200) (low_status reply) ∷ port_reads 0x800 reply in
    LpcWasServed (record {
      first = spaced_reads status_in (status ∷ []) ++ port_writes 0x800 packet zeros ++ Did (PortOut 0x204 0xDA) 0 ∷ [];
      statuses = 0x01 ∷ [];
      outcome = low_status reply;
      bytes = reply;
      asked = record { statuses = status ∷ []; gots = zeros; got = 0; idle = rw idle refl; each = length-replicate {A = ℕ} (length packet) 0; made = refl };
      idle = refl;
      whole = response-whole result body short;
      made = append_assoc (spaced_reads status_in (status ∷ [])) (port_writes 0x800 packet zeros) (Did (PortOut 0x204 0xDA) 0 ∷ (waited_reads status_in (0x01 ∷ []) ++ tail)) ∙ sym (regroup (spaced_reads status_in (status ∷ [])) (port_writes 0x800 packet zeros) (waited_reads status_in (0x01 ∷ [])) tail (Did (PortOut 0x204 0xDA) 0));
      heard_is = response-heard result body short;
    })

-- the entries of a send's calls are a send
entries-send : (packet : List ℕ) (calls : List HostCall) (heard : Heard) → LpcSend packet calls heard → Send Lpc (map quiet_entry calls) packet heard
entries-send packet calls heard sent = (quiet-are-calls calls, subst (λ (made : List HostCall). LpcSend packet made heard) (sym (quiet-calls calls)) sent)

-- there is an exchange from a bus that is not busy
makes-at : (core after : Core) (window : List ℕ) (status outcome : ℕ) (packet : List ℕ) (result : ℕ) (body : List ℕ) → Valid (table_of core (lpc window status outcome)) → is_busy status ≡ false → IsPlain packet → length packet ≤ 256 → handled core 256 packet ≡ Answered after result body →
    MakesTransaction Lpc packet (response_packet result body) after (table_of core (lpc window status outcome)) (lpc_exchange_calls (status ∷ []) packet (response_packet result body))
makes-at core after window status outcome packet result body valid idle plain short same =
    let reply = response_packet result body in
    let calls = lpc_exchange_calls (status ∷ []) packet reply in
    let small : length body ≤ 248 = subst (λ (o : Outcome). IsShort o) same (row_of-short core (asked core packet) (core-valid core window status outcome valid)) in
    let bus = lpc (left_window window packet reply) 0 (low_status reply) in
    record {
      new = table_of after bus;
      run = quiet-run (table_of core (lpc window status outcome)) calls (table_of after bus) (exchange-goes core after window status outcome packet result body (window-whole core window status outcome valid) idle plain short same small);
      transacted = record {
        exchange = record { undisturbed = quiet-calm calls; sent = entries-send packet calls (Reply reply) (exchange-sends status result packet body idle small) };
        leaves = record { bus = bus; same = refl; rest = refl };
      };
    }

-- the same by the bus of a table
makes-by : (core after : Core) (bus : BusState) (packet : List ℕ) (result : ℕ) (body : List ℕ) → kind_of bus ≡ Lpc → Valid (table_of core bus) → is_at_rest bus ≡ true → IsPlain packet → length packet ≤ 256 → handled core 256 packet ≡ Answered after result body →
    MakesTransaction Lpc packet (response_packet result body) after (table_of core bus) (lpc_transaction packet (response_packet result body) (table_of core bus))
makes-by core after (OnLpc state) packet result body kind valid rest plain short same =
    makes-at core after state.window state.status state.outcome packet result body valid (not-true (is_busy state.status) rest) plain short same
makes-by core after (OnI2c state) packet result body kind valid rest plain short same = absurd (cc)
makes-by core after (OnSpi state) packet result body kind valid rest plain short same = absurd (cc)

-- there is an exchange from a valid table whose bus is at rest
pub makes : (table : Table) (awake : Awake) (packet : List ℕ) (after : Core) (result : ℕ) (body : List ℕ) → Valid table → table.kind ≡ Lpc → table.power ≡ On awake → is_at_rest awake.bus ≡ true → IsPlain packet → length packet ≤ 256 → handled (core_of table awake) 256 packet ≡ Answered after result body →
    MakesTransaction Lpc packet (response_packet result body) after table (lpc_transaction packet (response_packet result body) table)
makes table awake packet after result body valid kind on rest plain short same =
    let awake_valid = rw on at valid.power in
    let placed = as-table table awake on awake_valid.bus_kind in
    subst (λ (t : Table). MakesTransaction Lpc packet (response_packet result body) after t (lpc_transaction packet (response_packet result body) t)) (sym placed)
    (makes-by (core_of table awake) after awake.bus packet result body (awake_valid.bus_kind ∙ kind) (subst (λ (t : Table). Valid t) placed valid) rest plain short same)
