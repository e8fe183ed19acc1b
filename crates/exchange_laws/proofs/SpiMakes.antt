-- From any state of SPI there is an undisturbed exchange.
use Rattle.std.proofs.Common.{◌≡◌, refl, sym, ap, ◌∙◌, subst, ℕ, ◌+◌, ◌-◌, ◌<◌, ◌≤◌, Bool, true, false, ◌&&◌, ◌==◌, nat_lt, nat_le, if◌then◌else◌, List, [], ◌∷◌, ◌++◌, length, drop, get_or, replicate, append_assoc, length-append, arith}
use Rattle.std.proofs.lemmas.List.{length-replicate, get_or-drop, get_or_append_left}
use Rattle.std.proofs.lemmas.Bool.Decides.{leb_tells, eqb_tells}
use Rattle.ec_types.specs.LittleEndian.{u16_at}
use Rattle.ec_types.specs.declared.bus.BusKind.TheVariants.{Spi}
use Rattle.ec_model.specs.declared.event.Access.TheVariants.{SpiSelect, SpiByte, SpiDeselect}
use Rattle.ec_model.specs.Packet.{response_packet, response_length}
use Rattle.ec_model.specs.Bus.{BusState, SpiState, OnLpc, OnI2c, OnSpi, Deselected, Receiving, Waiting, Replied, kind_of, spi_received}
use Rattle.ec_model.specs.HostCalls.{HostCall, Did, Waited}
use Rattle.ec_model.specs.Heard.{Reply, Bad, spi_writes, spaced_reads, reads_in_row, is_all_read, reads_on, heard_if, heard_packet}
use Rattle.ec_model.specs.SendSpi.{SpiSend, SpiWasServed}
use Rattle.ec_model.specs.Table.{Table, Awake, On, Core, Valid, core_of, table_of}
use Rattle.ec_model.specs.Answer.{Outcome, Answered}
use Rattle.ec_model.specs.Handle.{handled}
use Rattle.ec_model.specs.WholeStep.{after_outcome}
use Rattle.exchange_laws.specs.Calm.{CallsLead}
use Rattle.exchange_laws.specs.Served.{IsPlain}
use Rattle.exchange_laws.specs.Transaction.{MakesTransaction, spi_transaction}
use Rattle.exchange_laws.proofs.Framed.{enough}
use Rattle.exchange_laws.proofs.Response.{length-response, response-named, response-is, eq-true}
use Rattle.exchange_laws.proofs.Settled.{as-table, bus-facts}
use Rattle.exchange_laws.proofs.QuietEntries.{quiet-calm, quiet-are-calls, quiet-calls, quiet-run}

-- a whole request waits
pub received-whole : (bytes : List ℕ) → length bytes ≡ 8 + u16_at 6 bytes → u16_at 6 bytes ≤ 536 → spi_received bytes ≡ Waiting bytes
received-whole bytes whole short =
    let long = enough (length bytes) 8 (omega (arith, whole)) in
    let fits = enough 536 (u16_at 6 bytes) short in
    let all = enough (length bytes) (8 + u16_at 6 bytes) (omega (arith, whole)) in
    rw (long, fits, all) refl

-- the length that a header names does not depend on what follows it
named-front : (bytes more : List ℕ) → 8 ≤ length bytes → u16_at 6 (bytes ++ more) ≡ u16_at 6 bytes
named-front bytes more long =
    let low : get_or (drop 6 (bytes ++ more)) 0 0 ≡ get_or (drop 6 bytes) 0 0 = get_or-drop 6 (bytes ++ more) 0 0 ∙ get_or_append_left bytes more 0 6 (omega (arith, long)) ∙ sym (get_or-drop 6 bytes 0 0) in
    let high : get_or (drop 6 (bytes ++ more)) 1 0 ≡ get_or (drop 6 bytes) 1 0 = get_or-drop 6 (bytes ++ more) 1 0 ∙ get_or_append_left bytes more 0 7 (omega (arith, long)) ∙ sym (get_or-drop 6 bytes 1 0) in
    rw (low, high) refl

-- a number that is below another, and one that is not
below : (n m : ℕ) → n < m → nat_lt n m ≡ true
below n m less = grind (arith, leb_tells)

at-least : (n m : ℕ) → nat_lt n m ≡ false → m ≤ n
at-least n m same = grind (arith)

-- a part of a request is received on
pub received-by : (test : Bool) (bytes more : List ℕ) → nat_lt (length bytes) 8 ≡ test → 1 ≤ length more → length (bytes ++ more) ≡ 8 + u16_at 6 (bytes ++ more) → u16_at 6 (bytes ++ more) ≤ 536 → spi_received bytes ≡ Receiving bytes
received-by true bytes more header some whole short = rw header refl
received-by false bytes more header some whole short =
    let named = named-front bytes more (at-least (length bytes) 8 header) in
    let fits = enough 536 (u16_at 6 bytes) (subst (λ (n : ℕ). n ≤ 536) named short) in
    let part = below (length bytes) (8 + u16_at 6 bytes) (omega (arith, some, length-append bytes more, whole ∙ ap (λ (n : ℕ). 8 + n) named)) in
    rw (header, fits, part) refl

-- a byte behind the first one gets 0xF9
pub behind-first : (size : ℕ) → 1 ≤ size → ◌≡◌ {A = ℕ} (if size == 0 then 0xF8 else 0xF9) 0xF9
behind-first size some = let differs = other size some in rw differs refl
  where
    other : (size : ℕ) → 1 ≤ size → (size == 0) ≡ false
    other size some = grind (arith, eqb_tells)

-- the bytes of a request behind the first one
writes-go : (core : Core) (front bytes : List ℕ) (calls : List HostCall) (new : Table) → 1 ≤ length front → 1 ≤ length bytes → length (front ++ bytes) ≡ 8 + u16_at 6 (front ++ bytes) → u16_at 6 (front ++ bytes) ≤ 536 →
    CallsLead (table_of core (OnSpi (Waiting (front ++ bytes)))) calls new → CallsLead (table_of core (OnSpi (Receiving front))) (spi_writes bytes (replicate (length bytes) 0xF9) ++ calls) new
writes-go core front [] calls new begun some whole short lead = absurd (omega (arith, some))
writes-go core front (byte ∷ []) calls new begun some whole short lead = (
  sym (behind-first (length front) begun),
  subst (λ (state : SpiState). CallsLead (table_of core (OnSpi state)) calls new) (sym (received-whole (front ++ byte ∷ []) whole short)) lead,
)
writes-go core front (byte ∷ next ∷ bytes) calls new begun some whole short lead =
    let joined = sym (append_assoc front (byte ∷ []) (next ∷ bytes)) in
    let later_whole = subst (λ (xs : List ℕ). length xs ≡ 8 + u16_at 6 xs) joined whole in
    let later_short = subst (λ (xs : List ℕ). u16_at 6 xs ≤ 536) joined short in
    let moved = subst (λ (xs : List ℕ). CallsLead (table_of core (OnSpi (Waiting xs))) calls new) joined lead in
    let rest = writes-go core (front ++ byte ∷ []) (next ∷ bytes) calls new (omega (arith, length-append front (byte ∷ []))) (omega arith) later_whole later_short moved in
    let received = received-by (nat_lt (length (front ++ byte ∷ [])) 8) (front ++ byte ∷ []) (next ∷ bytes) refl (omega arith) later_whole later_short in (
      sym (behind-first (length front) begun),
      subst (λ (state : SpiState). CallsLead (table_of core (OnSpi state)) (spi_writes (next ∷ bytes) (replicate (length (next ∷ bytes)) 0xF9) ++ calls) new) (sym received) rest,
    )

-- what is left of a reply is read
reads-go : (core : Core) (bytes : List ℕ) (calls : List HostCall) (new : Table) → CallsLead (table_of core (OnSpi (Replied []))) calls new → CallsLead (table_of core (OnSpi (Replied bytes))) (reads_in_row (SpiByte 0) bytes ++ calls) new
reads-go core [] calls new lead = lead
reads-go core (byte ∷ bytes) calls new lead = (refl, reads-go core bytes calls new lead)

-- the wait has the request served
tick-go : (core after : Core) (request : List ℕ) (result : ℕ) (body : List ℕ) (calls : List HostCall) (new : Table) → handled core 544 request ≡ Answered after result body →
    CallsLead (table_of after (OnSpi (Replied (0xEC ∷ response_packet result body)))) calls new → CallsLead (table_of core (OnSpi (Waiting request))) (Waited ∷ calls) new
tick-go core after request result body calls new same lead =
    subst (λ (r : Outcome). CallsLead (after_outcome core (record { state = OnSpi (Waiting request); answer = 0 }) 0 r).table calls new) (sym same) lead

-- a whole request is written
request-goes : (core : Core) (packet : List ℕ) (calls : List HostCall) (new : Table) → IsPlain packet → length packet ≤ 544 → CallsLead (table_of core (OnSpi (Waiting packet))) calls new →
    CallsLead (table_of core (OnSpi (Receiving []))) (spi_writes packet (0xF8 ∷ replicate (length packet - 1) 0xF9) ++ calls) new
request-goes core [] calls new plain short lead = absurd (omega (arith, plain.header))
request-goes core (byte ∷ bytes) calls new plain short lead =
    let some : 1 ≤ length bytes = omega (arith, plain.header) in
    let fits : u16_at 6 (byte ∷ bytes) ≤ 536 = omega (arith, plain.whole, short) in
    let rest = writes-go core (byte ∷ []) bytes calls new (omega arith) some plain.whole fits lead in
    let size : length bytes ≡ length (byte ∷ bytes) - 1 = omega arith in
    (refl, subst (λ (n : ℕ). CallsLead (table_of core (OnSpi (Receiving (byte ∷ [])))) (spi_writes bytes (replicate n 0xF9) ++ calls) new) size rest)

-- four lists, grouped otherwise
pub regroup : (a b c d : List HostCall) → a ++ (b ++ (c ++ d)) ≡ a ++ b ++ c ++ d
regroup a b c d = simp append_assoc

-- the calls of a whole exchange
exchange-goes : (core after : Core) (state : SpiState) (packet : List ℕ) (result : ℕ) (body : List ℕ) → IsPlain packet → length packet ≤ 544 → handled core 544 packet ≡ Answered after result body →
    CallsLead (table_of core (OnSpi state)) (spi_transaction packet (response_packet result body)) (table_of after (OnSpi Deselected))
exchange-goes core after state packet result body plain short same =
    let reply = response_packet result body in
    let new = table_of after (OnSpi Deselected) in
    let first = Did SpiSelect 0 ∷ spi_writes packet (0xF8 ∷ replicate (length packet - 1) 0xF9) in
    let poll = spaced_reads (SpiByte 0) (0xFA ∷ 0xEC ∷ []) in
    let reads = reads_in_row (SpiByte 0) reply in
    let stop = Did SpiDeselect 0 ∷ [] in
    let read = reads-go after reply stop new (refl, refl) in
    let ticked = tick-go core after packet result body (Did (SpiByte 0) 0xEC ∷ (reads ++ stop)) new same (refl, read) in
    let written = request-goes core packet (poll ++ (reads ++ stop)) new plain short (refl, ticked) in
    subst (λ (calls : List HostCall). CallsLead (table_of core (OnSpi state)) calls new) (regroup first poll reads stop) (refl, written)

-- at least a header, and at most a limit
header : (size : ℕ) → nat_le 8 (8 + size) ≡ true
header size = grind (arith, leb_tells)

pub within : (size : ℕ) → size ≤ 536 → nat_le size 536 ≡ true
within size short = grind (arith, leb_tells)

-- the host reads on behind the header of a response that fits
response-on : (result : ℕ) (body : List ℕ) → length body ≤ 536 → reads_on 536 (response_packet result body) ≡ true
response-on result body short = ap (λ (n : ℕ). nat_le n 536) (response-named result body (omega (arith, short))) ∙ within (length body) short

-- all of it is read
response-whole : (result : ℕ) (body : List ℕ) → length body ≤ 536 → is_all_read (reads_on 536 (response_packet result body)) (response_packet result body) ≡ true
response-whole result body short =
    let reply = response_packet result body in
    let many : nat_le 8 (length reply) ≡ true = ap (λ (n : ℕ). nat_le 8 n) (length-response result body) ∙ header (length body) in
    let all : (length reply == 8 + response_length reply) ≡ true = eq-true _ _ (length-response result body ∙ ap (λ (n : ℕ). 8 + n) (sym (response-named result body (omega (arith, short))))) in
    ap (λ (b : Bool). is_all_read b reply) (response-on result body short) ∙ ap (λ (b : Bool). b && (length reply == 8 + response_length reply)) many ∙ all

-- and heard
pub response-heard : (result : ℕ) (body : List ℕ) → length body ≤ 536 → Reply (response_packet result body) ≡ heard_if (reads_on 536 (response_packet result body)) (heard_packet (response_packet result body))
response-heard result body short =
    let reply = response_packet result body in
    sym (ap (λ (b : Bool). heard_if b (heard_packet reply)) (response-on result body short) ∙ ap (λ (b : Bool). if b then Reply reply else Bad) (response-is result body (omega (arith, short))))

-- one answer for each byte of a request
gots-size : (packet : List ℕ) → 8 ≤ length packet → length {A = ℕ} (0xF8 ∷ replicate (length packet - 1) 0xF9) ≡ length packet
gots-size packet long = omega (arith, long, length-replicate {A = ℕ} (length packet - 1) 0xF9)

-- the calls of an exchange are a send
exchange-sends : (packet : List ℕ) (result : ℕ) (body : List ℕ) → IsPlain packet → length body ≤ 536 → SpiSend packet (spi_transaction packet (response_packet result body)) (Reply (response_packet result body))
exchange-sends packet result body plain short = SpiWasServed (record {
  first = Did SpiSelect 0 ∷ spi_writes packet (0xF8 ∷ replicate (length packet - 1) 0xF9);
  answers = 0xFA ∷ 0xEC ∷ [];
  bytes = response_packet result body;
  stopped = 0;
  asked = record { selected = 0; gots = 0xF8 ∷ replicate (length packet - 1) 0xF9; each = gots-size packet plain.header; made = refl };
  polled = refl;
  replied = refl;
  whole = response-whole result body short;
  made = refl;
  heard_is = response-heard result body short;
})

-- there is an exchange from any state
makes-by : (core after : Core) (bus : BusState) (packet : List ℕ) (result : ℕ) (body : List ℕ) → kind_of bus ≡ Spi → IsPlain packet → length packet ≤ 544 → length body ≤ 536 → handled core 544 packet ≡ Answered after result body →
    MakesTransaction Spi packet (response_packet result body) after (table_of core bus) (spi_transaction packet (response_packet result body))
makes-by core after (OnLpc state) packet result body kind plain short fits same = absurd (cc)
makes-by core after (OnI2c state) packet result body kind plain short fits same = absurd (cc)
makes-by core after (OnSpi state) packet result body kind plain short fits same =
    let reply = response_packet result body in
    let calls = spi_transaction packet reply in
    record {
      new = table_of after (OnSpi Deselected);
      run = quiet-run (table_of core (OnSpi state)) calls (table_of after (OnSpi Deselected)) (exchange-goes core after state packet result body plain short same);
      transacted = record {
        exchange = record {
          undisturbed = quiet-calm calls;
          sent = (quiet-are-calls calls, subst (λ (made : List HostCall). SpiSend packet made (Reply reply)) (sym (quiet-calls calls)) (exchange-sends packet result body plain fits));
        };
        leaves = record { bus = OnSpi Deselected; same = refl; rest = refl };
      };
    }

-- there is an exchange from a valid table
pub spi-makes : (table : Table) (awake : Awake) (packet : List ℕ) (after : Core) (result : ℕ) (body : List ℕ) → Valid table → table.kind ≡ Spi → table.power ≡ On awake → IsPlain packet → length packet ≤ 544 → length body ≤ 536 → handled (core_of table awake) 544 packet ≡ Answered after result body →
    MakesTransaction Spi packet (response_packet result body) after table (spi_transaction packet (response_packet result body))
spi-makes table awake packet after result body valid kind on plain short fits same =
    let facts = bus-facts table awake valid on in
    subst (λ (t : Table). MakesTransaction Spi packet (response_packet result body) after t (spi_transaction packet (response_packet result body))) (sym (as-table table awake on facts.kind))
    (makes-by (core_of table awake) after awake.bus packet result body (facts.kind ∙ kind) plain short fits same)
