-- From any state of I2C there is an undisturbed exchange.
use Rattle.std.proofs.Common.{◌≡◌, refl, sym, ap, ◌∙◌, subst, ℕ, ◌+◌, ◌≤◌, Bool, true, nat_lt, if◌then◌else◌, List, [], ◌∷◌, ◌++◌, length, replicate, append_assoc, append-nil, length-append, arith}
use Rattle.std.proofs.lemmas.Bool.Decides.{leb_tells}
use Rattle.ec_types.specs.declared.bus.BusKind.TheVariants.{I2c}
use Rattle.ec_model.specs.declared.event.Access.TheVariants.{I2cStartWrite, I2cStartRead, I2cRead, I2cStop}
use Rattle.ec_model.specs.Packet.{response_packet}
use Rattle.ec_model.specs.Bus.{BusState, I2cState, OnLpc, OnI2c, OnSpi, Idle, Writing, Asked, Reading, kind_of, low_status}
use Rattle.ec_model.specs.HostCalls.{HostCall, Did}
use Rattle.ec_model.specs.Heard.{Reply, i2c_writes, reads_in_row, heard_if, heard_with}
use Rattle.ec_model.specs.SendI2c.{I2cSend, I2cWasServed, is_i2c_length}
use Rattle.ec_model.specs.Table.{Table, Awake, On, Core, Valid, core_of, table_of}
use Rattle.ec_model.specs.Answer.{Outcome, Answered}
use Rattle.ec_model.specs.Handle.{handled}
use Rattle.ec_model.specs.WholeStep.{after_outcome}
use Rattle.exchange_laws.specs.Calm.{CallsLead}
use Rattle.exchange_laws.specs.Transaction.{MakesTransaction, i2c_transaction}
use Rattle.exchange_laws.proofs.Response.{length-response, heard-response}
use Rattle.exchange_laws.proofs.Settled.{as-table, bus-facts}
use Rattle.exchange_laws.proofs.QuietEntries.{quiet-calm, quiet-are-calls, quiet-calls, quiet-run}

-- a place for one more byte
roomy : (size : ℕ) → size + 1 ≤ 129 → nat_lt size 129 ≡ true
roomy size short = grind (arith, leb_tells)

-- bytes that are written get 0 each, and are kept
writes-go : (core : Core) (written bytes : List ℕ) (calls : List HostCall) (new : Table) → length written + length bytes ≤ 129 → CallsLead (table_of core (OnI2c (Writing (written ++ bytes)))) calls new →
    CallsLead (table_of core (OnI2c (Writing written))) (i2c_writes bytes (replicate (length bytes) 0) ++ calls) new
writes-go core written [] calls new short lead = subst (λ (xs : List ℕ). CallsLead (table_of core (OnI2c (Writing xs))) calls new) (append-nil written) lead
writes-go core written (byte ∷ bytes) calls new short lead =
    let room = roomy (length written) (omega (arith, short)) in
    let moved = subst (λ (xs : List ℕ). CallsLead (table_of core (OnI2c (Writing xs))) calls new) (sym (append_assoc written (byte ∷ []) bytes)) lead in
    let rest = writes-go core (written ++ byte ∷ []) bytes calls new (omega (arith, short, length-append written (byte ∷ []))) moved in
    (refl, subst (λ (kept : Bool). CallsLead (table_of core (OnI2c (Writing (if kept then written ++ byte ∷ [] else written)))) (i2c_writes bytes (replicate (length bytes) 0) ++ calls) new) (sym room) rest)

-- what is left of a reply is read
reads-go : (core : Core) (bytes : List ℕ) (calls : List HostCall) (new : Table) → CallsLead (table_of core (OnI2c (Reading []))) calls new → CallsLead (table_of core (OnI2c (Reading bytes))) (reads_in_row I2cRead bytes ++ calls) new
reads-go core [] calls new lead = lead
reads-go core (byte ∷ bytes) calls new lead = (refl, reads-go core bytes calls new lead)

-- the start of a read has the request served
start-go : (core after : Core) (request : List ℕ) (result : ℕ) (body : List ℕ) (calls : List HostCall) (new : Table) → handled core 128 request ≡ Answered after result body →
    CallsLead (table_of after (OnI2c (Reading (low_status (response_packet result body) ∷ length (response_packet result body) ∷ response_packet result body)))) calls new →
    CallsLead (table_of core (OnI2c (Writing (0xDA ∷ request)))) (Did I2cStartRead 0 ∷ calls) new
start-go core after request result body calls new same lead =
    subst (λ (r : Outcome). (0 ≡ (after_outcome core (record { state = OnI2c (Asked request); answer = 0 }) 0xFF r).answer) × CallsLead (after_outcome core (record { state = OnI2c (Asked request); answer = 0 }) 0xFF r).table calls new) (sym same) (refl, lead)

-- the calls of a whole exchange
exchange-goes : (core after : Core) (state : I2cState) (packet : List ℕ) (result : ℕ) (body : List ℕ) → length packet ≤ 128 → handled core 128 packet ≡ Answered after result body →
    CallsLead (table_of core (OnI2c state)) (i2c_transaction packet (response_packet result body)) (table_of after (OnI2c (Idle [])))
exchange-goes core after state packet result body short same =
    let reply = response_packet result body in
    let new = table_of after (OnI2c (Idle [])) in
    let first = Did I2cStartWrite 0 ∷ i2c_writes (0xDA ∷ packet) (replicate (1 + length packet) 0) in
    let middle = Did I2cStartRead 0 ∷ Did I2cRead (low_status reply) ∷ Did I2cRead (length reply) ∷ reads_in_row I2cRead reply in
    let stop = Did I2cStop 0 ∷ [] in
    let reads = reads-go after reply stop new (refl, refl) in
    let started = start-go core after packet result body (Did I2cRead (low_status reply) ∷ Did I2cRead (length reply) ∷ (reads_in_row I2cRead reply ++ stop)) new same (refl, (refl, reads)) in
    let written = writes-go core [] (0xDA ∷ packet) (middle ++ stop) new (omega (arith, short)) started in
    let size : length (0xDA ∷ packet) ≡ 1 + length packet = omega arith in
    let counted = subst (λ (n : ℕ). CallsLead (table_of core (OnI2c (Writing []))) (i2c_writes (0xDA ∷ packet) (replicate n 0) ++ (middle ++ stop)) new) size written in
    subst (λ (calls : List HostCall). CallsLead (table_of core (OnI2c state)) calls new) (sym (append_assoc first middle stop)) (refl, counted)

-- a length on I2C
in-range : (size : ℕ) → size ≤ 120 → is_i2c_length (8 + size) ≡ true
in-range size short = grind (arith, leb_tells)

-- the length of a response that fits
response-fits : (result : ℕ) (body : List ℕ) → length body ≤ 120 → is_i2c_length (length (response_packet result body)) ≡ true
response-fits result body short = ap (λ (n : ℕ). is_i2c_length n) (length-response result body) ∙ in-range (length body) short

-- the calls of an exchange are a send
exchange-sends : (packet : List ℕ) (result : ℕ) (body : List ℕ) → length body ≤ 120 → I2cSend packet (i2c_transaction packet (response_packet result body)) (Reply (response_packet result body))
exchange-sends packet result body short =
    let reply = response_packet result body in
    let fits = response-fits result body short in
    I2cWasServed (record {
      first = Did I2cStartWrite 0 ∷ i2c_writes (0xDA ∷ packet) (replicate (1 + length packet) 0);
      outcome = low_status reply;
      size = length reply;
      bytes = reply;
      stopped = 0;
      asked = record { made = refl };
      whole = sym (ap (λ (b : Bool). if b then length reply else 0) fits);
      made = refl;
      heard_is = sym (ap (λ (b : Bool). heard_if b (heard_with (low_status reply) reply)) fits ∙ heard-response result body (omega (arith, short)));
    })

-- there is an exchange from any state
makes-by : (core after : Core) (bus : BusState) (packet : List ℕ) (result : ℕ) (body : List ℕ) → kind_of bus ≡ I2c → length packet ≤ 128 → length body ≤ 120 → handled core 128 packet ≡ Answered after result body →
    MakesTransaction I2c packet (response_packet result body) after (table_of core bus) (i2c_transaction packet (response_packet result body))
makes-by core after (OnLpc state) packet result body kind short fits same = absurd (cc)
makes-by core after (OnI2c state) packet result body kind short fits same =
    let reply = response_packet result body in
    let calls = i2c_transaction packet reply in
    record {
      new = table_of after (OnI2c (Idle []));
      run = quiet-run (table_of core (OnI2c state)) calls (table_of after (OnI2c (Idle []))) (exchange-goes core after state packet result body short same);
      transacted = record {
        exchange = record {
          undisturbed = quiet-calm calls;
          sent = (quiet-are-calls calls, subst (λ (made : List HostCall). I2cSend packet made (Reply reply)) (sym (quiet-calls calls)) (exchange-sends packet result body fits));
        };
        leaves = record { bus = OnI2c (Idle []); same = refl; rest = refl };
      };
    }
makes-by core after (OnSpi state) packet result body kind short fits same = absurd (cc)

-- there is an exchange from a valid table
pub i2c-makes : (table : Table) (awake : Awake) (packet : List ℕ) (after : Core) (result : ℕ) (body : List ℕ) → Valid table → table.kind ≡ I2c → table.power ≡ On awake → length packet ≤ 128 → length body ≤ 120 → handled (core_of table awake) 128 packet ≡ Answered after result body →
    MakesTransaction I2c packet (response_packet result body) after table (i2c_transaction packet (response_packet result body))
i2c-makes table awake packet after result body valid kind on short fits same =
    let facts = bus-facts table awake valid on in
    subst (λ (t : Table). MakesTransaction I2c packet (response_packet result body) after t (i2c_transaction packet (response_packet result body))) (sym (as-table table awake on facts.kind))
    (makes-by (core_of table awake) after awake.bus packet result body (facts.kind ∙ kind) short fits same)
