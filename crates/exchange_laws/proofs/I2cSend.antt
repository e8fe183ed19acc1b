-- An undisturbed send on I2C: the request is handled, and its response is heard.
use Rattle.std.proofs.Common.{◌≡◌, refl, sym, ap, ◌∙◌, subst, ℕ, ◌+◌, ◌≤◌, Bool, true, if◌then◌else◌, List, [], ◌∷◌, ◌++◌, length, take, replicate, append_assoc, length-append, length-take, arith}
use Rattle.std.proofs.lemmas.Bool.Decides.{leb_tells}
use Rattle.std.proofs.lemmas.List.{length-replicate}
use Rattle.ec_types.specs.declared.bus.BusKind.TheVariants.{I2c}
use Rattle.ec_model.specs.declared.event.Access.TheVariants.{I2cStartWrite, I2cStartRead, I2cRead, I2cStop}
use Rattle.ec_model.specs.Packet.{response_packet}
use Rattle.ec_model.specs.Bus.{BusState, I2cState, OnLpc, OnI2c, OnSpi, Idle, Writing, Reading, kind_of, low_status, i2c_stopped}
use Rattle.ec_model.specs.HostCalls.{HostCall, Did}
use Rattle.ec_model.specs.Heard.{Heard, Reply, i2c_writes, reads_in_row, heard_if, heard_with}
use Rattle.ec_model.specs.SendI2c.{I2cAsked, I2cSend, I2cWasUnstarted, I2cWasUnwritten, I2cWasUnread, I2cWasServed, is_i2c_length}
use Rattle.ec_model.specs.Send.{OneAccess}
use Rattle.ec_model.specs.Table.{Table, Awake, On, Core, Valid, core_of, table_of}
use Rattle.ec_model.specs.Answer.{Outcome, Answered, Restarts}
use Rattle.ec_model.specs.Handle.{handled}
use Rattle.ec_model.specs.Syncable.{settled}
use Rattle.ec_model.proofs.ValidRows.{IsCoreValid}
use Rattle.exchange_laws.specs.Calm.{CallsLead}
use Rattle.exchange_laws.specs.Served.{IsPlain, IsAnswer, ServesPacket, Settles}
use Rattle.exchange_laws.specs.Transaction.{i2c_transaction}
use Rattle.exchange_laws.proofs.FitRows.{Fits, handled-fits}
use Rattle.exchange_laws.proofs.Plain.{plain-answered}
use Rattle.exchange_laws.proofs.Response.{length-response, heard-response}
use Rattle.exchange_laws.proofs.Settled.{as-table, bus-facts}
use Rattle.exchange_laws.proofs.I2cLead.{start-lead, writes-lead, served-lead, reads-lead, stop-lead, all-taken}

-- the calls are a whole transaction of the packet for this response, which was heard, and the core is left with an idle bus
pub record Transacts (after : Core) (packet response : List ℕ) (calls : List HostCall) (heard : Heard) (new : Table) : Type 0 where
  pub calls_are : calls ≡ i2c_transaction packet response
  pub heard_is : heard ≡ Reply response
  pub leaves : new ≡ table_of after (OnI2c (Idle []))

-- the calls of a write that was taken, and what follows it
abbrev asked_calls : List ℕ → List HostCall → List HostCall
asked_calls packet rest = Did I2cStartWrite 0 ∷ (i2c_writes (0xDA ∷ packet) (replicate (1 + length packet) 0) ++ rest)

-- calls behind a write that was taken
behind-asked : (packet : List ℕ) (calls first rest : List HostCall) → I2cAsked packet first → calls ≡ first ++ rest → calls ≡ asked_calls packet rest
behind-asked packet calls first rest asked made = made ∙ ap (λ (xs : List HostCall). xs ++ rest) asked.made

-- the request stands written behind them
asked-lead : (core : Core) (state : I2cState) (packet : List ℕ) (rest : List HostCall) (new : Table) → length packet ≤ 128 → CallsLead (table_of core (OnI2c state)) (asked_calls packet rest) new → CallsLead (table_of core (OnI2c (Writing (0xDA ∷ packet)))) rest new
asked-lead core state packet rest new short lead =
    let begun = start-lead core state 0 (i2c_writes (0xDA ∷ packet) (replicate (1 + length packet) 0) ++ rest) new lead in
    (writes-lead core [] (0xDA ∷ packet) (replicate (1 + length packet) 0) rest new (omega (arith, short)) (length-replicate (1 + length packet) 0 ∙ omega arith) begun.1).1

-- a length that fits
in-range : (size : ℕ) → 8 ≤ size → size ≤ 128 → is_i2c_length size ≡ true
in-range size header short = grind (arith, leb_tells)

-- the calls behind a write of the request
abbrev read_calls : ℕ → ℕ → List ℕ → ℕ → List HostCall
read_calls outcome size bytes stopped = Did I2cStartRead 0 ∷ Did I2cRead outcome ∷ Did I2cRead size ∷ (reads_in_row I2cRead bytes ++ Did I2cStop stopped ∷ [])

-- three lists behind others, grouped otherwise
regroup : (x y z w : HostCall) (a b c : List HostCall) → x ∷ (a ++ (y ∷ z ∷ w ∷ (b ++ c))) ≡ x ∷ (a ++ y ∷ z ∷ w ∷ b ++ c)
regroup x y z w a b c = ap (λ (xs : List HostCall). x ∷ xs) (sym (append_assoc a (y ∷ z ∷ w ∷ b) c))

-- the reply was read
read-lead : (after : Core) (packet : List ℕ) (status : ℕ) (body : List ℕ) (outcome size : ℕ) (bytes : List ℕ) (stopped : ℕ) (heard : Heard) (new : Table) → 8 + length body ≤ 128 →
    length bytes ≡ (if is_i2c_length size then size else 0) → heard ≡ heard_if (is_i2c_length size) (heard_with outcome bytes) →
    CallsLead (table_of after (OnI2c (Reading (low_status (response_packet status body) ∷ length (response_packet status body) ∷ response_packet status body)))) (Did I2cRead outcome ∷ Did I2cRead size ∷ (reads_in_row I2cRead bytes ++ Did I2cStop stopped ∷ [])) new →
    Transacts after packet (response_packet status body) (asked_calls packet (read_calls outcome size bytes stopped)) heard new
read-lead after packet status body outcome size bytes stopped heard new fits whole heard_is lead =
    let reply = response_packet status body in
    let size_is : size ≡ length reply = lead.1.0 in
    let named = length-response status body in
    let is : is_i2c_length size ≡ true = in-range size (omega (arith, size_is, named)) (omega (arith, size_is, named, fits)) in
    let each : length bytes ≡ length reply = whole ∙ ap (λ (test : Bool). if test then size else 0) is ∙ size_is in
    let read = reads-lead after reply bytes (Did I2cStop stopped ∷ []) new each lead.1.1 in
    let ended = stop-lead after (Reading []) stopped new read.1 in
    let judged : heard_with outcome bytes ≡ Reply reply = ap (λ (n : ℕ). heard_with n bytes) lead.0 ∙ ap (λ (xs : List ℕ). heard_with (low_status reply) xs) read.0 ∙ heard-response status body (omega (arith, fits)) in
    record {
      calls_are = ap (λ (n : ℕ). asked_calls packet (read_calls n size bytes stopped)) lead.0 ∙ ap (λ (n : ℕ). asked_calls packet (read_calls (low_status reply) n bytes stopped)) size_is
          ∙ ap (λ (xs : List ℕ). asked_calls packet (read_calls (low_status reply) (length reply) xs stopped)) read.0 ∙ ap (λ (n : ℕ). asked_calls packet (read_calls (low_status reply) (length reply) reply n)) ended.0
          ∙ regroup (Did I2cStartWrite 0) (Did I2cStartRead 0) (Did I2cRead (low_status reply)) (Did I2cRead (length reply)) (i2c_writes (0xDA ∷ packet) (replicate (1 + length packet) 0)) (reads_in_row I2cRead reply) (Did I2cStop 0 ∷ []);
      heard_is = heard_is ∙ ap (λ (test : Bool). heard_if test (heard_with outcome bytes)) is ∙ judged;
      leaves = ended.1;
    }

-- where some byte was not taken, as many answers as bytes were seen
pub taken-size : (taken got : ℕ) (packet : List ℕ) → taken ≤ length packet → length (replicate taken 0 ++ got ∷ []) ≡ length (take (taken + 1) (0xDA ∷ packet))
taken-size taken got packet some = omega (arith, some, length-append (replicate taken 0) (got ∷ []), length-replicate {A = ℕ} taken 0, length-take (taken + 1) (0xDA ∷ packet))

-- an undisturbed send from a controller that is on, with what its request is answered
pub i2c-transacts : (core after : Core) (state : I2cState) (packet : List ℕ) (calls : List HostCall) (heard : Heard) (new : Table) (status : ℕ) (body : List ℕ) → length packet ≤ 128 → handled core 128 packet ≡ Answered after status body → 8 + length body ≤ 128 →
    I2cSend packet calls heard → CallsLead (table_of core (OnI2c state)) calls new → Transacts after packet (response_packet status body) calls heard new
i2c-transacts core after state packet calls heard new status body short same fits (I2cWasUnstarted unstarted silent) lead =
    let led = subst (λ (xs : List HostCall). CallsLead (table_of core (OnI2c state)) xs new) unstarted.made lead in
    absurd (unstarted.refused (start-lead core state unstarted.got (Did I2cStop unstarted.stopped ∷ []) new led).0)
i2c-transacts core after state packet calls heard new status body short same fits (I2cWasUnwritten unwritten bad) lead =
    let bytes = take (unwritten.taken + 1) (0xDA ∷ packet) in
    let gots = replicate unwritten.taken 0 ++ unwritten.got ∷ [] in
    let led = subst (λ (xs : List HostCall). CallsLead (table_of core (OnI2c state)) xs new) unwritten.made lead in
    let begun = start-lead core state 0 (i2c_writes bytes gots ++ Did I2cStop unwritten.stopped ∷ []) new led in
    let size = length-take (unwritten.taken + 1) (0xDA ∷ packet) in
    let written = writes-lead core [] bytes gots (Did I2cStop unwritten.stopped ∷ []) new (omega (arith, short, size, unwritten.some)) (taken-size unwritten.taken unwritten.got packet unwritten.some) begun.1 in
    absurd (unwritten.refused (all-taken unwritten.taken unwritten.got (length bytes) written.0))
i2c-transacts core after state packet calls heard new status body short same fits (I2cWasUnread unread bad) lead =
    let rest = Did I2cStartRead unread.got ∷ Did I2cStop unread.stopped ∷ [] in
    let led = subst (λ (xs : List HostCall). CallsLead (table_of core (OnI2c state)) xs new) (behind-asked packet calls unread.first rest unread.asked unread.made) lead in
    let asked = asked-lead core state packet rest new short led in
    absurd (unread.refused (served-lead core after packet status body unread.got (Did I2cStop unread.stopped ∷ []) new same asked).0)
i2c-transacts core after state packet calls heard new status body short same fits (I2cWasServed served) lead =
    let rest = read_calls served.outcome served.size served.bytes served.stopped in
    let made = behind-asked packet calls served.first rest served.asked (served.made ∙ append_assoc served.first (Did I2cStartRead 0 ∷ Did I2cRead served.outcome ∷ Did I2cRead served.size ∷ reads_in_row I2cRead served.bytes) (Did I2cStop served.stopped ∷ [])) in
    let led = subst (λ (xs : List HostCall). CallsLead (table_of core (OnI2c state)) xs new) made lead in
    let asked = asked-lead core state packet rest new short led in
    let read = served-lead core after packet status body 0 (Did I2cRead served.outcome ∷ Did I2cRead served.size ∷ (reads_in_row I2cRead served.bytes ++ Did I2cStop served.stopped ∷ [])) new same asked in
    subst (λ (xs : List HostCall). Transacts after packet (response_packet status body) xs heard new) (sym made)
    (read-lead after packet status body served.outcome served.size served.bytes served.stopped heard new fits served.whole served.heard_is read.1)

-- a valid I2C table that is on, as its core with its bus
pub record OnBus (table : Table) (awake : Awake) : Type 0 where
  pub state : I2cState
  pub same : table ≡ table_of (core_of table awake) (OnI2c state)
  pub core : IsCoreValid (core_of table awake)

-- the bus of a table of this kind
bus-of : (table : Table) (awake : Awake) (bus : BusState) → kind_of bus ≡ I2c → table ≡ table_of (core_of table awake) bus → IsCoreValid (core_of table awake) → OnBus table awake
bus-of table awake (OnLpc state) kind same core = absurd (cc)
bus-of table awake (OnI2c state) kind same core = record { state = state; same = same; core = core }
bus-of table awake (OnSpi state) kind same core = absurd (cc)

-- a valid table has one
on-bus : (table : Table) (awake : Awake) → Valid table → table.power ≡ On awake → table.kind ≡ I2c → OnBus table awake
on-bus table awake valid on kind =
    let facts = bus-facts table awake valid on in
    bus-of table awake awake.bus (facts.kind ∙ kind) (as-table table awake on facts.kind) facts.core

-- a send, by what its request is answered
serves-by : (core : Core) (state : I2cState) (packet : List ℕ) (calls : List HostCall) (heard : Heard) (new : Table) (outcome : Outcome) → length packet ≤ 128 → handled core 128 packet ≡ outcome → IsAnswer outcome → Fits 128 outcome →
    I2cSend packet calls heard → CallsLead (table_of core (OnI2c state)) calls new → ServesPacket packet (table_of core (OnI2c state)) heard new
serves-by core state packet calls heard new Restarts short same answer fits sent lead = absurd answer
serves-by core state packet calls heard new (Answered after status body) short same answer fits sent lead =
    let transacts = i2c-transacts core after state packet calls heard new status body short same fits sent lead in
    record {
      awake = record { live = core.live; nonce = core.nonce; bus = OnI2c state };
      on = refl;
      after = after;
      status = status;
      body = body;
      handled_is = same;
      heard_is = transacts.heard_is;
      leaves = record { bus = OnI2c (Idle []); same = transacts.leaves; none_waits = refl };
      kind = ap (λ (t : Table). t.kind) transacts.leaves;
    }

-- an undisturbed send is served
pub i2c-calm : (table : Table) (awake : Awake) (packet : List ℕ) (calls : List HostCall) (heard : Heard) (new : Table) → Valid table → table.power ≡ On awake → table.kind ≡ I2c → IsPlain packet → length packet ≤ 128 →
    I2cSend packet calls heard → CallsLead table calls new → ServesPacket packet (settled table) heard new
i2c-calm table awake packet calls heard new valid on kind plain short sent lead =
    let bus = on-bus table awake valid on kind in
    let core = core_of table awake in
    subst (λ (t : Table). ServesPacket packet (settled t) heard new) (sym bus.same)
    (serves-by core bus.state packet calls heard new (handled core 128 packet) short refl (plain-answered packet core 128 plain) (handled-fits core 128 packet (omega arith) bus.core) sent (subst (λ (t : Table). CallsLead t calls new) bus.same lead))

-- a stop leaves the core
stop-settles : (core : Core) (state : I2cState) (got : ℕ) (new : Table) → CallsLead (table_of core (OnI2c state)) (Did I2cStop got ∷ []) new → Settles (table_of core (OnI2c state)) new
stop-settles core state got new lead =
    let ended = stop-lead core state got new lead in
    record {
      awake = record { live = core.live; nonce = core.nonce; bus = OnI2c state };
      on = refl;
      leaves = record { bus = OnI2c (i2c_stopped state); same = ended.1; none_waits = refl };
      kind = ap (λ (t : Table). t.kind) ended.1;
    }

-- an undisturbed stop leaves the table, its bus aside
pub i2c-quiet : (table : Table) (awake : Awake) (calls : List HostCall) (new : Table) → Valid table → table.power ≡ On awake → table.kind ≡ I2c → OneAccess I2cStop calls → CallsLead table calls new → Settles (settled table) new
i2c-quiet table awake calls new valid on kind quiet lead =
    let bus = on-bus table awake valid on kind in
    let led = subst (λ (xs : List HostCall). CallsLead table xs new) quiet.made lead in
    subst (λ (t : Table). Settles (settled t) new) (sym bus.same)
    (stop-settles (core_of table awake) bus.state quiet.got new (subst (λ (t : Table). CallsLead t (Did I2cStop quiet.got ∷ []) new) bus.same led))

-- a send that is answered is one transaction
pub i2c-exchange : (table : Table) (awake : Awake) (packet : List ℕ) (calls : List HostCall) (heard : Heard) (new : Table) (after : Core) (result : ℕ) (body : List ℕ) → Valid table → table.power ≡ On awake → table.kind ≡ I2c → length packet ≤ 128 →
    I2cSend packet calls heard → CallsLead table calls new → handled (core_of table awake) 128 packet ≡ Answered after result body → Transacts after packet (response_packet result body) calls heard new
i2c-exchange table awake packet calls heard new after result body valid on kind short sent lead same =
    let bus = on-bus table awake valid on kind in
    let core = core_of table awake in
    let fits : 8 + length body ≤ 128 = subst (λ (outcome : Outcome). Fits 128 outcome) same (handled-fits core 128 packet (omega arith) bus.core) in
    i2c-transacts core after bus.state packet calls heard new result body short same fits sent (subst (λ (t : Table). CallsLead t calls new) bus.same lead)

-- the same, call by call
pub i2c-calls : (table : Table) (awake : Awake) (packet : List ℕ) (calls : List HostCall) (heard : Heard) (new : Table) (after : Core) (result : ℕ) (body : List ℕ) → Valid table → table.power ≡ On awake → table.kind ≡ I2c → length packet ≤ 128 →
    I2cSend packet calls heard → CallsLead table calls new → handled (core_of table awake) 128 packet ≡ Answered after result body → calls ≡ i2c_transaction packet (response_packet result body)
i2c-calls table awake packet calls heard new after result body valid on kind short sent lead same =
    (i2c-exchange table awake packet calls heard new after result body valid on kind short sent lead same).calls_are

-- a table on I2C is settled: no request waits on it
pub i2c-settled : (table : Table) (awake : Awake) → Valid table → table.power ≡ On awake → table.kind ≡ I2c → settled table ≡ table
i2c-settled table awake valid on kind =
    let bus = on-bus table awake valid on kind in
    subst (λ (t : Table). settled t ≡ t) (sym bus.same) refl
