-- An undisturbed send on SPI: the request is handled, and its response is heard.
use Rattle.std.proofs.Common.{◌≡◌, refl, sym, ap, ◌∙◌, subst, ℕ, ◌+◌, ◌-◌, ◌≤◌, true, false, ◌&&◌, ◌==◌, List, [], ◌∷◌, ◌++◌, length, take, slice_index, replicate, append_assoc, arith}
use Rattle.std.proofs.lemmas.List.{take_at}
use Rattle.ec_types.specs.declared.bus.BusKind.TheVariants.{Spi}
use Rattle.ec_model.specs.declared.event.Access.TheVariants.{SpiSelect, SpiByte, SpiDeselect}
use Rattle.ec_model.specs.Packet.{response_packet, response_length}
use Rattle.ec_model.specs.Bus.{BusState, SpiState, OnLpc, OnI2c, OnSpi, Deselected, kind_of}
use Rattle.ec_model.specs.HostCalls.{HostCall, Did}
use Rattle.ec_model.specs.Heard.{Heard, Reply, last_byte, spi_writes, spaced_reads, reads_in_row, is_all_read, reads_on, heard_if, heard_packet}
use Rattle.ec_model.specs.SendSpi.{spi_reads_on, SpiServed, SpiSend, SpiWasUnserved, SpiWasServed}
use Rattle.ec_model.specs.Send.{OneAccess}
use Rattle.ec_model.specs.Table.{Table, Awake, On, Core, Valid, core_of, table_of}
use Rattle.ec_model.specs.Answer.{Outcome, Answered, Restarts}
use Rattle.ec_model.specs.Handle.{handled}
use Rattle.ec_model.specs.Syncable.{waits_on_lpc, settled}
use Rattle.ec_model.proofs.ValidRows.{IsCoreValid}
use Rattle.exchange_laws.specs.Calm.{CallsLead}
use Rattle.exchange_laws.specs.Served.{IsPlain, IsAnswer, ServesPacket, Settles}
use Rattle.exchange_laws.specs.Transaction.{spi_transaction}
use Rattle.exchange_laws.proofs.Plain.{plain-answered}
use Rattle.exchange_laws.proofs.Response.{length-response, response-named, named-take, named-front, many_of, whole_of}
use Rattle.exchange_laws.proofs.Settled.{as-table, bus-facts}
use Rattle.exchange_laws.proofs.FitRows.{Fits, handled-fits}
use Rattle.exchange_laws.proofs.SpiLead.{request-lead, poll-lead, reads-lead}
use Rattle.exchange_laws.proofs.SpiMakes.{regroup, within, response-heard}

-- the front of a response begins with its version
first-of : (bytes others : List ℕ) → 8 ≤ length bytes → bytes ≡ take (length bytes) (3 ∷ others) → slice_index bytes 0 ≡ 3
first-of [] others many front = absurd (omega (arith, many))
first-of (byte ∷ bytes) others many front = ap (λ (xs : List ℕ). slice_index xs 0) front

-- bytes from the front of a response, as many as its header names, are the response
read-whole : (result : ℕ) (body rest bytes : List ℕ) → length body ≤ 536 → bytes ≡ take (length bytes) (response_packet result body ++ rest) → is_all_read (spi_reads_on bytes) bytes ≡ true → bytes ≡ response_packet result body
read-whole result body rest bytes short front all =
    let many = many_of (spi_reads_on bytes) bytes all in
    let named : response_length bytes ≡ length body = ap (λ (xs : List ℕ). response_length xs) front ∙ named-take (length bytes) (response_packet result body ++ rest) many ∙ named-front result body rest ∙ response-named result body (omega (arith, short)) in
    let first = first-of bytes _ many front in
    let long : reads_on 536 bytes ≡ true = within (response_length bytes) (subst (λ (n : ℕ). n ≤ 536) (sym named) short) in
    let on : spi_reads_on bytes ≡ true = ap (λ (n : ℕ). (n == 3) && reads_on 536 bytes) first ∙ long in
    let size : length bytes ≡ length (response_packet result body) = whole_of (spi_reads_on bytes) bytes on all ∙ ap (λ (n : ℕ). 8 + n) named ∙ sym (length-response result body) in
    front ∙ take_at (response_packet result body) rest (length bytes) (sym size)

-- the calls are the exchange of a request for this response, which was heard; the core is left, and nothing is selected
pub record SpiExchanges (request response : List ℕ) (core : Core) (calls : List HostCall) (heard : Heard) (new : Table) : Type 0 where
  pub calls_are : calls ≡ spi_transaction request response
  pub heard_is : heard ≡ Reply response
  pub leaves : new ≡ table_of core (OnSpi Deselected)

-- the calls of an exchange, once each byte that they got is known
exchange-is : (packet response gots answers bytes : List ℕ) (selected stopped : ℕ) → selected ≡ 0 → gots ≡ 0xF8 ∷ replicate (length packet - 1) 0xF9 → answers ≡ 0xFA ∷ 0xEC ∷ [] → bytes ≡ response → stopped ≡ 0 →
    Did SpiSelect selected ∷ spi_writes packet gots ++ spaced_reads (SpiByte 0) answers ++ reads_in_row (SpiByte 0) bytes ++ Did SpiDeselect stopped ∷ [] ≡ spi_transaction packet response
exchange-is packet response gots answers bytes selected stopped selected_is gots_are answers_are bytes_are stopped_is = rw (selected_is, gots_are, answers_are, bytes_are, stopped_is) refl

-- a send whose reply was read is one exchange
served-exchange : (core after : Core) (state : SpiState) (packet : List ℕ) (result : ℕ) (body : List ℕ) (calls : List HostCall) (heard : Heard) (new : Table) → IsPlain packet → length packet ≤ 544 → length body ≤ 536 → handled core 544 packet ≡ Answered after result body →
    SpiServed packet calls heard → CallsLead (table_of core (OnSpi state)) calls new → SpiExchanges packet (response_packet result body) after calls heard new
served-exchange core after state packet result body calls heard new plain short fits same served lead =
    let asks = served.asked in
    let reply = response_packet result body in
    let first = Did SpiSelect asks.selected ∷ spi_writes packet asks.gots in
    let poll = spaced_reads (SpiByte 0) served.answers in
    let reads = reads_in_row (SpiByte 0) served.bytes in
    let stop = Did SpiDeselect served.stopped ∷ [] in
    let placed : calls ≡ first ++ poll ++ reads ++ stop = served.made ∙ ap (λ (xs : List HostCall). xs ++ poll ++ reads ++ stop) asks.made in
    let led : CallsLead (table_of core (OnSpi state)) (first ++ (poll ++ (reads ++ stop))) new = subst (λ (xs : List HostCall). CallsLead (table_of core (OnSpi state)) xs new) (placed ∙ sym (regroup first poll reads stop)) lead in
    let written = request-lead core packet asks.gots (poll ++ (reads ++ stop)) new plain.header plain.whole short asks.each led.1 in
    let polled = poll-lead core after packet result body served.answers true (reads ++ stop) new same served.polled written.1 in
    let read = reads-lead after reply served.bytes stop new polled.1 in
    let whole = read-whole result body read.rest served.bytes fits read.front served.whole in
    record {
      calls_are = placed ∙ exchange-is packet reply asks.gots served.answers served.bytes asks.selected served.stopped led.0 written.0 polled.0 whole read.lead.0;
      heard_is = served.heard_is ∙ ap (λ (xs : List ℕ). heard_if (spi_reads_on xs) (heard_packet xs)) whole ∙ sym (response-heard result body fits);
      leaves = read.lead.1;
    }

-- an undisturbed send is one exchange
exchange-by : (core after : Core) (state : SpiState) (packet : List ℕ) (result : ℕ) (body : List ℕ) (calls : List HostCall) (heard : Heard) (new : Table) → IsPlain packet → length packet ≤ 544 → length body ≤ 536 → handled core 544 packet ≡ Answered after result body →
    SpiSend packet calls heard → CallsLead (table_of core (OnSpi state)) calls new → SpiExchanges packet (response_packet result body) after calls heard new
exchange-by core after state packet result body calls heard new plain short fits same (SpiWasServed served) lead = served-exchange core after state packet result body calls heard new plain short fits same served lead
exchange-by core after state packet result body calls heard new plain short fits same (SpiWasUnserved unserved) lead =
    let asks = unserved.asked in
    let first = Did SpiSelect asks.selected ∷ spi_writes packet asks.gots in
    let poll = spaced_reads (SpiByte 0) unserved.answers in
    let stop = Did SpiDeselect unserved.stopped ∷ [] in
    let placed : calls ≡ first ++ (poll ++ stop) = unserved.made ∙ ap (λ (xs : List HostCall). xs ++ poll ++ stop) asks.made ∙ append_assoc first poll stop in
    let led : CallsLead (table_of core (OnSpi state)) (first ++ (poll ++ stop)) new = subst (λ (xs : List HostCall). CallsLead (table_of core (OnSpi state)) xs new) placed lead in
    let written = request-lead core packet asks.gots (poll ++ stop) new plain.header plain.whole short asks.each led.1 in
    let polled = poll-lead core after packet result body unserved.answers unserved.ready stop new same unserved.polled written.1 in
    absurd (unserved.no_reply (ap (λ (xs : List ℕ). last_byte xs) polled.0))

-- what a plain packet is answered
record IsAnswered (core : Core) (packet : List ℕ) : Type 0 where
  pub after : Core
  pub status : ℕ
  pub body : List ℕ
  pub handled_is : handled core 544 packet ≡ Answered after status body
  pub fits : length body ≤ 536

-- by its outcome
answered-by : (core : Core) (packet : List ℕ) (outcome : Outcome) → handled core 544 packet ≡ outcome → IsAnswer outcome → Fits 544 outcome → IsAnswered core packet
answered-by core packet Restarts same answer fits = absurd answer
answered-by core packet (Answered after status body) same answer fits = record { after = after; status = status; body = body; handled_is = same; fits = omega (arith, fits) }

-- a plain packet is answered
answered : (core : Core) (packet : List ℕ) → IsCoreValid core → IsPlain packet → IsAnswered core packet
answered core packet valid plain = answered-by core packet (handled core 544 packet) refl (plain-answered packet core 544 plain) (handled-fits core 544 packet (omega arith) valid)

-- an undisturbed send is served, whatever SPI was doing
serves-by : (core : Core) (bus : BusState) (packet : List ℕ) (calls : List HostCall) (heard : Heard) (new : Table) → kind_of bus ≡ Spi → IsCoreValid core → IsPlain packet → length packet ≤ 544 → SpiSend packet calls heard → CallsLead (table_of core bus) calls new → ServesPacket packet (table_of core bus) heard new
serves-by core (OnLpc state) packet calls heard new kind valid plain short sent lead = absurd (cc)
serves-by core (OnI2c state) packet calls heard new kind valid plain short sent lead = absurd (cc)
serves-by core (OnSpi state) packet calls heard new kind valid plain short sent lead =
    let answer = answered core packet valid plain in
    let exchange = exchange-by core answer.after state packet answer.status answer.body calls heard new plain short answer.fits answer.handled_is sent lead in
    record {
      awake = record { live = core.live; nonce = core.nonce; bus = OnSpi state };
      on = refl;
      after = answer.after;
      status = answer.status;
      body = answer.body;
      handled_is = answer.handled_is;
      heard_is = exchange.heard_is;
      leaves = record { bus = OnSpi Deselected; same = exchange.leaves; none_waits = refl };
      kind = ap (λ (t : Table). t.kind) exchange.leaves;
    }

-- no request waits on LPC where the bus is SPI
not-lpc : (bus : BusState) → kind_of bus ≡ Spi → waits_on_lpc bus ≡ false
not-lpc (OnLpc state) kind = absurd (cc)
not-lpc (OnI2c state) kind = absurd (cc)
not-lpc (OnSpi state) kind = refl

-- a table on SPI is settled: a request that is due is dropped, and not served
pub spi-settled : (table : Table) (awake : Awake) → table.power ≡ On awake → kind_of awake.bus ≡ Spi → settled table ≡ table
spi-settled table awake on kind = let none = not-lpc awake.bus kind in rw (on, none) refl

-- an undisturbed send is served on the table itself, which is settled
pub spi-calm : (table : Table) (awake : Awake) (packet : List ℕ) (calls : List HostCall) (heard : Heard) (new : Table) → Valid table → table.power ≡ On awake → table.kind ≡ Spi → IsPlain packet → length packet ≤ 544 →
    SpiSend packet calls heard → CallsLead table calls new → ServesPacket packet (settled table) heard new
spi-calm table awake packet calls heard new valid on kind plain short sent lead =
    let facts = bus-facts table awake valid on in
    let same = as-table table awake on facts.kind in
    let led = subst (λ (t : Table). CallsLead t calls new) same lead in
    let serves = serves-by (core_of table awake) awake.bus packet calls heard new (facts.kind ∙ kind) facts.core plain short sent led in
    subst (λ (t : Table). ServesPacket packet t heard new) (sym (spi-settled table awake on (facts.kind ∙ kind) ∙ same)) serves

-- an undisturbed send is one exchange, by its bus
exchange-on : (core after : Core) (bus : BusState) (packet : List ℕ) (result : ℕ) (body : List ℕ) (calls : List HostCall) (heard : Heard) (new : Table) → kind_of bus ≡ Spi → IsPlain packet → length packet ≤ 544 → length body ≤ 536 → handled core 544 packet ≡ Answered after result body →
    SpiSend packet calls heard → CallsLead (table_of core bus) calls new → SpiExchanges packet (response_packet result body) after calls heard new
exchange-on core after (OnLpc state) packet result body calls heard new kind plain short fits same sent lead = absurd (cc)
exchange-on core after (OnI2c state) packet result body calls heard new kind plain short fits same sent lead = absurd (cc)
exchange-on core after (OnSpi state) packet result body calls heard new kind plain short fits same sent lead = exchange-by core after state packet result body calls heard new plain short fits same sent lead

-- an undisturbed send from a valid table is one exchange
pub spi-exchanges : (table : Table) (awake : Awake) (packet : List ℕ) (calls : List HostCall) (heard : Heard) (new : Table) (after : Core) (result : ℕ) (body : List ℕ) → Valid table → table.power ≡ On awake → table.kind ≡ Spi → IsPlain packet → length packet ≤ 544 →
    SpiSend packet calls heard → CallsLead table calls new → handled (core_of table awake) 544 packet ≡ Answered after result body → SpiExchanges packet (response_packet result body) after calls heard new
spi-exchanges table awake packet calls heard new after result body valid on kind plain short sent lead same =
    let facts = bus-facts table awake valid on in
    let core = core_of table awake in
    let room : 8 + length body ≤ 544 = subst (λ (outcome : Outcome). Fits 544 outcome) same (handled-fits core 544 packet (omega arith) facts.core) in
    let fits : length body ≤ 536 = omega (arith, room) in
    let led = subst (λ (t : Table). CallsLead t calls new) (as-table table awake on facts.kind) lead in
    exchange-on core after awake.bus packet result body calls heard new (facts.kind ∙ kind) plain short fits same sent led

-- each call of an undisturbed send
pub spi-exchange : (table : Table) (awake : Awake) (packet : List ℕ) (calls : List HostCall) (heard : Heard) (new : Table) (after : Core) (result : ℕ) (body : List ℕ) → Valid table → table.power ≡ On awake → table.kind ≡ Spi → IsPlain packet → length packet ≤ 544 →
    SpiSend packet calls heard → CallsLead table calls new → handled (core_of table awake) 544 packet ≡ Answered after result body → calls ≡ spi_transaction packet (response_packet result body)
spi-exchange table awake packet calls heard new after result body valid on kind plain short sent lead same =
    (spi-exchanges table awake packet calls heard new after result body valid on kind plain short sent lead same).calls_are

-- a deselect leaves the table, and no request waits
quiet-by : (core : Core) (bus : BusState) (calls : List HostCall) (new : Table) → kind_of bus ≡ Spi → OneAccess SpiDeselect calls → CallsLead (table_of core bus) calls new → Settles (table_of core bus) new
quiet-by core (OnLpc state) calls new kind quiet lead = absurd (cc)
quiet-by core (OnI2c state) calls new kind quiet lead = absurd (cc)
quiet-by core (OnSpi state) calls new kind quiet lead =
    let led : CallsLead (table_of core (OnSpi state)) (Did SpiDeselect quiet.got ∷ []) new = subst (λ (xs : List HostCall). CallsLead (table_of core (OnSpi state)) xs new) quiet.made lead in
    record {
      awake = record { live = core.live; nonce = core.nonce; bus = OnSpi state };
      on = refl;
      leaves = record { bus = OnSpi Deselected; same = led.1; none_waits = refl };
      kind = ap (λ (t : Table). t.kind) led.1;
    }

-- the same from a valid table
pub spi-quiet : (table : Table) (awake : Awake) (calls : List HostCall) (new : Table) → Valid table → table.power ≡ On awake → table.kind ≡ Spi → OneAccess SpiDeselect calls → CallsLead table calls new → Settles (settled table) new
spi-quiet table awake calls new valid on kind quiet lead =
    let facts = bus-facts table awake valid on in
    let same = as-table table awake on facts.kind in
    let led = subst (λ (t : Table). CallsLead t calls new) same lead in
    subst (λ (t : Table). Settles t new) (sym (spi-settled table awake on (facts.kind ∙ kind) ∙ same)) (quiet-by (core_of table awake) awake.bus calls new (facts.kind ∙ kind) quiet led)
