-- Undisturbed calls on SPI.
use Rattle.std.proofs.Common.{◌≡◌, refl, sym, ap, ◌∙◌, subst, ℕ, ◌+◌, ◌-◌, ◌≤◌, Bool, true, false, nat_lt, List, [], ◌∷◌, ◌++◌, length, take, replicate, append_assoc, length-append, arith, Some}
use Rattle.ec_types.specs.LittleEndian.{u16_at}
use Rattle.ec_model.specs.declared.event.Access.TheVariants.{SpiByte}
use Rattle.ec_model.specs.Packet.{response_packet, request_length}
use Rattle.ec_model.specs.Bus.{SpiState, OnSpi, Receiving, Waiting, Replied}
use Rattle.ec_model.specs.HostCalls.{HostCall, Did, Waited}
use Rattle.ec_model.specs.Heard.{poll_end, waited_reads, spaced_reads, reads_in_row, spi_writes}
use Rattle.ec_model.specs.SendSpi.{is_spi_waiting}
use Rattle.ec_model.specs.Table.{Table, Core, table_of}
use Rattle.ec_model.specs.Answer.{Outcome, Answered}
use Rattle.ec_model.specs.Handle.{handled}
use Rattle.ec_model.specs.WholeStep.{after_outcome}
use Rattle.exchange_laws.specs.Calm.{CallsLead}
use Rattle.exchange_laws.proofs.SpiMakes.{received-whole, received-by, behind-first}

-- the bytes of a request behind its first one: each got 0xF9, and then the request waits
writes-lead : (core : Core) (front bytes gots : List ℕ) (calls : List HostCall) (new : Table) → 1 ≤ length front → 1 ≤ length bytes → length (front ++ bytes) ≡ 8 + u16_at 6 (front ++ bytes) → u16_at 6 (front ++ bytes) ≤ 536 → length gots ≡ length bytes →
    CallsLead (table_of core (OnSpi (Receiving front))) (spi_writes bytes gots ++ calls) new → (gots ≡ replicate (length bytes) 0xF9) × CallsLead (table_of core (OnSpi (Waiting (front ++ bytes)))) calls new
writes-lead core front [] gots calls new begun some whole short each lead = absurd (omega (arith, some))
writes-lead core front (byte ∷ bytes) [] calls new begun some whole short each lead = absurd (omega (arith, each))
writes-lead core front (byte ∷ []) (got ∷ other ∷ gots) calls new begun some whole short each lead = absurd (omega (arith, each))
writes-lead core front (byte ∷ []) (got ∷ []) calls new begun some whole short each lead = (
  ap (λ (first : ℕ). first ∷ []) (lead.0 ∙ behind-first (length front) begun),
  subst (λ (state : SpiState). CallsLead (table_of core (OnSpi state)) calls new) (received-whole (front ++ byte ∷ []) whole short) lead.1,
)
writes-lead core front (byte ∷ next ∷ bytes) (got ∷ gots) calls new begun some whole short each lead =
    let joined = sym (append_assoc front (byte ∷ []) (next ∷ bytes)) in
    let later_whole = subst (λ (xs : List ℕ). length xs ≡ 8 + u16_at 6 xs) joined whole in
    let later_short = subst (λ (xs : List ℕ). u16_at 6 xs ≤ 536) joined short in
    let received = received-by (nat_lt (length (front ++ byte ∷ [])) 8) (front ++ byte ∷ []) (next ∷ bytes) refl (omega arith) later_whole later_short in
    let moved = subst (λ (state : SpiState). CallsLead (table_of core (OnSpi state)) (spi_writes (next ∷ bytes) gots ++ calls) new) received lead.1 in
    let more = writes-lead core (front ++ byte ∷ []) (next ∷ bytes) gots calls new (omega (arith, length-append front (byte ∷ []))) (omega arith) later_whole later_short (omega (arith, each)) moved in (
      ap (λ (first : ℕ). first ∷ gots) (lead.0 ∙ behind-first (length front) begun) ∙ ap (λ (others : List ℕ). 0xF9 ∷ others) more.0,
      subst (λ (xs : List ℕ). CallsLead (table_of core (OnSpi (Waiting xs))) calls new) (sym joined) more.1,
    )

-- a whole request is written: what each byte of it got, and then it waits
pub request-lead : (core : Core) (packet gots : List ℕ) (calls : List HostCall) (new : Table) → 8 ≤ length packet → length packet ≡ 8 + request_length packet → length packet ≤ 544 → length gots ≡ length packet → CallsLead (table_of core (OnSpi (Receiving []))) (spi_writes packet gots ++ calls) new →
    (gots ≡ 0xF8 ∷ replicate (length packet - 1) 0xF9) × CallsLead (table_of core (OnSpi (Waiting packet))) calls new
request-lead core [] gots calls new header whole short each lead = absurd (omega (arith, header))
request-lead core (byte ∷ bytes) [] calls new header whole short each lead = absurd (omega (arith, each))
request-lead core (byte ∷ bytes) (got ∷ gots) calls new header whole short each lead =
    let some : 1 ≤ length bytes = omega (arith, header) in
    let fits : u16_at 6 (byte ∷ bytes) ≤ 536 = omega (arith, whole, short) in
    let rest = writes-lead core (byte ∷ []) bytes gots calls new (omega arith) some whole fits (omega (arith, each)) lead.1 in
    let size : length bytes ≡ length (byte ∷ bytes) - 1 = omega arith in
    (ap (λ (first : ℕ). first ∷ gots) lead.0 ∙ ap (λ (others : List ℕ). 0xF8 ∷ others) (rest.0 ∙ ap (λ (n : ℕ). replicate n 0xF9) size), rest.1)

-- the wait has the request served
tick-lead : (core after : Core) (request : List ℕ) (result : ℕ) (body : List ℕ) (calls : List HostCall) (new : Table) → handled core 544 request ≡ Answered after result body →
    CallsLead (table_of core (OnSpi (Waiting request))) (Waited ∷ calls) new → CallsLead (table_of after (OnSpi (Replied (0xEC ∷ response_packet result body)))) calls new
tick-lead core after request result body calls new same lead =
    subst (λ (r : Outcome). CallsLead (after_outcome core (record { state = OnSpi (Waiting request); answer = 0 }) 0 r).table calls new) same lead

-- a poll ends with the byte that begins the reply
ended-lead : (after : Core) (reply : List ℕ) (byte : ℕ) (bytes : List ℕ) (ready : Bool) (calls : List HostCall) (new : Table) → poll_end is_spi_waiting 4 (byte ∷ bytes) ≡ Some ready →
    CallsLead (table_of after (OnSpi (Replied (0xEC ∷ reply)))) (Did (SpiByte 0) byte ∷ (waited_reads (SpiByte 0) bytes ++ calls)) new → (byte ∷ bytes ≡ 0xEC ∷ []) × CallsLead (table_of after (OnSpi (Replied reply))) calls new
ended-lead after reply byte [] ready calls new polled lead = (ap (λ (n : ℕ). n ∷ []) lead.0, lead.1)
ended-lead after reply byte (next ∷ bytes) ready calls new polled lead =
    let seen : is_spi_waiting byte ≡ false = ap (λ (n : ℕ). is_spi_waiting n) lead.0 in
    let ended = rw seen at polled in
    absurd (cc)

-- the poll behind a request sees that it waits, and then that it was served
pub poll-lead : (core after : Core) (request : List ℕ) (result : ℕ) (body answers : List ℕ) (ready : Bool) (calls : List HostCall) (new : Table) → handled core 544 request ≡ Answered after result body → poll_end is_spi_waiting 5 answers ≡ Some ready →
    CallsLead (table_of core (OnSpi (Waiting request))) (spaced_reads (SpiByte 0) answers ++ calls) new → (answers ≡ 0xFA ∷ 0xEC ∷ []) × CallsLead (table_of after (OnSpi (Replied (response_packet result body)))) calls new
poll-lead core after request result body [] ready calls new same polled lead = absurd (cc)
poll-lead core after request result body (byte ∷ []) ready calls new same polled lead =
    let seen : is_spi_waiting byte ≡ true = ap (λ (n : ℕ). is_spi_waiting n) lead.0 in
    let ended = rw seen at polled in
    absurd (cc)
poll-lead core after request result body (byte ∷ next ∷ bytes) ready calls new same polled lead =
    let seen : is_spi_waiting byte ≡ true = ap (λ (n : ℕ). is_spi_waiting n) lead.0 in
    let ended = rw seen at polled in
    let served = tick-lead core after request result body (Did (SpiByte 0) next ∷ (waited_reads (SpiByte 0) bytes ++ calls)) new same lead.1 in
    let rest = ended-lead after (response_packet result body) next bytes ready calls new ended served in
    (ap (λ (first : ℕ). first ∷ next ∷ bytes) lead.0 ∙ ap (λ (others : List ℕ). 0xFA ∷ others) rest.0, rest.1)

-- bytes were read from what was left of a reply, and then from what follows it
pub record IsRead (core : Core) (left bytes : List ℕ) (calls : List HostCall) (new : Table) : Type 0 where
  pub rest : List ℕ
  pub behind : List ℕ
  pub front : bytes ≡ take (length bytes) (left ++ rest)
  pub lead : CallsLead (table_of core (OnSpi (Replied behind))) calls new

-- bytes that are read are the front of what is left
pub reads-lead : (core : Core) (left bytes : List ℕ) (calls : List HostCall) (new : Table) → CallsLead (table_of core (OnSpi (Replied left))) (reads_in_row (SpiByte 0) bytes ++ calls) new → IsRead core left bytes calls new
reads-lead core left [] calls new lead = record { rest = []; behind = left; front = refl; lead = lead }
reads-lead core [] (byte ∷ bytes) calls new lead =
    let more = reads-lead core [] bytes calls new lead.1 in
    record { rest = byte ∷ more.rest; behind = more.behind; front = ap (λ (xs : List ℕ). byte ∷ xs) more.front; lead = more.lead }
reads-lead core (next ∷ left) (byte ∷ bytes) calls new lead =
    let more = reads-lead core left bytes calls new lead.1 in
    record { rest = more.rest; behind = more.behind; front = ap (λ (first : ℕ). first ∷ bytes) lead.0 ∙ ap (λ (xs : List ℕ). next ∷ xs) more.front; lead = more.lead }
