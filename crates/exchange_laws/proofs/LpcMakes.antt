-- An exchange that an undisturbed controller makes on LPC, from a bus that is not busy.
use Rattle.std.proofs.Common.{◌≡◌, refl, sym, ap, ◌∙◌, subst, ℕ, suc, ◌+◌, ◌≤◌, false, List, [], ◌∷◌, ◌++◌, length, take, drop, get_or, set, replicate, append-nil, arith}
use Rattle.std.proofs.lemmas.List.{length-set, take_at, drop_more}
use Rattle.flash_dev.specs.Flash.{overwritten}
use Rattle.ec_model.specs.declared.event.Access.TheVariants.{PortOut, PortIn}
use Rattle.ec_model.specs.Packet.{response_packet}
use Rattle.ec_model.specs.Bus.{OnLpc, LpcState, is_busy, lpc_out, low_status}
use Rattle.ec_model.specs.HostCalls.{HostCall, Did, Waited}
use Rattle.ec_model.specs.Heard.{port_reads, port_writes}
use Rattle.ec_model.specs.SendLpc.{status_in}
use Rattle.ec_model.specs.Table.{Table, Core, table_of}
use Rattle.ec_model.specs.Answer.{Outcome, Answered}
use Rattle.ec_model.specs.Handle.{handled}
use Rattle.ec_model.specs.WholeStep.{after_outcome}
use Rattle.exchange_laws.specs.Calm.{CallsLead}
use Rattle.exchange_laws.specs.Served.{IsPlain}
use Rattle.exchange_laws.specs.Exchange.{lpc_exchange_calls}
use Rattle.exchange_laws.proofs.Lists.{overwritten-nil, overwritten-cons}
use Rattle.exchange_laws.proofs.Response.{length-response}
use Rattle.exchange_laws.proofs.LpcLead.{lpc, in_at, after_in_at, out_at}
use Rattle.exchange_laws.proofs.LpcSend.{overwritten-size, handled-window}

-- bytes that are written get 0 each
writes-go : (core : Core) (window : List ℕ) (status outcome port place : ℕ) (bytes : List ℕ) (calls : List HostCall) (new : Table) → port ≡ 0x800 + place → place + length bytes ≤ 256 → length window ≡ 256 → is_busy status ≡ false →
    CallsLead (table_of core (lpc (overwritten place bytes window) status outcome)) calls new → CallsLead (table_of core (lpc window status outcome)) (port_writes port bytes (replicate (length bytes) 0) ++ calls) new
writes-go core window status outcome port place [] calls new same short size idle lead =
    subst (λ (xs : List ℕ). CallsLead (table_of core (lpc xs status outcome)) calls new) (overwritten-nil place window) lead
writes-go core window status outcome port place (byte ∷ bytes) calls new same short size idle lead =
    let moved = subst (λ (xs : List ℕ). CallsLead (table_of core (lpc xs status outcome)) calls new) (sym (overwritten-cons place byte bytes window (omega arith))) lead in
    let rest = writes-go core (set window place byte) status outcome (port + 1) (place + 1) bytes calls new (omega arith) (omega arith) (length-set window place byte ∙ size) idle moved in (
      refl,
      subst (λ (s : LpcState). CallsLead (table_of core (OnLpc s)) (port_writes (port + 1) bytes (replicate (length bytes) 0) ++ calls) new) (sym (out_at (record { window = window; status = status; outcome = outcome }) port place byte same (omega arith) idle)) rest,
    )

-- the window's bytes are read
reads-go : (core : Core) (state : LpcState) (port place : ℕ) (bytes : List ℕ) (calls : List HostCall) (new : Table) → port ≡ 0x800 + place → place + length bytes ≤ 256 → length state.window ≡ 256 → bytes ≡ take (length bytes) (drop place state.window) →
    CallsLead (table_of core (OnLpc state)) calls new → CallsLead (table_of core (OnLpc state)) (port_reads port bytes ++ calls) new
reads-go core state port place [] calls new same short size shown lead = lead
reads-go core state port place (byte ∷ bytes) calls new same short size shown lead =
    let next = shown ∙ ap (λ (xs : List ℕ). take (suc (length bytes)) xs) (drop_more state.window place 0 (omega arith)) in
    let first : byte ≡ get_or state.window place 0 = ap (λ (xs : List ℕ). get_or xs 0 0) next in
    let others : bytes ≡ take (length bytes) (drop (place + 1) state.window) = ap (λ (xs : List ℕ). drop 1 xs) next in
    let rest = reads-go core state (port + 1) (place + 1) bytes calls new (omega arith) (omega arith) size others lead in (
      first ∙ sym (in_at state port place same (omega arith)),
      subst (λ (s : LpcState). CallsLead (table_of core (OnLpc s)) (port_reads (port + 1) bytes ++ calls) new) (sym (after_in_at state port place same)) rest,
    )

-- the command byte gets 0
command-go : (core : Core) (window : List ℕ) (status outcome : ℕ) (calls : List HostCall) (new : Table) → is_busy status ≡ false → CallsLead (table_of core (lpc window 0x06 0xFF)) calls new →
    CallsLead (table_of core (lpc window status outcome)) (Did (PortOut 0x204 0xDA) 0 ∷ calls) new
command-go core window status outcome calls new idle lead =
    let out : lpc_out (record { window = window; status = status; outcome = outcome }) 0x204 0xDA ≡ record { window = window; status = 0x06; outcome = 0xFF } = rw idle refl in
    (refl, subst (λ (s : LpcState). CallsLead (table_of core (OnLpc s)) calls new) (sym out) lead)

-- the wait has the request served
tick-go : (core after : Core) (window : List ℕ) (outcome result : ℕ) (body : List ℕ) (calls : List HostCall) (new : Table) → handled core 256 window ≡ Answered after result body →
    CallsLead (table_of after (lpc (overwritten 0 (response_packet result body) window) 0x01 (low_status (response_packet result body)))) calls new → CallsLead (table_of core (lpc window 0x06 outcome)) (Waited ∷ calls) new
tick-go core after window outcome result body calls new same lead =
    subst (λ (r : Outcome). CallsLead (after_outcome core (record { state = lpc window 0x06 outcome; answer = 0 }) 0 r).table calls new) (sym same) lead

-- the window behind an exchange
abbrev pub left_window : (window packet response : List ℕ) → List ℕ
left_window window packet response = overwritten 0 response (overwritten 0 packet window)

-- the calls of a whole exchange
pub exchange-goes : (core after : Core) (window : List ℕ) (status outcome : ℕ) (packet : List ℕ) (result : ℕ) (body : List ℕ) → length window ≡ 256 → is_busy status ≡ false → IsPlain packet → length packet ≤ 256 → handled core 256 packet ≡ Answered after result body → length body ≤ 248 →
    CallsLead (table_of core (lpc window status outcome)) (lpc_exchange_calls (status ∷ []) packet (response_packet result body)) (table_of after (lpc (left_window window packet (response_packet result body)) 0 (low_status (response_packet result body))))
exchange-goes core after window status outcome packet result body size idle plain short same fits =
    let reply = response_packet result body in
    let asked_window = overwritten 0 packet window in
    let left = left_window window packet reply in
    let new = table_of after (lpc left 0 (low_status reply)) in
    let asked_size = overwritten-size packet window size short in
    let left_size = overwritten-size reply asked_window asked_size (omega (arith, length-response result body, fits)) in
    let shown = sym (take_at reply (drop (0 + length reply) asked_window) (length reply) refl) in
    let read = reads-go after (record { window = left; status = 0; outcome = low_status reply }) 0x800 0 reply [] new refl (omega (arith, length-response result body, fits)) left_size shown refl in
    let reads = subst (λ (calls : List HostCall). CallsLead new calls new) (append-nil (port_reads 0x800 reply)) read in
    let behind = Did status_in 0x01 ∷ Did (PortIn 0x200) (low_status reply) ∷ port_reads 0x800 reply in
    let ticked = tick-go core after asked_window 0xFF result body behind new (handled-window core packet window plain.header plain.whole ∙ same) (refl, (refl, reads)) in
    let commanded = command-go core asked_window status outcome (Waited ∷ behind) new idle ticked in
    (refl, writes-go core window status outcome 0x800 0 packet (Did (PortOut 0x204 0xDA) 0 ∷ Waited ∷ behind) new refl (omega (arith, short)) size idle commanded)
