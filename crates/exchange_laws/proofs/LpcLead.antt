-- Undisturbed calls on LPC.
use Rattle.std.proofs.Common.{◌≡◌, refl, sym, ap, ◌∙◌, subst, ℕ, suc, ◌+◌, ◌-◌, ◌<◌, ◌≤◌, Bool, true, false, ◌==◌, List, [], ◌∷◌, ◌++◌, length, take, drop, get_or, set, slice_index, replicate, arith, Some}
use Rattle.std.proofs.lemmas.List.{length-set, nil_from_length}
use Rattle.std.proofs.lemmas.Bool.Decides.{leb_tells, eqb_tells}
use Rattle.flash_dev.specs.Flash.{overwritten}
use Rattle.ec_model.specs.declared.event.Access.TheVariants.{PortOut}
use Rattle.ec_model.specs.Bus.{BusState, OnLpc, LpcState, is_busy, in_window, lpc_out, lpc_in, lpc_after_in}
use Rattle.ec_model.specs.HostCalls.{HostCall, Did, Waited}
use Rattle.ec_model.specs.Heard.{poll_end, waited_reads, port_reads, port_writes}
use Rattle.ec_model.specs.SendLpc.{status_in}
use Rattle.ec_model.specs.Table.{Table, Core, table_of}
use Rattle.ec_model.specs.Answer.{Outcome}
use Rattle.ec_model.specs.Handle.{handled}
use Rattle.ec_model.specs.WholeStep.{after_outcome}
use Rattle.exchange_laws.specs.Calm.{CallsLead}
use Rattle.exchange_laws.proofs.Lists.{overwritten-nil, overwritten-cons, take-drop-cons}

-- an LPC bus
abbrev pub lpc : List ℕ → ℕ → ℕ → BusState
lpc window status outcome = OnLpc (record { window = window; status = status; outcome = outcome })

-- a port of the window
inside : (port place : ℕ) → port ≡ 0x800 + place → place < 256 → in_window port ≡ true
inside port place same short = grind (arith, leb_tells)

-- two numbers that differ
unequal : (a b : ℕ) → b < a → (a == b) ≡ false
unequal a b less = grind (arith, eqb_tells)

-- a read of the window
pub in_at : (state : LpcState) (port place : ℕ) → port ≡ 0x800 + place → place < 256 → lpc_in state port ≡ slice_index state.window place
in_at state port place same short = let within = inside port place same short in let at : port - 0x800 ≡ place = omega arith in rw within (ap (λ (n : ℕ). slice_index state.window n) at)

-- a read of the window changes nothing
pub after_in_at : (state : LpcState) (port place : ℕ) → port ≡ 0x800 + place → lpc_after_in state port ≡ state
after_in_at state port place same = let other = unequal port 0x200 (omega arith) in rw other refl

-- a write to the window
pub out_at : (state : LpcState) (port place byte : ℕ) → port ≡ 0x800 + place → place < 256 → is_busy state.status ≡ false → lpc_out state port byte ≡ record state { window = set state.window place byte }
out_at state port place byte same short idle = let within = inside port place same short in let at : port - 0x800 ≡ place = omega arith in rw (idle, within) (ap (λ (n : ℕ). record state { window = set state.window n byte }) at)

-- bytes that are read from the window are the window's
pub reads-lead : (core : Core) (state : LpcState) (port place : ℕ) (bytes : List ℕ) (calls : List HostCall) (new : Table) → port ≡ 0x800 + place → place + length bytes ≤ 256 → length state.window ≡ 256 →
    CallsLead (table_of core (OnLpc state)) (port_reads port bytes ++ calls) new → (bytes ≡ take (length bytes) (drop place state.window)) × CallsLead (table_of core (OnLpc state)) calls new
reads-lead core state port place [] calls new same short size lead = (refl, lead)
reads-lead core state port place (byte ∷ bytes) calls new same short size lead =
    let rest : CallsLead (table_of core (OnLpc state)) (port_reads (port + 1) bytes ++ calls) new = subst (λ (s : LpcState). CallsLead (table_of core (OnLpc s)) (port_reads (port + 1) bytes ++ calls) new) (after_in_at state port place same) lead.1 in
    let more = reads-lead core state (port + 1) (place + 1) bytes calls new (omega arith) (omega arith) size rest in
    let first : byte ≡ get_or state.window place 0 = lead.0 ∙ in_at state port place same (omega arith) in
    (ap (λ (xs : List ℕ). byte ∷ xs) more.0 ∙ take-drop-cons place (length bytes) byte state.window (omega arith) first, more.1)

-- bytes that are written stand in the window, and each write got 0
pub writes-lead : (core : Core) (window : List ℕ) (status outcome port place : ℕ) (bytes gots : List ℕ) (calls : List HostCall) (new : Table) → port ≡ 0x800 + place → place + length bytes ≤ 256 → length window ≡ 256 →
    is_busy status ≡ false → length gots ≡ length bytes → CallsLead (table_of core (lpc window status outcome)) (port_writes port bytes gots ++ calls) new →
    (gots ≡ replicate (length bytes) 0) × CallsLead (table_of core (lpc (overwritten place bytes window) status outcome)) calls new
writes-lead core window status outcome port place [] gots calls new same short size idle each lead =
    (nil_from_length gots each, subst (λ (xs : List ℕ). CallsLead (table_of core (lpc xs status outcome)) calls new) (sym (overwritten-nil place window)) lead)
writes-lead core window status outcome port place (byte ∷ bytes) [] calls new same short size idle each lead = absurd (omega (arith, each))
writes-lead core window status outcome port place (byte ∷ bytes) (got ∷ gots) calls new same short size idle each lead =
    let rest : CallsLead (table_of core (lpc (set window place byte) status outcome)) (port_writes (port + 1) bytes gots ++ calls) new =
    subst (λ (s : LpcState). CallsLead (table_of core (OnLpc s)) (port_writes (port + 1) bytes gots ++ calls) new) (out_at (record { window = window; status = status; outcome = outcome }) port place byte same (omega arith) idle) lead.1 in
    let more = writes-lead core (set window place byte) status outcome (port + 1) (place + 1) bytes gots calls new (omega arith) (omega arith) (length-set window place byte ∙ size) idle (omega (arith, each)) rest in (
      ap (λ (first : ℕ). first ∷ gots) lead.0 ∙ ap (λ (others : List ℕ). 0 ∷ others) more.0,
      subst (λ (xs : List ℕ). CallsLead (table_of core (lpc xs status outcome)) calls new) (overwritten-cons place byte bytes window (omega arith)) more.1,
    )

-- a read of the status
pub status-lead : (core : Core) (window : List ℕ) (status outcome byte : ℕ) (calls : List HostCall) (new : Table) → CallsLead (table_of core (lpc window status outcome)) (Did status_in byte ∷ calls) new → (byte ≡ status) × CallsLead (table_of core (lpc window status outcome)) calls new
status-lead core window status outcome byte calls new lead = lead

-- the command byte
pub command-lead : (core : Core) (window : List ℕ) (status outcome byte : ℕ) (calls : List HostCall) (new : Table) → is_busy status ≡ false → CallsLead (table_of core (lpc window status outcome)) (Did (PortOut 0x204 0xDA) byte ∷ calls) new →
    (byte ≡ 0) × CallsLead (table_of core (lpc window 0x06 0xFF)) calls new
command-lead core window status outcome byte calls new idle lead =
    let out : lpc_out (record { window = window; status = status; outcome = outcome }) 0x204 0xDA ≡ record { window = window; status = 0x06; outcome = 0xFF } = rw idle refl in
    (lead.0, subst (λ (s : LpcState). CallsLead (table_of core (OnLpc s)) calls new) out lead.1)

-- the tick that serves a request
pub tick-lead : (core : Core) (window : List ℕ) (outcome : ℕ) (result : Outcome) (calls : List HostCall) (new : Table) → handled core 256 window ≡ result → CallsLead (table_of core (lpc window 0x06 outcome)) (Waited ∷ calls) new →
    CallsLead (after_outcome core (record { state = lpc window 0x06 outcome; answer = 0 }) 0 result).table calls new
tick-lead core window outcome result calls new same lead =
    subst (λ (r : Outcome). CallsLead (after_outcome core (record { state = lpc window 0x06 outcome; answer = 0 }) 0 r).table calls new) same lead

-- a poll ended with the read that it began with
pub record EndsAtOnce (table : Table) (status byte : ℕ) (bytes : List ℕ) (ready : Bool) (calls : List HostCall) (new : Table) : Type 0 where
  pub shown : byte ≡ status
  pub none : bytes ≡ []
  pub ended : ready ≡ true
  pub lead : CallsLead table calls new

-- a poll of a bus that is not busy ends at once
pub ready-lead : (core : Core) (window : List ℕ) (status outcome reads byte : ℕ) (bytes : List ℕ) (ready : Bool) (calls : List HostCall) (new : Table) → is_busy status ≡ false → poll_end is_busy (suc reads) (byte ∷ bytes) ≡ Some ready →
    CallsLead (table_of core (lpc window status outcome)) (Did status_in byte ∷ (waited_reads status_in bytes ++ calls)) new → EndsAtOnce (table_of core (lpc window status outcome)) status byte bytes ready calls new
ready-lead core window status outcome reads byte [] ready calls new idle polled lead =
    let seen : is_busy byte ≡ false = ap (λ (n : ℕ). is_busy n) lead.0 ∙ idle in
    let ended = rw seen at polled in
    record { shown = lead.0; none = refl; ended = cc; lead = lead.1 }
ready-lead core window status outcome reads byte (next ∷ bytes) ready calls new idle polled lead =
    let seen : is_busy byte ≡ false = ap (λ (n : ℕ). is_busy n) lead.0 ∙ idle in
    let ended = rw seen at polled in
    absurd (cc)
