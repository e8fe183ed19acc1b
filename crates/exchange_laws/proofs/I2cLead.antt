-- Undisturbed calls on I2C.
use Rattle.std.proofs.Common.{◌≡◌, refl, sym, ap, ◌∙◌, subst, ℕ, zero, suc, ◌+◌, ◌≤◌, Bool, true, nat_lt, if◌then◌else◌, List, [], ◌∷◌, ◌++◌, length, drop, replicate, append_assoc, append-nil, length-append, arith}
use Rattle.std.proofs.lemmas.Bool.Decides.{leb_tells}
use Rattle.std.proofs.lemmas.List.{nil_from_length}
use Rattle.ec_model.specs.declared.event.Access.TheVariants.{I2cStartWrite, I2cStartRead, I2cStop, I2cRead}
use Rattle.ec_model.specs.Packet.{response_packet}
use Rattle.ec_model.specs.Bus.{I2cState, OnI2c, Writing, Asked, Reading, low_status, i2c_stopped}
use Rattle.ec_model.specs.HostCalls.{HostCall, Did}
use Rattle.ec_model.specs.Heard.{i2c_writes, reads_in_row}
use Rattle.ec_model.specs.Table.{Table, Core, table_of}
use Rattle.ec_model.specs.Answer.{Outcome, Answered}
use Rattle.ec_model.specs.Handle.{handled}
use Rattle.ec_model.specs.WholeStep.{after_outcome}
use Rattle.exchange_laws.specs.Calm.{CallsLead}

-- a start of a write is taken
pub start-lead : (core : Core) (state : I2cState) (got : ℕ) (calls : List HostCall) (new : Table) → CallsLead (table_of core (OnI2c state)) (Did I2cStartWrite got ∷ calls) new → (got ≡ 0) × CallsLead (table_of core (OnI2c (Writing []))) calls new
start-lead core state got calls new lead = lead

-- a place for one more byte
roomy : (size : ℕ) → size + 1 ≤ 129 → nat_lt size 129 ≡ true
roomy size short = grind (arith, leb_tells)

-- bytes that are written get 0 each, and are kept
pub writes-lead : (core : Core) (written bytes gots : List ℕ) (calls : List HostCall) (new : Table) → length written + length bytes ≤ 129 → length gots ≡ length bytes → CallsLead (table_of core (OnI2c (Writing written))) (i2c_writes bytes gots ++ calls) new →
    (gots ≡ replicate (length bytes) 0) × CallsLead (table_of core (OnI2c (Writing (written ++ bytes)))) calls new
writes-lead core written [] gots calls new short each lead =
    let none = nil_from_length gots each in
    (none, subst (λ (xs : List ℕ). CallsLead (table_of core (OnI2c (Writing xs))) calls new) (sym (append-nil written)) lead)
writes-lead core written (byte ∷ bytes) [] calls new short each lead = absurd (omega (arith, each))
writes-lead core written (byte ∷ bytes) (got ∷ gots) calls new short each lead =
    let room = roomy (length written) (omega (arith, short)) in
    let kept = subst (λ (test : Bool). CallsLead (table_of core (OnI2c (Writing (if test then written ++ byte ∷ [] else written)))) (i2c_writes bytes gots ++ calls) new) room lead.1 in
    let more = writes-lead core (written ++ byte ∷ []) bytes gots calls new (omega (arith, short, length-append written (byte ∷ []))) (omega (arith, each)) kept in (
      ap (λ (first : ℕ). first ∷ gots) lead.0 ∙ ap (λ (others : List ℕ). 0 ∷ others) more.0,
      subst (λ (xs : List ℕ). CallsLead (table_of core (OnI2c (Writing xs))) calls new) (append_assoc written (byte ∷ []) bytes) more.1,
    )

-- the start of a read has the request served
pub served-lead : (core after : Core) (request : List ℕ) (status : ℕ) (body : List ℕ) (got : ℕ) (calls : List HostCall) (new : Table) → handled core 128 request ≡ Answered after status body →
    CallsLead (table_of core (OnI2c (Writing (0xDA ∷ request)))) (Did I2cStartRead got ∷ calls) new →
    (got ≡ 0) × CallsLead (table_of after (OnI2c (Reading (low_status (response_packet status body) ∷ length (response_packet status body) ∷ response_packet status body)))) calls new
served-lead core after request status body got calls new same lead =
    subst (λ (r : Outcome). (got ≡ (after_outcome core (record { state = OnI2c (Asked request); answer = 0 }) 0xFF r).answer) × CallsLead (after_outcome core (record { state = OnI2c (Asked request); answer = 0 }) 0xFF r).table calls new) same lead

-- bytes that are read are those of the reply
pub reads-lead : (core : Core) (left bytes : List ℕ) (calls : List HostCall) (new : Table) → length bytes ≡ length left → CallsLead (table_of core (OnI2c (Reading left))) (reads_in_row I2cRead bytes ++ calls) new →
    (bytes ≡ left) × CallsLead (table_of core (OnI2c (Reading []))) calls new
reads-lead core [] [] calls new each lead = (refl, lead)
reads-lead core [] (byte ∷ bytes) calls new each lead = absurd (omega (arith, each))
reads-lead core (next ∷ left) [] calls new each lead = absurd (omega (arith, each))
reads-lead core (next ∷ left) (byte ∷ bytes) calls new each lead =
    let more = reads-lead core left bytes calls new (omega (arith, each)) lead.1 in
    (ap (λ (first : ℕ). first ∷ bytes) lead.0 ∙ ap (λ (others : List ℕ). next ∷ others) more.0, more.1)

-- a stop is taken, and ends the calls
pub stop-lead : (core : Core) (state : I2cState) (got : ℕ) (new : Table) → CallsLead (table_of core (OnI2c state)) (Did I2cStop got ∷ []) new → (got ≡ 0) × (new ≡ table_of core (OnI2c (i2c_stopped state)))
stop-lead core state got new lead = lead

-- a byte that was not taken, behind those that were
pub all-taken : (taken got size : ℕ) → replicate taken 0 ++ got ∷ [] ≡ replicate size 0 → got ≡ 0
all-taken zero got zero same = absurd (let e = ap (λ (xs : List ℕ). length xs) same in omega (arith, e))
all-taken zero got (suc size) same = ap (λ (xs : List ℕ). first xs) same where
  first : List ℕ → ℕ
  first [] = 0
  first (x ∷ xs) = x
all-taken (suc taken) got zero same = absurd (let e = ap (λ (xs : List ℕ). length xs) same in omega (arith, e))
all-taken (suc taken) got (suc size) same = all-taken taken got size (ap (λ (xs : List ℕ). drop 1 xs) same)
