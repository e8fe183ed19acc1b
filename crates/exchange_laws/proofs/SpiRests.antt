-- Behind a send on SPI no request waits, whatever the world does in it and whatever fails: its last call deselects.
use Rattle.std.proofs.Common.{◌≡◌, refl, ap, ◌∙◌, subst, ℕ, false, ◌⊎◌, inl, inr, List, [], ◌∷◌, ◌++◌, length}
use Rattle.std.specs.Prelude.{is_some}
use Rattle.std.specs.List.{list_all}
use Rattle.ec_types.specs.declared.bus.BusKind.TheVariants.{Spi}
use Rattle.ec_model.specs.declared.event.Access.{Access}
use Rattle.ec_model.specs.declared.event.Access.TheVariants.{PortOut, PortIn, I2cStartWrite, I2cStartRead, I2cWrite, I2cRead, I2cStop, SpiSelect, SpiByte, SpiDeselect}
use Rattle.ec_model.specs.declared.event.Event.{Event}
use Rattle.ec_model.specs.declared.event.Event.TheVariants.{Access as AccessEvent, Tick, Reset, Power as PowerEvent, Pin as PinEvent}
use Rattle.ec_model.specs.declared.event.Entry.{Entry}
use Rattle.ec_model.specs.declared.event.Entry.TheVariants.{Step, Mark}
use Rattle.flash_dev.specs.declared.hurt.Hurt.{Hurt}
use Rattle.ec_model.specs.Bus.{BusState, OnLpc, OnI2c, OnSpi, kind_of, bus_step, due_at_tick}
use Rattle.ec_model.specs.HostCalls.{HostCall, Did, Waited, with_byte, call_before, calls_of}
use Rattle.ec_model.specs.Heard.{Heard}
use Rattle.ec_model.specs.SendSpi.{SpiSend, SpiWasUnserved, SpiWasServed}
use Rattle.ec_model.specs.Run.{IsRun}
use Rattle.ec_model.specs.Table.{Table, Power, Off, On, Valid, IsPowerValid, core_of}
use Rattle.ec_model.specs.Work.{After, bus_after, work_on, lost_answer}
use Rattle.ec_model.specs.Step.{EventLeavesBy}
use Rattle.ec_model.proofs.StepLaws.{step-kind}
use Rattle.ec_model.proofs.ValidEvents.{step-valid}
use Rattle.exchange_laws.specs.Resting.{Rests, is_port_read}
use Rattle.exchange_laws.proofs.Rests.{kept-rests, off-rests, reads-rest}

-- no request waits on a bus that was deselected
bus-rests : (bus : BusState) → kind_of bus ≡ Spi → is_some (due_at_tick (bus_step bus SpiDeselect).state) ≡ false
bus-rests (OnLpc state) kind = absurd (cc)
bus-rests (OnI2c state) kind = absurd (cc)
bus-rests (OnSpi state) kind = refl

-- a deselect, by whether the controller is on
deselect-by : (hurt : Hurt) (table : Table) (power : Power) (after : After) → table.power ≡ power → IsPowerValid (length table.flash) table.kind power → table.kind ≡ Spi → EventLeavesBy hurt table (AccessEvent SpiDeselect) power after → Rests after.table
deselect-by hurt table Off after same valid kind leaves = off-rests hurt table (AccessEvent SpiDeselect) after same leaves
deselect-by hurt table (On awake) after same valid kind leaves =
    kept-rests hurt (core_of table awake) (bus_after awake.bus (AccessEvent SpiDeselect)) (lost_answer (AccessEvent SpiDeselect)) (work_on awake (AccessEvent SpiDeselect)) after (bus-rests awake.bus (valid.bus_kind ∙ kind)) leaves

-- the access of a call that deselects
deselects : (access : Access) (meant seen stopped : ℕ) → Did (with_byte access meant) seen ≡ Did SpiDeselect stopped → access ≡ SpiDeselect
deselects SpiDeselect meant seen stopped same = refl
deselects (PortOut port byte) meant seen stopped same = absurd (cc)
deselects (PortIn port) meant seen stopped same = absurd (cc)
deselects I2cStartWrite meant seen stopped same = absurd (cc)
deselects I2cStartRead meant seen stopped same = absurd (cc)
deselects (I2cWrite byte) meant seen stopped same = absurd (cc)
deselects I2cRead meant seen stopped same = absurd (cc)
deselects I2cStop meant seen stopped same = absurd (cc)
deselects SpiSelect meant seen stopped same = absurd (cc)
deselects (SpiByte byte) meant seen stopped same = absurd (cc)

-- the last of some calls deselects
pub record EndsDeselected (calls : List HostCall) : Type 0 where
  pub before : List HostCall
  pub stopped : ℕ
  pub made : calls ≡ before ++ Did SpiDeselect stopped ∷ []

-- there is one
not-none : (before : List HostCall) (stopped : ℕ) → [] ≡ before ++ Did SpiDeselect stopped ∷ [] → ⊥
not-none [] stopped same = cc
not-none (call ∷ before) stopped same = cc

-- behind the first call, or that call itself
tail-ends : (call : HostCall) (rest before : List HostCall) (stopped : ℕ) → call ∷ rest ≡ before ++ Did SpiDeselect stopped ∷ [] → EndsDeselected rest ⊎ ((call ≡ Did SpiDeselect stopped) × (rest ≡ []))
tail-ends call rest [] stopped same = inr (cc, cc)
tail-ends call rest (first ∷ before) stopped same = inl (record { before = before; stopped = stopped; made = cc })

-- behind an event, or that event itself
behind : (event : Event) (meant seen : ℕ) (rest : List HostCall) → EndsDeselected (call_before event meant seen rest) → EndsDeselected rest ⊎ ((event ≡ AccessEvent SpiDeselect) × (rest ≡ []))
behind (AccessEvent access) meant seen rest ends = elim (tail-ends (Did (with_byte access meant) seen) rest ends.before ends.stopped ends.made) [
  | inl later ↦ inl later
  | inr last ↦ inr (ap AccessEvent (deselects access meant seen ends.stopped last.0), last.1)
]
behind Tick meant seen rest ends = elim (tail-ends Waited rest ends.before ends.stopped ends.made) [
  | inl later ↦ inl later
  | inr last ↦ absurd (let e = last.0 in cc)
]
behind (Reset cause) meant seen rest ends = inl ends
behind (PowerEvent on) meant seen rest ends = inl ends
behind (PinEvent on) meant seen rest ends = inl ends

-- a step that deselects, whatever fails in it
step-rests : (old : Table) (event : Event) (answer : ℕ) (hurt : Hurt) (new : Table) → Valid old → old.kind ≡ Spi → event ≡ AccessEvent SpiDeselect → EventLeavesBy hurt old event old.power (record { table = new; answer = answer }) → Rests new
step-rests old event answer hurt new valid kind is leaves =
    deselect-by hurt old old.power (record { table = new; answer = answer }) refl valid.power kind (subst (λ (e : Event). EventLeavesBy hurt old e old.power (record { table = new; answer = answer })) is leaves)

-- a run whose last call deselects
pub deselected-rests : (old : Table) (entries : List Entry) (new : Table) → Valid old → old.kind ≡ Spi → EndsDeselected (calls_of entries) → IsRun old entries new → Rests new
deselected-rests old [] new valid kind ends run = absurd (not-none ends.before ends.stopped ends.made)
deselected-rests old (Step event answer meant seen hurt ∷ entries) new valid kind ends run =
    let next = step-valid old (Step event answer meant seen hurt) run.0 valid run.1 in
    let same = step-kind old (Step event answer meant seen hurt) run.0 valid run.1 ∙ kind in
    elim (behind event meant seen (calls_of entries) ends) [
      | inl later ↦ deselected-rests run.0 entries new next same later run.2
      | inr last ↦ reads-rest run.0 entries new next (step-rests old event answer hurt run.0 valid kind last.0 run.1) (ap (λ (calls : List HostCall). list_all is_port_read calls) last.1) run.2
    ]
deselected-rests old (Mark line ∷ entries) new valid kind ends run =
    deselected-rests run.0 entries new (step-valid old (Mark line) run.0 valid run.1) (step-kind old (Mark line) run.0 valid run.1 ∙ kind) ends run.2

-- a send, however it ended
pub spi-rests : (old : Table) (entries : List Entry) (packet : List ℕ) (heard : Heard) (new : Table) → Valid old → old.kind ≡ Spi → SpiSend packet (calls_of entries) heard → IsRun old entries new → Rests new
spi-rests old entries packet heard new valid kind (SpiWasUnserved unserved) run = deselected-rests old entries new valid kind (record { before = _; stopped = unserved.stopped; made = unserved.made }) run
spi-rests old entries packet heard new valid kind (SpiWasServed served) run = deselected-rests old entries new valid kind (record { before = _; stopped = served.stopped; made = served.made }) run
