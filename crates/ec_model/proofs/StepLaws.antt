-- What every step leaves: the bus's kind, and the pin where the world leaves it. A whole step is a function.
use Rattle.std.proofs.Common.{◌≡◌, refl, ap, ◌∙◌, ℕ, suc, Bool, true, false, nat_le, inl, inr, List, [], ◌∷◌, length, take, Option, Some, None}
use Rattle.ec_types.specs.Tables.{packet_limit}
use Rattle.ec_types.specs.declared.bus.BusKind.{BusKind}
use Rattle.ec_types.specs.declared.bus.BusKind.TheVariants.{Lpc, I2c, Spi}
use Rattle.ec_model.specs.declared.event.Access.{Access}
use Rattle.ec_model.specs.declared.event.Access.TheVariants.{PortOut, PortIn, I2cWrite, I2cRead, SpiByte}
use Rattle.ec_model.specs.declared.event.Event.{Event}
use Rattle.ec_model.specs.declared.event.Event.TheVariants.{Access as AccessEvent, Tick, Reset, Power as PowerEvent, Pin as PinEvent}
use Rattle.flash_dev.specs.declared.hurt.Hurt.{Hurt}
use Rattle.flash_dev.specs.declared.hurt.Hurt.TheVariants.{Whole, Failed, Cut}
use Rattle.ec_model.specs.declared.event.Entry.{Entry}
use Rattle.ec_model.specs.declared.event.Entry.TheVariants.{Step, Mark}
use Rattle.ec_model.specs.declared.live.EraseJob.{EraseJob}
use Rattle.ec_model.specs.declared.live.HashView.{HashView}
use Rattle.ec_model.specs.declared.live.HashView.TheVariants.{Idle, Busy, Done}
use Rattle.ec_model.specs.Packet.{response_packet}
use Rattle.ec_model.specs.Ranges.{block_range}
use Rattle.ec_model.specs.Bus.{BusAnswer, BusState, OnLpc, OnI2c, OnSpi, I2cState, SpiState, Writing, Reading, Deselected, Receiving, Bad, Waiting, Replied, kind_of, fresh_bus, bus_step, i2c_written, i2c_read, spi_byte, replied, due_now, due_at_tick}
use Rattle.ec_model.specs.Table.{Table, Awake, Power, Off, On, Core, Valid, IsPowerValid, core_of}
use Rattle.ec_model.specs.Hash.{hash_ticked}
use Rattle.ec_model.specs.Answer.{Outcome, Answered, Restarts}
use Rattle.ec_model.specs.Work.{After, Work, Rest, Serve, EraseNext, HashNext, Boot, Stop, SetPin, serve_or, idle_work, hash_work, work_on, work_operations, bus_after, lost_answer}
use Rattle.ec_model.specs.WholeStep.{worked, after_outcome, stepped, stepped_by}
use Rattle.ec_model.specs.Step.{IsStep, unread, unfinished, failed_core, after_unread, WorkLeaves, OffLeaves, EventLeavesBy}
use Rattle.ec_model.specs.Guarded.{pin_after}
use Rattle.ec_model.proofs.GuardSteps.{if_cases}
use Rattle.ec_model.proofs.GuardRows.{KeepsOutcome, same-touched, same-touched_by}
use Rattle.ec_model.proofs.GuardStep.{handled-keeps}

-- a byte that is written on I2C keeps the kind
kind-written : (state : I2cState) (byte : ℕ) → kind_of (i2c_written state byte).state ≡ I2c
kind-written (Writing written) byte = refl
kind-written other byte = refl

-- a byte that is read
kind-read : (state : I2cState) → kind_of (i2c_read state).state ≡ I2c
kind-read (Reading (next ∷ left)) = refl
kind-read other = refl

-- a byte on SPI
kind-byte : (state : SpiState) (byte : ℕ) → kind_of (spi_byte state byte).state ≡ Spi
kind-byte Deselected byte = refl
kind-byte (Receiving bytes) byte = refl
kind-byte Bad byte = refl
kind-byte (Waiting request) byte = refl
kind-byte (Replied []) byte = refl
kind-byte (Replied (next ∷ left)) byte = refl

kind-access : (bus : BusState) (access : Access) → kind_of (bus_step bus access).state ≡ kind_of bus
kind-access (OnLpc state) (PortOut port byte) = refl
kind-access (OnLpc state) (PortIn port) = refl
kind-access (OnLpc state) other = refl
kind-access (OnI2c state) (I2cWrite byte) = kind-written state byte
kind-access (OnI2c state) I2cRead = kind-read state
kind-access (OnI2c state) other = refl
kind-access (OnSpi state) (SpiByte byte) = kind-byte state byte
kind-access (OnSpi state) other = refl

-- an event keeps the kind of the bus
pub kind-step : (bus : BusState) (event : Event) → kind_of (bus_after bus event).state ≡ kind_of bus
kind-step bus (AccessEvent access) = kind-access bus access
kind-step bus other = refl

-- a reply keeps it
kind-replied : (packet : List ℕ) (bus : BusState) → kind_of (replied packet bus) ≡ kind_of bus
kind-replied packet (OnLpc state) = refl
kind-replied packet (OnI2c state) = refl
kind-replied packet (OnSpi state) = refl

-- a fresh bus has it
kind-fresh : (kind : BusKind) → kind_of (fresh_bus kind) ≡ kind
kind-fresh Lpc = refl
kind-fresh I2c = refl
kind-fresh Spi = refl

-- a table with this pin and this bus
pub record Has (pin : Bool) (kind : BusKind) (table : Table) : Type 0 where
  pub pin_is : table.pin ≡ pin
  pub kind_is : table.kind ≡ kind

-- the pin after some work
abbrev pin_of : Work → Bool → Bool
pin_of (SetPin on) before = on
pin_of other before = before

ticked-pin : (hash : HashView) (core : Core) → (hash_ticked hash core).pin ≡ core.pin
ticked-pin Idle core = refl
ticked-pin (Busy at size left) core = if_cases (λ (after : Core). after.pin ≡ core.pin) (nat_le left 1) _ _ (λ last. refl) (λ more. refl)
ticked-pin (Done at size digest) core = refl

outcome-has : (core : Core) (bus : BusAnswer) (lost : ℕ) (outcome : Outcome) → KeepsOutcome core outcome → Has core.pin (kind_of bus.state) (after_outcome core bus lost outcome).table
outcome-has core bus lost (Answered after status body) keeps = record { pin_is = keeps.pin; kind_is = kind-replied (response_packet status body) bus.state }
outcome-has core bus lost Restarts keeps = record { pin_is = refl; kind_is = kind-fresh (kind_of bus.state) }

-- whole work
worked-has : (core : Core) (bus : BusAnswer) (lost : ℕ) (work : Work) → Has (pin_of work core.pin) (kind_of bus.state) (worked core bus lost work).table
worked-has core bus lost Rest = record { pin_is = refl; kind_is = refl }
worked-has core bus lost (Serve request) = outcome-has core bus lost _ (handled-keeps core (packet_limit (kind_of bus.state)) request)
worked-has core bus lost (EraseNext job) = record { pin_is = (same-touched (block_range job.next) core).pin; kind_is = refl }
worked-has core bus lost HashNext = record { pin_is = ticked-pin core.live.hash core; kind_is = refl }
worked-has core bus lost (Boot cause) = record { pin_is = refl; kind_is = kind-fresh (kind_of bus.state) }
worked-has core bus lost Stop = record { pin_is = refl; kind_is = refl }
worked-has core bus lost (SetPin on) = record { pin_is = refl; kind_is = refl }

after_unread-has : (core : Core) (bus : BusAnswer) (lost : ℕ) (outcome : Outcome) → Has core.pin (kind_of bus.state) (after_unread core bus lost outcome).table
after_unread-has core bus lost (Answered after status body) = record { pin_is = refl; kind_is = kind-replied (response_packet 2 []) bus.state }
after_unread-has core bus lost Restarts = record { pin_is = refl; kind_is = kind-fresh (kind_of bus.state) }

-- work in which a read failed
unread-has : (core : Core) (bus : BusAnswer) (lost : ℕ) (work : Work) → Has core.pin (kind_of bus.state) (unread core bus lost work).table
unread-has core bus lost (Serve request) = after_unread-has core bus lost _
unread-has core bus lost (Boot cause) = record { pin_is = refl; kind_is = kind-fresh (kind_of bus.state) }
unread-has core bus lost other = record { pin_is = refl; kind_is = refl }

-- work in which an operation failed
unfinished-has : (core : Core) (flash : List ℕ) (k : ℕ) (bus : BusAnswer) (work : Work) → Has core.pin (kind_of bus.state) (unfinished (failed_core core flash (work_operations core work) k) bus work).table
unfinished-has core flash k bus (Serve request) = record { pin_is = (same-touched_by (take (suc k) (work_operations core (Serve request))) core).pin; kind_is = kind-replied (response_packet 2 []) bus.state }
unfinished-has core flash k bus other = record { pin_is = (same-touched_by (take (suc k) (work_operations core other)) core).pin; kind_is = refl }

-- work, whatever fails in it. The pin's work makes no call of the flash
work-has : (hurt : Hurt) (core : Core) (bus : BusAnswer) (lost : ℕ) (work : Work) (after : After) → WorkLeaves hurt core bus lost work after → Has (pin_of work core.pin) (kind_of bus.state) after.table
work-has Whole core bus lost work after leaves = rw leaves (worked-has core bus lost work)
work-has Failed core bus lost (SetPin on) after (inl failed) = absurd (false-true failed.reads) where
  false-true : false ≡ true → ⊥
  false-true same = cc
work-has Failed core bus lost (SetPin on) after (inr failed) = cc
work-has Failed core bus lost other after (inl failed) = rw failed.leaves (unread-has core bus lost other)
work-has Failed core bus lost other after (inr failed) = rw failed.leaves (unfinished-has core failed.flash failed.place bus other)
work-has Cut core bus lost (SetPin on) after cut = cc
work-has Cut core bus lost other after cut = rw cut.leaves (record { pin_is = refl; kind_is = refl })

-- the pin after the work of an event is that after the event
serve-pin_of : (due : Option (List ℕ)) (other : Work) (pin : Bool) → pin_of other pin ≡ pin → pin_of (serve_or due other) pin ≡ pin
serve-pin_of None other pin same = same
serve-pin_of (Some request) other pin same = refl

hash-pin_of : (hash : HashView) (pin : Bool) → pin_of (hash_work hash) pin ≡ pin
hash-pin_of Idle pin = refl
hash-pin_of (Busy at size left) pin = refl
hash-pin_of (Done at size digest) pin = refl

idle-pin_of : (job : Option EraseJob) (hash : HashView) (pin : Bool) → pin_of (idle_work job hash) pin ≡ pin
idle-pin_of None hash pin = hash-pin_of hash pin
idle-pin_of (Some job) hash pin = refl

pin_of-event : (awake : Awake) (event : Event) (pin : Bool) → pin_of (work_on awake event) pin ≡ pin_after event pin
pin_of-event awake (AccessEvent access) pin = serve-pin_of (due_now (bus_step awake.bus access).state) Rest pin refl
pin_of-event awake Tick pin = serve-pin_of (due_at_tick awake.bus) (idle_work awake.live.erase awake.live.hash) pin (idle-pin_of awake.live.erase awake.live.hash pin)
pin_of-event awake (Reset cause) pin = refl
pin_of-event awake (PowerEvent true) pin = refl
pin_of-event awake (PowerEvent false) pin = refl
pin_of-event awake (PinEvent on) pin = refl

-- an event of a controller that is off
off-has : (hurt : Hurt) (old : Table) (event : Event) (after : After) → OffLeaves hurt old event after → Has (pin_after event old.pin) old.kind after.table
off-has Whole old (PowerEvent true) after leaves = rw leaves (record { pin_is = refl; kind_is = kind-fresh old.kind })
off-has Whole old other after leaves = rw leaves (record { pin_is = refl; kind_is = refl })
off-has Failed old (PowerEvent true) after leaves = rw leaves.1 (record { pin_is = refl; kind_is = kind-fresh old.kind })
off-has Failed old (PowerEvent false) after leaves = let off = leaves.0 in cc
off-has Failed old other after leaves = let off = leaves.0 in cc
off-has Cut old event after leaves = absurd leaves

-- the pin after an event, by whether the controller is on
event-pin : (hurt : Hurt) (old : Table) (event : Event) (power : Power) (after : After) → EventLeavesBy hurt old event power after → after.table.pin ≡ pin_after event old.pin
event-pin hurt old event Off after leaves = (off-has hurt old event after leaves).pin_is
event-pin hurt old event (On awake) after leaves =
    (work-has hurt (core_of old awake) (bus_after awake.bus event) (lost_answer event) (work_on awake event) after leaves).pin_is ∙ pin_of-event awake event old.pin

pub step-pin : (old : Table) (event : Event) (answer meant seen : ℕ) (hurt : Hurt) (new : Table) → IsStep old (Step event answer meant seen hurt) new → new.pin ≡ pin_after event old.pin
step-pin old event answer meant seen hurt new leaves = event-pin hurt old event old.power (record { table = new; answer = answer }) leaves

-- the bus after an event
event-kind : (hurt : Hurt) (old : Table) (event : Event) (power : Power) (after : After) → IsPowerValid (length old.flash) old.kind power → EventLeavesBy hurt old event power after → after.table.kind ≡ old.kind
event-kind hurt old event Off after valid leaves = (off-has hurt old event after leaves).kind_is
event-kind hurt old event (On awake) after valid leaves =
    (work-has hurt (core_of old awake) (bus_after awake.bus event) (lost_answer event) (work_on awake event) after leaves).kind_is ∙ kind-step awake.bus event ∙ valid.bus_kind

pub step-kind : (old : Table) (entry : Entry) (new : Table) → Valid old → IsStep old entry new → new.kind ≡ old.kind
step-kind old (Step event answer meant seen hurt) new valid leaves = event-kind hurt old event old.power (record { table = new; answer = answer }) valid.power leaves
step-kind old (Mark line) new valid same = ap (λ (table : Table). table.kind) same

-- a whole step is the function, by whether the controller is on
whole-stepped : (old : Table) (event : Event) (power : Power) (after : After) → EventLeavesBy Whole old event power after → after ≡ stepped_by old event power
whole-stepped old event Off after leaves = leaves
whole-stepped old event (On awake) after leaves = leaves

stepped-whole : (old : Table) (event : Event) (power : Power) (after : After) → after ≡ stepped_by old event power → EventLeavesBy Whole old event power after
stepped-whole old event Off after same = same
stepped-whole old event (On awake) after same = same

pub step-stepped : (old : Table) (event : Event) (answer meant seen : ℕ) (new : Table) → IsStep old (Step event answer meant seen Whole) new → record { table = new; answer = answer } ≡ stepped old event
step-stepped old event answer meant seen new leaves = whole-stepped old event old.power (record { table = new; answer = answer }) leaves

pub stepped-step : (old : Table) (event : Event) (answer meant seen : ℕ) (new : Table) → record { table = new; answer = answer } ≡ stepped old event → IsStep old (Step event answer meant seen Whole) new
stepped-step old event answer meant seen new same = stepped-whole old event old.power (record { table = new; answer = answer }) same
