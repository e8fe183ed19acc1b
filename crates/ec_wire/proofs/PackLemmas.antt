-- What was packed is read back.
use Rattle.std.proofs.Common.{◌≡◌, refl, ℕ, ◌+◌, ◌*◌, ◌/◌, ◌%◌, ◌<◌, ◌≤◌, ◌==◌, true, false, [], ◌∷◌, arith}
use Rattle.std.proofs.lemmas.Bool.Decides.{eqb_tells}
use Rattle.ec_model.specs.declared.event.Access.{Access}
use Rattle.ec_model.specs.declared.event.Access.TheVariants.{PortOut, PortIn, I2cStartWrite, I2cStartRead, I2cWrite, I2cRead, I2cStop, SpiSelect, SpiByte, SpiDeselect}
use Rattle.ec_model.specs.declared.event.Event.{Event}
use Rattle.ec_model.specs.declared.event.Event.TheVariants.{Access as AccessEvent, Tick, Reset, Power as PowerEvent, Pin as PinEvent}
use Rattle.ec_model.specs.declared.event.WorldReset.TheVariants.{Pin, Watchdog}
use Rattle.ec_model.specs.declared.event.Entry.TheVariants.{Step}
use Rattle.flash_dev.specs.declared.hurt.Hurt.{Hurt}
use Rattle.flash_dev.specs.declared.hurt.Hurt.TheVariants.{Whole, Failed, Cut}
use Rattle.ec_model.specs.Upset.{event_byte}
use Rattle.ec_wire.specs.Packing.{event_number, hurt_number, event_port, numbered_event, numbered_hurt, unpacked}

-- an event is that of its number, its port and its byte
event-back : (event : Event) → numbered_event (event_number event) (event_port event) (event_byte event) ≡ event
event-back (AccessEvent (PortOut port byte)) = refl
event-back (AccessEvent (PortIn port)) = refl
event-back (AccessEvent I2cStartWrite) = refl
event-back (AccessEvent I2cStartRead) = refl
event-back (AccessEvent (I2cWrite byte)) = refl
event-back (AccessEvent I2cRead) = refl
event-back (AccessEvent I2cStop) = refl
event-back (AccessEvent SpiSelect) = refl
event-back (AccessEvent (SpiByte byte)) = refl
event-back (AccessEvent SpiDeselect) = refl
event-back Tick = refl
event-back (Reset Pin) = refl
event-back (Reset Watchdog) = refl
event-back (PowerEvent false) = refl
event-back (PowerEvent true) = refl
event-back (PinEvent false) = refl
event-back (PinEvent true) = refl

-- the numbers of accesses are below 10
access-small : (access : Access) → event_number (AccessEvent access) ≤ 9
access-small (PortOut port byte) = omega arith
access-small (PortIn port) = omega arith
access-small I2cStartWrite = omega arith
access-small I2cStartRead = omega arith
access-small (I2cWrite byte) = omega arith
access-small I2cRead = omega arith
access-small I2cStop = omega arith
access-small SpiSelect = omega arith
access-small (SpiByte byte) = omega arith
access-small SpiDeselect = omega arith

-- the numbers of events are below 17
event-small : (event : Event) → event_number event ≤ 16
event-small (AccessEvent access) = omega (arith, access-small access)
event-small Tick = omega arith
event-small (Reset Pin) = omega arith
event-small (Reset Watchdog) = omega arith
event-small (PowerEvent false) = omega arith
event-small (PowerEvent true) = omega arith
event-small (PinEvent false) = omega arith
event-small (PinEvent true) = omega arith

-- a Hurt is that of its number
hurt-back : (hurt : Hurt) → numbered_hurt (hurt_number hurt) ≡ hurt
hurt-back Whole = refl
hurt-back Failed = refl
hurt-back Cut = refl

-- the numbers of Hurts are below 4
hurt-small : (hurt : Hurt) → hurt_number hurt < 4
hurt-small Whole = omega arith
hurt-small Failed = omega arith
hurt-small Cut = omega arith

-- the event of a code
code-event : (event hurt : ℕ) → hurt < 4 → (4 * event + hurt) / 4 ≡ event
code-event event hurt small = omega arith

-- the Hurt of a code
code-hurt : (event hurt : ℕ) → hurt < 4 → (4 * event + hurt) % 4 ≡ hurt
code-hurt event hurt small = omega arith

-- a step's code is no mark's
code-step : (event hurt : ℕ) → event ≤ 16 → hurt < 4 → (4 * event + hurt == 0xFF) ≡ false
code-step event hurt few small = grind (arith, eqb_tells)

-- a step is read back
pub step-unpacked : (event : Event) (answer meant seen : ℕ) (hurt : Hurt) → unpacked (record { code = 4 * event_number event + hurt_number hurt; port = event_port event; bytes = event_byte event ∷ answer ∷ meant ∷ seen ∷ [] }) ≡ Step event answer meant seen hurt
step-unpacked event answer meant seen hurt =
    let small = hurt-small hurt in
    let other = code-step (event_number event) (hurt_number hurt) (event-small event) small in
    let e = code-event (event_number event) (hurt_number hurt) small in
    let h = code-hurt (event_number event) (hurt_number hurt) small in
    rw (other, e, h, event-back event, hurt-back hurt) refl
