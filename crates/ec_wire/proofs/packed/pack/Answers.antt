use Rattle.ec_wire.proofs.PackLemmas.{step-unpacked}
use Rattle.ec_wire.proofs.packed.pack.Goals as goal

pub returns-in-Step : goal.returns-in-Step
returns-in-Step c =
    rw (c.event_number.ensures, c.hurt_number.ensures, c.event_port.ensures, c.event_byte.ensures, c.in-Step.is) (step-unpacked c.in-Step.event c.in-Step.answer c.in-Step.meant c.in-Step.seen c.in-Step.hurt)
