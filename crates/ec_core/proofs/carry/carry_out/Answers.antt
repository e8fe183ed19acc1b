use Rattle.ec_core.proofs.carry.carry_out.Goals as goal

pub returns-in-Serve : goal.returns-in-Serve
returns-in-Serve g c = λ event old_bus answer taken. c.serve.ensures event old_bus answer (rw c.in-Serve.is at taken)

pub returns-in-Tick : goal.returns-in-Tick
returns-in-Tick g c = λ event old_bus answer taken. c.tick.ensures event old_bus answer (rw c.in-Tick.is at taken)

pub returns-in-Some : goal.returns-in-Some
returns-in-Some g c = λ event old_bus answer taken.
    rw (← c.in-Some.ensures.value, c.put.ensures.held, c.put.ensures.hurt, c.put.ensures.restarted)
    (c.carry.ensures event old_bus answer (rw (← c.in-Some.ensures.value) at taken))
