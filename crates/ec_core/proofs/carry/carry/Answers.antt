use Rattle.ec_core.proofs.carry.carry.Goals as goal

pub returns-in-Up : goal.returns-in-Up
returns-in-Up g c = λ event old_bus answer taken. rw c.in-Up.is (c.carry_up.ensures event old_bus answer (rw c.in-Up.is at taken))

pub returns-in-Down : goal.returns-in-Down
returns-in-Down g c = λ event old_bus answer taken. rw c.in-Down.is (c.carry_down.ensures event old_bus answer (rw c.in-Down.is at taken))
