use Rattle.ec_core.proofs.TaskLemmas.{stepped-rest, can-carry}
use Rattle.ec_core.proofs.step.step_held.Goals as goal

pub carry_out-end-requires-clause-task : goal.carry_out-end-requires-clause-task
carry_out-end-requires-clause-task g c =
    can-carry {F = g.row.F.Denot} c.args.event (g.B.Bus.state c.args.bus.now) (g.B.Bus.state c.take-task.new.bus) c.in-Some.task c.take-task.result.answer c.args.held.now (rw c.in-Some.is at c.take-task.ensures)

pub returns-in-None : goal.returns-in-None
returns-in-None g c =
    stepped-rest {F = g.row.F.Denot} g.B.Bus.bus c.args.event c.take-task.result.answer (g.B.Bus.state c.args.bus.now) (g.B.Bus.state c.take-task.new.bus) c.args.held.now (rw c.in-None.is at c.take-task.ensures)

pub returns-in-Some : goal.returns-in-Some
returns-in-Some g c =
    rw c.answer_of-answer.ensures
    (c.carry_out-end.ensures c.args.event (g.B.Bus.state c.args.bus.now) c.take-task.result.answer (rw c.in-Some.is at c.take-task.ensures))
