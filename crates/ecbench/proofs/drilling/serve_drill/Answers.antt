use Rattle.ecbench.proofs.Adding.{drill-stopped}
use Rattle.ecbench.proofs.drilling.serve_drill.Goals as goal

pub returns-in_err-run-clause-serves : goal.returns-in_err-run-clause-serves
returns-in_err-run-clause-serves g c =
    drill-stopped c.from_residual-in_err-run.result c.in_err-run.field-0.0 _ c.args.number c.args.drill.x c.args.drill.rounds _ _ _ _ _ c.from_residual-in_err-run.ensures c.in_ok-begin.ensures.begins c.in_err-run.ensures.runs

pub returns-clause-serves : goal.returns-clause-serves
returns-clause-serves g c =
    let (words, drill, said) = c.in_ok-run.ensures.runs in
    (words, record { marked = _; marks = c.in_ok-begin.ensures.begins; drill = drill }, said)
