use Rattle.ecbench.proofs.Adding.{sync-stopped}
use Rattle.ecbench.proofs.syncing.serve_sync.Goals as goal

pub returns-in_err-run-clause-serves : goal.returns-in_err-run-clause-serves
returns-in_err-run-clause-serves g c =
    sync-stopped c.from_residual-in_err-run.result c.in_err-run.field-0.0 _ c.args.number c.args.name.now _ _ _ _ _ c.from_residual-in_err-run.ensures c.in_ok-begin.ensures.begins c.in_err-run.ensures.runs

pub returns-clause-serves : goal.returns-clause-serves
returns-clause-serves g c =
    let (words, synced, said) = c.in_ok-run.ensures.runs in
    (words, record { marked = _; marks = c.in_ok-begin.ensures.begins; synced = synced }, said)
