use Rattle.ec_model.proofs.PlayRuns.{calls-run, calls-append, calls-split}
use Rattle.ec_model.proofs.laws.calls_are_a_run.Goals as goal

pub returns-clause-run : goal.returns-clause-run
returns-clause-run c = calls-run

pub returns-clause-joined : goal.returns-clause-joined
returns-clause-joined c = calls-append

pub returns-clause-parted : goal.returns-clause-parted
returns-clause-parted c = calls-split
