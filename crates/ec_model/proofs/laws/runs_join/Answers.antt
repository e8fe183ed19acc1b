use Rattle.ec_model.proofs.RunLaws.{run-append, run-split}
use Rattle.ec_model.proofs.laws.runs_join.Goals as goal

pub returns-clause-joined : goal.returns-clause-joined
returns-clause-joined c = run-append

pub returns-clause-parted : goal.returns-clause-parted
returns-clause-parted c = run-split
