use Rattle.ec_model.proofs.RunLaws.{run-guards}
use Rattle.ec_model.proofs.laws.runs_guard_ro.Goals as goal

pub returns : goal.returns
returns c = run-guards
