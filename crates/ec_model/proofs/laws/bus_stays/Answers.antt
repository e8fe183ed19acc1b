use Rattle.ec_model.proofs.StepLaws.{step-kind}
use Rattle.ec_model.proofs.RunLaws.{run-kind}
use Rattle.ec_model.proofs.laws.bus_stays.Goals as goal

pub returns-clause-step : goal.returns-clause-step
returns-clause-step c = step-kind

pub returns-clause-run : goal.returns-clause-run
returns-clause-run c = run-kind
