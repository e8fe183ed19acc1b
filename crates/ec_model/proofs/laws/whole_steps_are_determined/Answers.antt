use Rattle.ec_model.proofs.StepLaws.{step-stepped, stepped-step}
use Rattle.ec_model.proofs.RunLaws.{run-determined}
use Rattle.ec_model.proofs.laws.whole_steps_are_determined.Goals as goal

pub returns-clause-step : goal.returns-clause-step
returns-clause-step c = λ old event answer meant seen new. (step-stepped old event answer meant seen new, stepped-step old event answer meant seen new)

pub returns-clause-run : goal.returns-clause-run
returns-clause-run c = run-determined
