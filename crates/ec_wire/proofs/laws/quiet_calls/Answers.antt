use Rattle.ec_wire.proofs.Calm.{undisturbed, determined}
use Rattle.ec_wire.proofs.laws.quiet_calls.Goals as goal

pub returns-clause-undisturbed : goal.returns-clause-undisturbed
returns-clause-undisturbed c = undisturbed

pub returns-clause-determined : goal.returns-clause-determined
returns-clause-determined c = λ added old new grows calm. determined added grows.steps calm
