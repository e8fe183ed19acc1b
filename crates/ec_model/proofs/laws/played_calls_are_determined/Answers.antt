use Rattle.ec_model.proofs.PlaySame.{calls-same}
use Rattle.ec_model.proofs.laws.played_calls_are_determined.Goals as goal

pub returns : goal.returns
returns c = calls-same
