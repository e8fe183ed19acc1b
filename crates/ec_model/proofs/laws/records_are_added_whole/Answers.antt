use Rattle.ec_model.proofs.AppendLaws.{step-adds}
use Rattle.ec_model.proofs.laws.records_are_added_whole.Goals as goal

pub returns : goal.returns
returns c = λ old event answer meant seen hurt new valid step. step-adds old event answer meant seen hurt new valid step
