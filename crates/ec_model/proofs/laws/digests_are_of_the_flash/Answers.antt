use Rattle.ec_model.proofs.DigestLaws.{step-digests}
use Rattle.ec_model.proofs.laws.digests_are_of_the_flash.Goals as goal

pub returns : goal.returns
returns c = λ old entry new at size digest valid step. step-digests old entry new valid step at size digest
