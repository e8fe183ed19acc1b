use Rattle.ec_examples.proofs.ImageLemmas.{expected-size, expected-held, expected-shown}
use Rattle.ec_examples.proofs.images.expected_digests.Goals as goal

pub returns-clause-size : goal.returns-clause-size
returns-clause-size c = expected-size

pub returns-clause-held : goal.returns-clause-held
returns-clause-held c = expected-held

pub returns-clause-shown : goal.returns-clause-shown
returns-clause-shown c = expected-shown
