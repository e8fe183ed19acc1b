use Rattle.ec_examples.proofs.ImageLemmas.{padded-size, padded-full}
use Rattle.ec_examples.proofs.images.padded_images.Goals as goal

pub returns-clause-size : goal.returns-clause-size
returns-clause-size c = padded-size

pub returns-clause-full : goal.returns-clause-full
returns-clause-full c = padded-full
