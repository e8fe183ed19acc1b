use Rattle.std.proofs.Common.{refl}
use Rattle.ec_examples.proofs.erases.erase_of_eight_blocks.Goals as goal

pub returns-clause-seven : goal.returns-clause-seven
returns-clause-seven c = refl
