use Rattle.std.proofs.Common.{refl}
use Rattle.ec_examples.proofs.records.change_of_version_1.Goals as goal

pub returns-clause-leaves : goal.returns-clause-leaves
returns-clause-leaves c = refl
