use Rattle.std.proofs.Common.{refl}
use Rattle.ec_model.specs.Stored.{slot_count}
use Rattle.ec_examples.proofs.protection.lock_at_boot_is_set.Goals as goal

pub returns-clause-stored : goal.returns-clause-stored
unfolding slot_count
returns-clause-stored c = refl

pub returns-clause-bytes : goal.returns-clause-bytes
unfolding slot_count
returns-clause-bytes c = refl
