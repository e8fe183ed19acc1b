use Rattle.std.proofs.Common.{refl, [], ◌∷◌}
use Rattle.ec_model.specs.Operations.{Program}
use Rattle.ec_examples.proofs.interrupted.cut_inside_the_stored_bits.Goals as goal

pub returns-clause-both : goal.returns-clause-both
returns-clause-both c = record { stopped = Program 0x7000 (0x50 ∷ 0x53 ∷ 0x54 ∷ 0x32 ∷ 0 ∷ 0 ∷ 0 ∷ 0 ∷ []); is_there = refl; torn = record { same_length = refl; before = refl; after = refl } }

pub returns-clause-none : goal.returns-clause-none
returns-clause-none c = record { stopped = Program 0x7000 (0x50 ∷ 0x53 ∷ 0x54 ∷ 0x32 ∷ 0 ∷ 0 ∷ 0 ∷ 0 ∷ []); is_there = refl; torn = record { same_length = refl; before = refl; after = refl } }
