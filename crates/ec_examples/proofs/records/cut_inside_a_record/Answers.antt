use Rattle.std.proofs.Common.{refl, [], ◌∷◌}
use Rattle.ec_model.specs.Operations.{Program}
use Rattle.ec_model.specs.Stored.{slot_count}
use Rattle.ec_examples.proofs.records.cut_inside_a_record.Goals as goal

pub returns-clause-word : goal.returns-clause-word
unfolding slot_count
returns-clause-word c = record { stopped = Program 0x7010 (0x41 ∷ 0 ∷ 0 ∷ 0 ∷ []); is_there = refl; torn = record { same_length = refl; before = refl; after = refl } }

pub returns-clause-between : goal.returns-clause-between
unfolding slot_count
returns-clause-between c = record { stopped = Program 0x7014 (0 ∷ 0 ∷ 0 ∷ 0 ∷ []); is_there = refl; torn = record { same_length = refl; before = refl; after = refl } }

pub returns-clause-gate : goal.returns-clause-gate
unfolding slot_count
returns-clause-gate c = record { stopped = Program 0x7014 (0 ∷ 0 ∷ 0 ∷ 0 ∷ []); is_there = refl; torn = record { same_length = refl; before = refl; after = refl } }
