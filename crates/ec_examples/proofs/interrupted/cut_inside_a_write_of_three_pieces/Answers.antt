use Rattle.std.proofs.Common.{refl, replicate}
use Rattle.ec_model.specs.Operations.{Program}
use Rattle.ec_examples.specs.Waiting.{torn_in_the_second}
use Rattle.ec_examples.proofs.interrupted.cut_inside_a_write_of_three_pieces.Goals as goal

pub returns-clause-cut : goal.returns-clause-cut
returns-clause-cut c = record { place = 1; flash = torn_in_the_second; stops = record { stopped = Program 0x8040 (replicate 64 2); is_there = refl; torn = record { same_length = refl; before = refl; after = refl } }; leaves = refl }
