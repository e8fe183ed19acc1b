use Rattle.std.proofs.Common.{refl, replicate, inr}
use Rattle.ec_model.specs.Operations.{Program}
use Rattle.ec_examples.specs.Waiting.{torn_in_the_second}
use Rattle.ec_examples.proofs.interrupted.failure_inside_a_write_of_three_pieces.Goals as goal

pub returns : goal.returns
returns c = inr (record { place = 1; flash = torn_in_the_second; stops = record { stopped = Program 0x8040 (replicate 64 2); is_there = refl; torn = record { same_length = refl; before = refl; after = refl } }; leaves = refl })
