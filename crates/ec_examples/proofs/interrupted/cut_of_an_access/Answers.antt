use Rattle.std.proofs.Common.{refl, [], ◌∷◌, replicate}
use Rattle.flash_dev.specs.Flash.{overwritten}
use Rattle.ec_model.specs.Operations.{Program}
use Rattle.ec_examples.specs.Flashes.{e64}
use Rattle.ec_examples.proofs.interrupted.cut_of_an_access.Goals as goal

pub returns : goal.returns
returns c = record { place = 0; flash = overwritten 0x8000 (0xA5 ∷ []) e64; stops = record { stopped = Program 0x8000 (replicate 4 0); is_there = refl; torn = record { same_length = refl; before = refl; after = refl } }; leaves = refl }
