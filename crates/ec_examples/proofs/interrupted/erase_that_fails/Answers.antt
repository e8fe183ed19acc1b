use Rattle.std.proofs.Common.{refl, [], ◌∷◌, inr}
use Rattle.flash_dev.specs.Flash.{overwritten}
use Rattle.ec_model.specs.Operations.{Erase}
use Rattle.ec_examples.specs.Flashes.{e64}
use Rattle.ec_examples.proofs.interrupted.erase_that_fails.Goals as goal

pub returns : goal.returns
returns c = inr (record { place = 0; flash = overwritten 0x8FFF (0x00 ∷ []) e64; stops = record { stopped = Erase 8; is_there = refl; torn = record { same_length = refl; before = refl; after = refl } }; leaves = refl })
