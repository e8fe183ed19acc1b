use Rattle.std.proofs.Common.{refl, [], ◌∷◌, replicate}
use Rattle.flash_dev.specs.Flash.{overwritten}
use Rattle.ec_model.specs.Operations.{Erase}
use Rattle.ec_examples.specs.Flashes.{e64}
use Rattle.ec_examples.proofs.interrupted.erase_that_is_cut.Goals as goal

pub returns-clause-cut : goal.returns-clause-cut
returns-clause-cut c = record { place = 0; flash = overwritten 0x8FFF (0x00 ∷ []) (overwritten 0x9000 (replicate 16 0) e64); stops = record { stopped = Erase 8; is_there = refl; torn = record { same_length = refl; before = refl; after = refl } }; leaves = refl }

pub returns-clause-behind : goal.returns-clause-behind
returns-clause-behind c = refl
