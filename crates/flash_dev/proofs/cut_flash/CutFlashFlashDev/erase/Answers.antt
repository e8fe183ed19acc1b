use Rattle.std.proofs.Common.{refl}
use Rattle.flash_dev.specs.Operations.{Erase}
use Rattle.flash_dev.proofs.cut_flash.CutFlashFlashDev.erase.Goals as goal

pub returns-then-self-eq1 : goal.returns-then-self-eq1
returns-then-self-eq1 g c = c.fall.ensures (Erase c.args.block) refl
