use Rattle.std.proofs.Common.{refl}
use Rattle.flash_dev.specs.Operations.{Program}
use Rattle.flash_dev.proofs.cut_flash.CutFlashFlashDev.program.Goals as goal

pub returns-then-self-eq1 : goal.returns-then-self-eq1
returns-then-self-eq1 g c = c.fall.ensures (Program c.args.at c.args.bytes.now) refl
