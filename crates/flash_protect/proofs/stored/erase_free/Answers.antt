use Rattle.std.proofs.Common.{◌*◌}
use Rattle.flash_protect.proofs.StoringLemmas.{none-in-range}
use Rattle.flash_protect.proofs.stored.erase_free.Goals as goal

pub erase_free-requires-clause-free : goal.erase_free-requires-clause-free
erase_free-requires-clause-free g c = none-in-range (c.args.block * 4096) 4096 c.args.ctl.now.locks c.requires.free
