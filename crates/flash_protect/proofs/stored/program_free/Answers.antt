use Rattle.std.proofs.Common.{length}
use Rattle.flash_protect.proofs.StoringLemmas.{none-in-range}
use Rattle.flash_protect.proofs.stored.program_free.Goals as goal

pub program_free-requires-clause-free : goal.program_free-requires-clause-free
program_free-requires-clause-free g c = none-in-range c.args.at (length c.args.bytes.now) c.args.ctl.now.locks c.requires.free
