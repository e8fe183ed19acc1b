use Rattle.std.proofs.Common.{rules, ◌*◌}
use Rattle.flash_ctl.proofs.LockLaws.{has-locked}
use Rattle.flash_ctl.proofs.Ctl.erase_block.Goals as goal

pub returns-then-any-clause-locked : goal.returns-then-any-clause-locked
returns-then-any-clause-locked g c = has-locked (c.args.block * 4096) 4096 c.args.self.now.locks (search rules)
