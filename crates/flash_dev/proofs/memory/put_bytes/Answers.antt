use Rattle.std.proofs.Common.{◌+◌, ◌-◌, arith, length}
use Rattle.flash_dev.proofs.Overwriting.{torn-put_mid}
use Rattle.flash_dev.proofs.memory.put_bytes.Goals as goal

pub returns-clause-outside : goal.returns-clause-outside
returns-clause-outside c = torn-put_mid c.args.at (length c.args.bytes.now) (c.args.at + length c.args.bytes.now - c.args.at) c.args.held.now c.copy_from_slice.new.self (omega (arith, c.copy_from_slice.ensures.len)) (omega arith) (omega arith)
