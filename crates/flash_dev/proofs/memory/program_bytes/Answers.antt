use Rattle.std.proofs.Common.{◌+◌, ◌-◌, arith, length}
use Rattle.flash_dev.proofs.Overwriting.{torn-put_mid}
use Rattle.flash_dev.proofs.memory.program_bytes.Goals as goal

pub returns-clause-outside : goal.returns-clause-outside
returns-clause-outside c = torn-put_mid c.args.at (length c.args.bytes.now) (c.args.at + length c.args.bytes.now - c.args.at) c.args.held.now c.and_into.new.part (omega (arith, c.and_into.auto.part)) (omega arith) (omega arith)
