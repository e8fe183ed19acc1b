use Rattle.std.proofs.Common.{◌+◌, ◌-◌, arith, length}
use Rattle.flash_dev.proofs.Overwriting.{torn-put_mid}
use Rattle.bench_io.proofs.file_flash.write_through.Goals as goal

pub returns-in-Ok-clause-outside : goal.returns-in-Ok-clause-outside
returns-in-Ok-clause-outside g c = torn-put_mid c.args.at (length c.args.bytes.now) (c.args.at + length c.args.bytes.now - c.args.at) c.args.held.now c.copy_from_slice.new.self (omega (arith, c.copy_from_slice.auto.self)) (omega arith) (omega arith)

pub returns-in-Err-clause-outside : goal.returns-in-Err-clause-outside
returns-in-Err-clause-outside g c = torn-put_mid c.args.at (length c.args.bytes.now) (c.args.at + length c.args.bytes.now - c.args.at) c.args.held.now c.read_from.new.out (omega (arith, c.read_from.auto.out)) (omega arith) (omega arith)
