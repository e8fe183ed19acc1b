use Rattle.std.proofs.Common.{◌*◌, ◌+◌, ◌-◌, arith}
use Rattle.flash_dev.proofs.Overwriting.{put_mid-filled, torn-put_mid}
use Rattle.flash_dev.proofs.memory.erase_block.Goals as goal

pub returns-clause-made : goal.returns-clause-made
returns-clause-made c = put_mid-filled (c.args.block * 4096) (c.args.block * 4096 + 4096 - c.args.block * 4096) _ 4096 255 c.args.held.now c.fill.new.self (c.fill.ensures.after (λ y same. same)) (omega arith) (omega arith)

pub returns-clause-outside : goal.returns-clause-outside
returns-clause-outside c = torn-put_mid (c.args.block * 4096) 4096 (c.args.block * 4096 + 4096 - c.args.block * 4096) c.args.held.now c.fill.new.self (omega (arith, c.fill.auto.self)) (omega arith) (omega arith)
