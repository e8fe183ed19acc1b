use Rattle.std.proofs.Common.{◌+◌, ◌*◌, ◌≤◌, ap, arith}
use Rattle.flash_dev.specs.Flash.{block_size}
use Rattle.flash_dev.specs.Operations.{Erase}
use Rattle.ec_boot.specs.States.{RunView, IsOperated}
use Rattle.ec_boot.specs.Shared.{run_by}
use Rattle.ec_boot.proofs.OperatedLemmas.{operated, on-operated}
use Rattle.ec_boot.proofs.KeepLemmas.{change-guard}
use Rattle.ec_boot.proofs.on.OnRunning.erase_block.Goals as goal

pub invariant_of-self : goal.invariant_of-self
invariant_of-self g c =
    on-operated (Erase c.args.block) c.self.inside.ctl c.erase_block-result.new.self c.self.inside.pin c.self.inside.lasting c.self.inside.hash c.touch.new.hash c.erase_block-result.result
    c.self.invariant c.erase_block-result.ensures.change c.touch.ensures

pub returns-clause-change : goal.returns-clause-change
returns-clause-change g c =
    let inside : c.args.block * block_size + block_size ≤ c.self.inside.ctl.device.extent = rw (ap (λ (run : RunView). run.device.extent) c.self.view_is) c.requires in
    rw (← c.self.view_is)
    (operated (Erase c.args.block) c.self.inside.ctl c.erase_block-result.new.self c.self.inside.pin c.self.inside.lasting c.self.inside.hash c.touch.new.hash c.erase_block-result.result
    c.self.invariant (omega arith) inside c.erase_block-result.ensures.change c.touch.ensures)

pub returns-clause-guard : goal.returns-clause-guard
returns-clause-guard g c =
    let inside : c.args.block * block_size + block_size ≤ c.self.inside.ctl.device.extent = rw (ap (λ (run : RunView). run.device.extent) c.self.view_is) c.requires in
    let old : RunView = run_by c.self.inside.ctl c.self.inside.pin c.self.inside.lasting c.self.inside.hash in
    let new : RunView = run_by c.erase_block-result.new.self c.self.inside.pin c.self.inside.lasting c.touch.new.hash in
    let done : IsOperated (Erase c.args.block) old new c.erase_block-result.result =
    operated (Erase c.args.block) c.self.inside.ctl c.erase_block-result.new.self c.self.inside.pin c.self.inside.lasting c.self.inside.hash c.touch.new.hash c.erase_block-result.result
    c.self.invariant (omega arith) inside c.erase_block-result.ensures.change c.touch.ensures in
    rw (← c.self.view_is)
    (change-guard (Erase c.args.block) c.geometry-size.result old new c.erase_block-result.result c.geometry-size.ensures.allowed c.geometry-size.ensures.size
    (rw c.geometry-size.ensures.size c.geometry-size.ensures.whole) (omega arith) done)
