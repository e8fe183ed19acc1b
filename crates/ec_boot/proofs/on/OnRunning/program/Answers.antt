use Rattle.std.proofs.Common.{◌+◌, ◌≤◌, length, ap, arith}
use Rattle.flash_dev.specs.Operations.{Program}
use Rattle.ec_boot.specs.States.{RunView, IsOperated}
use Rattle.ec_boot.specs.Shared.{run_by}
use Rattle.ec_boot.proofs.OperatedLemmas.{operated, on-operated}
use Rattle.ec_boot.proofs.KeepLemmas.{change-guard}
use Rattle.ec_boot.proofs.on.OnRunning.program.Goals as goal

pub invariant_of-self : goal.invariant_of-self
invariant_of-self g c =
    on-operated (Program c.args.at c.args.bytes.now) c.self.inside.ctl c.program-result.new.self c.self.inside.pin c.self.inside.lasting c.self.inside.hash c.touch.new.hash c.program-result.result
    c.self.invariant c.program-result.ensures.change c.touch.ensures

pub returns-clause-change : goal.returns-clause-change
returns-clause-change g c =
    let inside : c.args.at + length c.args.bytes.now ≤ c.self.inside.ctl.device.extent = rw (ap (λ (run : RunView). run.device.extent) c.self.view_is) c.requires.inside in
    rw (← c.self.view_is)
    (operated (Program c.args.at c.args.bytes.now) c.self.inside.ctl c.program-result.new.self c.self.inside.pin c.self.inside.lasting c.self.inside.hash c.touch.new.hash c.program-result.result
    c.self.invariant (omega arith) inside c.program-result.ensures.change c.touch.ensures)

pub returns-clause-guard : goal.returns-clause-guard
returns-clause-guard g c =
    let inside : c.args.at + length c.args.bytes.now ≤ c.self.inside.ctl.device.extent = rw (ap (λ (run : RunView). run.device.extent) c.self.view_is) c.requires.inside in
    let old : RunView = run_by c.self.inside.ctl c.self.inside.pin c.self.inside.lasting c.self.inside.hash in
    let new : RunView = run_by c.program-result.new.self c.self.inside.pin c.self.inside.lasting c.touch.new.hash in
    let done : IsOperated (Program c.args.at c.args.bytes.now) old new c.program-result.result =
    operated (Program c.args.at c.args.bytes.now) c.self.inside.ctl c.program-result.new.self c.self.inside.pin c.self.inside.lasting c.self.inside.hash c.touch.new.hash c.program-result.result
    c.self.invariant (omega arith) inside c.program-result.ensures.change c.touch.ensures in
    rw (← c.self.view_is)
    (change-guard (Program c.args.at c.args.bytes.now) c.geometry-size.result old new c.program-result.result c.geometry-size.ensures.allowed c.geometry-size.ensures.size
    (rw c.geometry-size.ensures.size c.geometry-size.ensures.whole) (omega arith) done)
