use Rattle.std.proofs.Common.{ap}
use Rattle.flash_dev.specs.CutFlash.{cut_device, cut_state}
use Rattle.ec_wire.specs.Journals.{JournalView}
use Rattle.ecbench.proofs.Powering.{opens}
use Rattle.ecbench.proofs.Whole.{hands-back, run-carries}
use Rattle.ecbench.proofs.run.carry_on.Goals as goal

pub returns-clause-carries : goal.returns-clause-carries
returns-clause-carries g c =
    run-carries c.args.geometry g.B.Bus.bus c.args.pin c.drive-exit.result (g.F.FlashDev.seen c.args.flash) (g.F.FlashDev.seen c.into_inner.result) c.new-bench.result c.drive-exit.new.bench _ _ _ _ _ (g.met.F.FlashDev.told_whole c.args.flash) c.requires.allowed
    (opens g.B.Bus.bus c.args.pin (g.F.FlashDev.seen c.args.flash) _ _ _ c.new-bench.ensures c.new-ec.ensures.off c.new-ec.ensures.table c.new-ec.ensures.device (ap cut_device c.new.ensures))
    (hands-back g.B.Bus.bus c.drive-exit.new.bench (g.F.FlashDev.seen c.into_inner.result) (cut_state g.F.FlashDev.seen c.finish-flash.result.0) c.into_inner.ensures c.finish-flash.ensures.flash c.finish-flash.ensures.table)
    (ap (λ (journal : JournalView). journal.entries) c.finish-flash.ensures.journal) c.requires.size c.drive-exit.ensures.drives
