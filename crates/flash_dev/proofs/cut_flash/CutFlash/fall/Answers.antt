use Rattle.std.proofs.Common.{refl, arith, Ok, Err}
use Rattle.flash_dev.specs.declared.device.Failed.{Failed}
use Rattle.flash_dev.specs.CutFlash.{CutState, cut_state}
use Rattle.flash_dev.proofs.CutLemmas.{cut-change}
use Rattle.flash_dev.proofs.cut_flash.CutFlash.fall.Goals as goal

pub returns-in-Ok : goal.returns-in-Ok
returns-in-Ok g c = λ operation range.
    let old : CutState = cut_state g.F.FlashDev.seen c.args.self.now in
    let new : CutState = record { inner = g.F.FlashDev.seen c.tear.new.flash; left = 0; torn = old.torn; clean = c.saturating_add-self.result; failed = old.failed } in
    cut-change {U = Unit {0}} {E = Failed} operation c.args.at c.args.size old new (Ok c.in-Ok.field-0) range c.requires.due refl
    (rw (← c.as_slice.ensures.value) c.in-Ok.ensures) (c.saturating_add-self.ensures, refl) (omega arith)

pub returns-in-Err : goal.returns-in-Err
returns-in-Err g c = λ operation range.
    let old : CutState = cut_state g.F.FlashDev.seen c.args.self.now in
    let new : CutState = record { inner = g.F.FlashDev.seen c.tear.new.flash; left = 0; torn = old.torn; clean = old.clean; failed = c.saturating_add-self-in-Err.result } in
    cut-change {U = Unit {0}} {E = Failed} operation c.args.at c.args.size old new (Err c.in-Err.field-0) range c.requires.due refl
    (rw (← c.as_slice.ensures.value) c.in-Err.ensures) (refl, c.saturating_add-self-in-Err.ensures) (omega arith)
