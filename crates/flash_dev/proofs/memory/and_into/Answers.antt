use Rattle.std.proofs.Common.{◌≡◌, ◌∙◌, ℕ, suc, ◌+◌, List, ap, set, get_or, arith}
use Rattle.std.specs.Prelude.{bit_and}
use Rattle.flash_dev.proofs.Programming.{programmed_first, program-more}
use Rattle.flash_dev.proofs.memory.and_into.Goals as goal

pub loop-i-preserved : goal.loop-i-preserved
loop-i-preserved c =
    let i = c.loop-i.i in
    let old = c.args.part.now in
    let new = c.args.bytes.now in
    let next : suc i ≡ i + 1 = omega arith in
    ap (λ (part : List ℕ). set part i (bit_and (get_or part i 0) (get_or new i 0))) c.loop-i.invariant
    ∙ program-more i old new (omega (arith, c.loop-i-test.true, c.requires)) c.loop-i-test.true
    ∙ ap (λ (n : ℕ). programmed_first n old new) next
