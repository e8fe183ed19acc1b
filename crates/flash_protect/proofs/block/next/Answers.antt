use Rattle.std.proofs.Common.{◌≡◌, ◌∙◌, ℕ, ap, arith}
use Rattle.ec_model.specs.Stored.{slot_count, next_among}
use Rattle.ec_model.proofs.StoredLemmas.{slots_end}
use Rattle.flash_protect.proofs.block.next.Goals as goal

pub returns : goal.returns
returns c =
    let all : c.loop-i.i ≡ slot_count = omega (arith, c.loop-i-test.false, c.loop-i.auto.i-end, slots_end) in
    c.loop-i.invariant ∙ ap (λ (n : ℕ). next_among n c.args.bytes.now) all
