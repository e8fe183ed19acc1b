use Rattle.std.proofs.Common.{◌≡◌, ℕ, ◌-◌, ◌/◌, ap}
use Rattle.flash_dev.specs.Flash.{block_size}
use Rattle.flash_protect.proofs.StoringLemmas.{stored-told, place-told}
use Rattle.flash_protect.proofs.stored.find.Goals as goal

pub returns-in-Ok-clause-bits : goal.returns-in-Ok-clause-bits
returns-in-Ok-clause-bits g c =
    let at_is : c.pstate-at.result.0 ≡ c.geometry.result / 2 - block_size = ap (λ (range : ℕ × ℕ). range.0) c.pstate-at.ensures in
    rw c.bits.ensures
    (stored-told c.args.ctl.now.device.held c.read.new.out c.geometry.result (rw c.geometry.ensures.size c.geometry.ensures.whole) (rw at_is at c.in-Ok.ensures.read.bytes))

pub returns-in-Ok-clause-place : goal.returns-in-Ok-clause-place
returns-in-Ok-clause-place g c =
    let at_is : c.pstate-at.result.0 ≡ c.geometry.result / 2 - block_size = ap (λ (range : ℕ × ℕ). range.0) c.pstate-at.ensures in
    rw (c.place.ensures.place, at_is)
    (place-told c.args.ctl.now.device.held c.read.new.out c.geometry.result (rw c.geometry.ensures.size c.geometry.ensures.whole) (rw at_is at c.in-Ok.ensures.read.bytes))
