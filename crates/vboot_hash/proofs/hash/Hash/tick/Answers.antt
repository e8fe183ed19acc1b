use Rattle.std.proofs.Common.{ℕ, ◌-◌, ◌*◌, refl, ap, rules}
use Rattle.vboot_hash.specs.Hashing.{HashState}
use Rattle.vboot_hash.proofs.Standing.{tick-stands}
use Rattle.vboot_hash.proofs.hash.Hash.tick.Goals as goal

pub returns-in-Ok-clause-stands : goal.returns-in-Ok-clause-stands
returns-in-Ok-clause-stands g c =
    let old : HashState = record { shown = c.self.inside.shown; nonce = c.self.inside.nonce.items; running = c.self.inside.running } in
    let middle : HashState = record { shown = c.self.inside.shown; nonce = c.self.inside.nonce.items; running = c.update.new.self } in
    let done : ℕ = 1024 * (c.ticks.result - c.in-Busy.left) in
    rw (← c.self.view_is)
    (tick-stands c.args.ctl.now.device.held c.in-Busy.at c.in-Busy.size c.in-Busy.left done c.min.result old middle c.advance.new.self c.read.new.out c.in-Busy.is c.self.invariant
    (ap (λ (n : ℕ). 1024 * (n - c.in-Busy.left)) c.ticks.ensures) (search rules) (search rules) refl refl (λ message holds. c.update.ensures message holds) c.advance.ensures.ticked c.advance.ensures.done c.advance.ensures.running)
