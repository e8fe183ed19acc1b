use Rattle.std.proofs.Common.{◌≡◌, ◌∙◌, ℕ, ap, sym, ◌/◌, arith, List, Bool}
use Rattle.std.proofs.lemmas.Grind.{common_steps}
use Rattle.flash_ctl.specs.Locks.{with_locked}
use Rattle.flash_protect.specs.Locking.{locks_of}
use Rattle.flash_protect.proofs.LockingLemmas.{all-over, flags-give}
use Rattle.flash_protect.proofs.protect.Protect.grow.Goals as goal

pub returns-then-self-3-clause-locks : goal.returns-then-self-3-clause-locks
returns-then-self-3-clause-locks g c =
    let size : c.size-size.result ≡ c.args.ctl.now.device.extent = c.size-size.ensures.size ∙ c.geometry.ensures.size in
    record {
      locks = c.lock.ensures.locks
          ∙ ap (λ (locks : List Bool). with_locked 0 (c.size-size.result / 4096) locks) c.requires.locks
          ∙ ap (λ (n : ℕ). with_locked 0 (n / 4096) (locks_of c.args.ctl.now.device.extent c.args.self.now.ro_now c.args.self.now.all_now)) size
          ∙ all-over c.args.ctl.now.device.extent c.args.self.now.ro_now c.args.self.now.all_now
          ∙ sym (flags-give c.args.ctl.now.device.extent c.if-ro.self c.if-self-2.self c.if-self-3.true)
          ∙ ap (λ (n : ℕ). locks_of n c.if-ro.self c.if-self-2.self) (sym (ap (λ (d : _). d.extent) c.lock.ensures.device));
      all_with_ro = grind (arith, common_steps);
    }
