use Rattle.std.proofs.Common.{sym, refl}
use Rattle.ec_boot.specs.Shared.{run_by}
use Rattle.ec_boot.proofs.KeepLemmas.{guard-kept}
use Rattle.ec_boot.proofs.TickLemmas.{hash-told, hash-on}
use Rattle.ec_boot.proofs.on.On.hash_next.Goals as goal

pub invariant_of-self : goal.invariant_of-self
invariant_of-self g c =
    hash-on c.in-Busy.at c.in-Busy.size c.in-Busy.left c.self.inside.ctl c.tick.new.ctl c.self.inside.pin c.self.inside.lasting c.self.inside.hash c.tick.new.self c.tick.result c.self.invariant (sym c.in-Busy.ensures.shown) c.tick.ensures.ticked c.tick.ensures.failed
    c.tick.ensures.stands c.tick.ensures.read c.tick.ensures.locks

pub returns-in-Busy-clause-told : goal.returns-in-Busy-clause-told
returns-in-Busy-clause-told g c =
    rw (← c.self.view_is)
    (rw c.device_result.ensures
    (hash-told c.in-Busy.at c.in-Busy.size c.in-Busy.left c.self.inside.ctl c.tick.new.ctl c.self.inside.pin c.self.inside.lasting c.self.inside.hash c.tick.new.self c.tick.result (sym c.in-Busy.ensures.shown) c.tick.ensures.ticked c.tick.ensures.failed
    c.self.invariant.meant c.tick.ensures.stands c.tick.ensures.read))

pub returns-in-Busy-clause-guard : goal.returns-in-Busy-clause-guard
returns-in-Busy-clause-guard g c =
    rw (← c.self.view_is)
    (guard-kept (run_by c.self.inside.ctl c.self.inside.pin c.self.inside.lasting c.self.inside.hash)
    (run_by c.tick.new.ctl c.self.inside.pin c.self.inside.lasting c.tick.new.self) c.tick.ensures.read.kept refl refl)
