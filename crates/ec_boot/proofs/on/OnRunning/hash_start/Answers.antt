use Rattle.std.proofs.Common.{refl, ap}
use Rattle.ec_boot.specs.States.{RunView}
use Rattle.ec_boot.proofs.TickLemmas.{started-on}
use Rattle.ec_boot.specs.Shared.{run_by}
use Rattle.ec_boot.proofs.KeepLemmas.{guard-kept}
use Rattle.ec_boot.proofs.on.OnRunning.hash_start.Goals as goal

pub returns-clause-guard : goal.returns-clause-guard
returns-clause-guard g c =
    rw (← c.self.view_is)
    (guard-kept (run_by c.self.inside.ctl c.self.inside.pin c.self.inside.lasting c.self.inside.hash)
    (run_by c.self.inside.ctl c.self.inside.pin c.self.inside.lasting c.start.new.self) refl refl refl)

pub invariant_of-self : goal.invariant_of-self
invariant_of-self g c =
    started-on c.self.inside.ctl c.self.inside.pin c.self.inside.lasting c.self.inside.hash c.start.new.self c.args.at c.args.size c.args.nonce.now c.self.invariant c.requires.some
    (rw (ap (λ (run : RunView). run.device.extent) c.self.view_is) c.requires.inside) c.requires.short c.start.ensures.shown c.start.ensures.nonce c.start.ensures.stands
