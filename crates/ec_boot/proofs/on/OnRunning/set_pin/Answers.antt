use Rattle.std.proofs.Common.{refl}
use Rattle.ec_boot.specs.Shared.{run_by}
use Rattle.ec_boot.proofs.KeepLemmas.{pin-guard}
use Rattle.ec_boot.proofs.on.OnRunning.set_pin.Goals as goal

pub returns-clause-guard : goal.returns-clause-guard
returns-clause-guard g c = λ asserted.
    rw (← c.self.view_is)
    (pin-guard (run_by c.self.inside.ctl c.self.inside.pin c.self.inside.lasting c.self.inside.hash)
    (run_by c.self.inside.ctl c.args.on c.self.inside.lasting c.self.inside.hash) c.args.on asserted refl)
