use Rattle.std.proofs.Common.{refl}
use Rattle.ec_boot.specs.Shared.{run_by}
use Rattle.ec_boot.proofs.KeepLemmas.{guard-kept}
use Rattle.ec_boot.proofs.on.OnRunning.read.Goals as goal

pub returns-clause-guard : goal.returns-clause-guard
returns-clause-guard g c =
    rw (← c.self.view_is)
    (guard-kept (run_by c.self.inside.ctl c.self.inside.pin c.self.inside.lasting c.self.inside.hash)
    (run_by c.read.new.self c.self.inside.pin c.self.inside.lasting c.self.inside.hash) c.read.ensures.read.kept refl refl)
