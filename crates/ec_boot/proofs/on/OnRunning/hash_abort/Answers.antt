use Rattle.std.proofs.Common.{refl}
use Rattle.ec_boot.specs.Shared.{run_by}
use Rattle.ec_boot.proofs.KeepLemmas.{guard-kept}
use Rattle.ec_boot.proofs.on.OnRunning.hash_abort.Goals as goal

pub returns-clause-guard : goal.returns-clause-guard
returns-clause-guard g c =
    rw (← c.self.view_is)
    (guard-kept (run_by c.self.inside.ctl c.self.inside.pin c.self.inside.lasting c.self.inside.hash)
    (run_by c.self.inside.ctl c.self.inside.pin c.self.inside.lasting c.abort.new.self) refl refl refl)
