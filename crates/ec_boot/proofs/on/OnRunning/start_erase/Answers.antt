use Rattle.std.proofs.Common.{refl, Some}
use Rattle.ec_boot.specs.Shared.{run_by}
use Rattle.ec_boot.proofs.KeepLemmas.{guard-kept}
use Rattle.ec_boot.proofs.on.OnRunning.start_erase.Goals as goal

pub returns-clause-guard : goal.returns-clause-guard
returns-clause-guard g c =
    rw (← c.self.view_is)
    (guard-kept (run_by c.self.inside.ctl c.self.inside.pin c.self.inside.lasting c.self.inside.hash)
    (run_by c.self.inside.ctl c.self.inside.pin (record c.self.inside.lasting { erase = Some (record { next = c.args.first; left = c.args.count }); saved = 9 }) c.self.inside.hash) refl refl refl)
