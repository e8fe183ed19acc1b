use Rattle.ec_boot.specs.Shared.{run_by}
use Rattle.ec_boot.proofs.KeepLemmas.{reset-guard}
use Rattle.ec_boot.proofs.on.On.reset.Goals as goal

pub returns-clause-guard : goal.returns-clause-guard
returns-clause-guard g c = rw (← c.self.view_is) (reset-guard c.args.cause c.boot.result.live.pstate_bad (run_by c.self.inside.ctl c.self.inside.pin c.self.inside.lasting c.self.inside.hash) c.boot.result c.boot.ensures.booted)
