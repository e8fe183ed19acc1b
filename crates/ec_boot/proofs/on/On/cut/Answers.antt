use Rattle.std.proofs.Common.{◌∙◌}
use Rattle.ec_boot.specs.Shared.{run_by}
use Rattle.ec_boot.proofs.KeepLemmas.{cut-guard}
use Rattle.ec_boot.proofs.on.On.cut.Goals as goal

pub returns-clause-guard : goal.returns-clause-guard
returns-clause-guard g c = rw (← c.self.view_is) (cut-guard (run_by c.self.inside.ctl c.self.inside.pin c.self.inside.lasting c.self.inside.hash) c.new.result (c.new.ensures ∙ c.into_flash.ensures))
