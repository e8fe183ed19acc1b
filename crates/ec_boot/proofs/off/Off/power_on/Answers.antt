use Rattle.ec_types.specs.declared.reset.ResetCause.TheVariants.{PowerOn}
use Rattle.ec_boot.proofs.KeepLemmas.{power-guard}
use Rattle.ec_boot.proofs.off.Off.power_on.Goals as goal

pub returns-clause-guard : goal.returns-clause-guard
returns-clause-guard g c = rw (← c.self.view_is)
    (power-guard PowerOn c.boot.result.live.pstate_bad c.args.pin (g.F.FlashDev.seen c.self.inside.flash).held c.boot.result (rw c.new.ensures.device at c.boot.ensures.booted))
