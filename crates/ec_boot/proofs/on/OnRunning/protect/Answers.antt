use Rattle.std.proofs.Common.{ap}
use Rattle.ec_boot.specs.States.{RunView}
use Rattle.ec_boot.specs.Shared.{run_by}
use Rattle.ec_boot.proofs.ProtectLemmas.{protect-told, protect-on, with_protect}
use Rattle.ec_boot.proofs.KeepLemmas.{protect-guard}
use Rattle.ec_boot.proofs.on.OnRunning.protect.Goals as goal

pub invariant_of-self : goal.invariant_of-self
invariant_of-self g c =
    protect-on c.args.mask c.args.flags c.self.inside.ctl c.set-range.new.ctl c.self.inside.pin c.self.inside.lasting c.self.inside.hash c.touch_some.new.hash c.set-range.new.self c.set-range.result.0 c.set-range.result.1
    c.self.invariant (rw (ap (λ (run : RunView). run.live.erase) c.self.view_is) c.requires) c.geometry-size.ensures.whole c.set-range.ensures.spent.extent c.set-range.ensures.locks c.touch_some.ensures c.set-range.ensures.told

pub returns-clause-told : goal.returns-clause-told
returns-clause-told g c =
    rw (← c.self.view_is)
    (protect-told c.args.mask c.args.flags c.self.inside.ctl c.set-range.new.ctl c.self.inside.pin c.self.inside.lasting c.self.inside.hash c.touch_some.new.hash c.set-range.new.self c.set-range.result.0 c.set-range.result.1
    c.set-range.ensures.grows.bad c.self.invariant c.geometry-size.ensures.whole c.touch_some.ensures c.set-range.ensures.told)

pub returns-clause-guard : goal.returns-clause-guard
returns-clause-guard g c =
    rw (← c.self.view_is)
    (protect-guard c.geometry-size.result c.args.mask c.args.flags (run_by c.self.inside.ctl c.self.inside.pin c.self.inside.lasting c.self.inside.hash)
    (run_by c.set-range.new.ctl c.self.inside.pin (with_protect c.set-range.new.self c.self.inside.lasting) c.touch_some.new.hash) c.set-range.result.1
    c.geometry-size.ensures.allowed (rw c.geometry-size.ensures.size c.geometry-size.ensures.whole)
    (protect-told c.args.mask c.args.flags c.self.inside.ctl c.set-range.new.ctl c.self.inside.pin c.self.inside.lasting c.self.inside.hash c.touch_some.new.hash c.set-range.new.self c.set-range.result.0 c.set-range.result.1
    c.set-range.ensures.grows.bad c.self.invariant c.geometry-size.ensures.whole c.touch_some.ensures c.set-range.ensures.told))
