use Rattle.ec_boot.proofs.JumpLemmas.{layout-told}
use Rattle.ec_boot.proofs.on.On.read_layout.Goals as goal

pub returns-in_ok-read-in-Ro-clause-told : goal.returns-in_ok-read-in-Ro-clause-told
returns-in_ok-read-in-Ro-clause-told g c =
    rw (← c.self.view_is)
    (layout-told c.self.inside.ctl.device.held c.read.new.out c.layout.result c.self.inside.lasting.copy c.in-Ro.is c.layout.ensures c.in_ok-read-in-Ro.ensures.read.bytes)
