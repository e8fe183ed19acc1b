use Rattle.ec_core.proofs.TaskLemmas.{pinned-down}
use Rattle.ec_core.proofs.BootLemmas.{booted-down}
use Rattle.ec_core.proofs.carry.carry_down.Goals as goal

pub returns-in-Boot : goal.returns-in-Boot
returns-in-Boot g c = λ event old_bus answer taken.
    rw c.booted.ensures.restarted
    (booted-down {F = g.row.F.Denot} g.B.Bus.bus event c.in-Boot.cause c.booted.result.hurt answer old_bus (g.B.Bus.state c.booted.new.bus) c.args.off c.args.pin c.power_on.result c.booted.result.held c.booted.ensures.bus
    c.booted.ensures.hurt c.booted.ensures.held (rw c.in-Boot.is at taken) c.power_on.ensures.looked c.power_on.ensures.booted c.power_on.ensures.pin)

pub returns-in-SetPin : goal.returns-in-SetPin
returns-in-SetPin g c = λ event old_bus answer taken.
    pinned-down {F = g.row.F.Denot} g.B.Bus.bus event c.in-SetPin.on answer old_bus (g.B.Bus.state c.args.bus.now) c.args.off c.args.pin (rw c.in-SetPin.is at taken)
