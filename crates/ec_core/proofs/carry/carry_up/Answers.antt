use Rattle.ec_core.proofs.BootLemmas.{booted-up}
use Rattle.ec_core.proofs.carry.carry_up.Goals as goal

pub returns-in-Boot : goal.returns-in-Boot
returns-in-Boot g c = λ event old_bus answer taken.
    rw c.booted.ensures.restarted
    (booted-up {F = g.row.F.Denot} g.B.Bus.bus event c.in-Boot.cause c.booted.result.hurt answer old_bus (g.B.Bus.state c.args.bus.now) (g.B.Bus.state c.booted.new.bus) c.args.on c.reset.result c.booted.result.held (g.met.B.Bus.own c.args.bus.now) c.booted.ensures.bus
    c.booted.ensures.hurt c.booted.ensures.held (rw c.in-Boot.is at taken) c.reset.ensures.looked c.reset.ensures.booted c.reset.ensures.pin)
