use Rattle.std.proofs.Common.{Ok, Err}
use Rattle.flash_dev.specs.declared.device.DevErr.TheVariants.{Failed as FailedErr}
use Rattle.ec_core.proofs.TickLemmas.{kept-ticked, kept-cut}
use Rattle.ec_core.proofs.tick.tick.Goals as goal

pub returns-in-Ok : goal.returns-in-Ok
returns-in-Ok g c = λ event old_bus answer taken.
    kept-ticked {F = g.row.F.Denot} {T = Unit {0}} g.B.Bus.bus event answer old_bus (g.B.Bus.state c.args.bus.now) c.args.held.now c.tick_held.new.held (Ok c.in-Ok.field-0) (λ cut. cc) c.in-Ok.ensures taken

pub returns-in-Err-Failed : goal.returns-in-Err-Failed
returns-in-Err-Failed g c = λ event old_bus answer taken.
    kept-ticked {F = g.row.F.Denot} {T = Unit {0}} g.B.Bus.bus event answer old_bus (g.B.Bus.state c.args.bus.now) c.args.held.now c.tick_held.new.held (Err FailedErr) (λ cut. cc)
    (rw c.in-Err-Failed.field-0-is at c.in-Err-Failed.ensures) taken

pub returns-in-Err-PowerLost : goal.returns-in-Err-PowerLost
returns-in-Err-PowerLost g c = λ event old_bus answer taken.
    rw (c.lose_power.ensures.held, c.lose_power.ensures.hurt, c.lose_power.ensures.restarted)
    (kept-cut {F = g.row.F.Denot} (Unit {0}) g.B.Bus.bus event answer old_bus (g.B.Bus.state c.args.bus.now) c.args.held.now c.tick_held.new.held (g.met.B.Bus.own c.args.bus.now)
    (rw c.in-Err-PowerLost.field-0-is at c.in-Err-PowerLost.ensures) taken)
