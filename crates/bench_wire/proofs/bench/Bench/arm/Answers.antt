use Rattle.std.proofs.Common.{◌≤◌, ◌-◌, sym, subst}
use Rattle.bench_wire.specs.Arming.{room_for}
use Rattle.bench_wire.specs.BenchView.{BenchView}
use Rattle.bench_wire.proofs.Arming.{behind-le, is-armed}
use Rattle.bench_wire.proofs.bench.Bench.arm.Goals as goal

pub invariant_of-self : goal.invariant_of-self
invariant_of-self g c =
    let inside = c.self.inside in
    let some : 1 ≤ inside.journal.spare - room_for inside.arms = subst (λ (bench : BenchView). 1 ≤ bench.spare) (sym c.self.view_is) c.requires.room in
    record { agrees = c.self.invariant.agrees; room = rw c.arm.ensures.armed (behind-le inside.arms c.args.n c.args.happened inside.journal.spare some) }

pub returns : goal.returns
returns g c =
    let inside = c.self.inside in
    rw (← c.self.view_is)
    (is-armed g.B.Bus.bus inside.ec inside.journal.entries inside.journal.spare c.args.n c.args.happened c.arm.result inside.arms c.arm.new.self c.arm.ensures.ok c.arm.ensures.armed)
