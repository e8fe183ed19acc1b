use Rattle.std.proofs.Common.{subst, [], ◌∷◌}
use Rattle.ec_model.specs.declared.event.WorldEvent.{WorldEvent}
use Rattle.bench_wire.specs.BenchView.{wire_view}
use Rattle.bench_wire.specs.Falling.{Falls}
use Rattle.bench_wire.proofs.Falling.{fallen-more}
use Rattle.bench_wire.proofs.bench.Bench.fall_each.Goals as goal

pub loop-armed-preserved : goal.loop-armed-preserved
loop-armed-preserved g c =
    fallen-more c.loop-armed.armed-index c.args.due.now c.armed-item.result _ _ _ c.loop-armed-test.true c.armed-item.is c.loop-armed.invariant
    (subst (λ (event : WorldEvent). Falls (event ∷ []) (wire_view g.B.Bus.bus c.loop-armed.self) (wire_view g.B.Bus.bus c.fall_one.new.self)) c.event.ensures c.fall_one.ensures)
