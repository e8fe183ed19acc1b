use Rattle.bench_wire.specs.BenchView.{wire_view}
use Rattle.bench_wire.proofs.Falling.{HasFallen}
use Rattle.bench_wire.proofs.bench.Bench.fall_each.Given as goal

abbrev pub invariant-loop-armed : goal.invariant-loop-armed
invariant-loop-armed g l = HasFallen l.armed-index l.due (wire_view g.B.Bus.bus l.fn.self) (wire_view g.B.Bus.bus l.self)
