use Rattle.bench_wire.proofs.ArmsLemmas.{Sorts}
use Rattle.bench_wire.proofs.arms.Arms.come_nearer.Given as goal

abbrev pub invariant-loop-armed : goal.invariant-loop-armed
invariant-loop-armed l = Sorts l.armed-items l.armed-index l.due.items l.still
