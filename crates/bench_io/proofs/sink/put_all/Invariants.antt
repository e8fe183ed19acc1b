use Rattle.std.proofs.Common.{◌≡◌, ℕ, ◌≤◌, take, drop, length}
use Rattle.bench_io.proofs.Appending.{Appended}
use Rattle.bench_io.proofs.sink.put_all.Given as goal

abbrev pub invariant-loop-rest : goal.invariant-loop-rest
invariant-loop-rest g l =
    ((done : ℕ) × (done ≤ length l.bytes) × (l.rest ≡ drop done l.bytes) × Appended (take done l.bytes) (g.K.Sink.written l.fn.sink) (g.K.Sink.written l.sink))
    × (g.K.Sink.faults l.fn.sink ≤ g.K.Sink.faults l.sink)

abbrev pub decreases-loop-rest : goal.decreases-loop-rest
decreases-loop-rest g l = length l.rest
