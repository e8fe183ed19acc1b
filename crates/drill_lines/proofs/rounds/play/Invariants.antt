use Rattle.std.proofs.Common.{◌≡◌, ◌≤◌}
use Rattle.bench_wire.specs.BenchView.{wire_view}
use Rattle.drill_lines.specs.Drilling.{DrillsRounds, behind_rounds}
use Rattle.drill_lines.proofs.rounds.play.Given as goal

abbrev pub invariant-loop-played : goal.invariant-loop-played
invariant-loop-played g l =
    DrillsRounds l.fn.geometry l.fn.generator l.played (wire_view g.B.Bus.bus l.fn.bench) (wire_view g.B.Bus.bus l.bench) l.counts.cuts l.counts.done
    × (l.generator ≡ behind_rounds l.played l.fn.generator) × (l.counts.cuts ≤ l.played) × (l.counts.done ≤ l.played)
