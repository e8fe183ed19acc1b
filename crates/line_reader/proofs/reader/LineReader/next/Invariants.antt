use Rattle.std.proofs.Common.{◌≡◌, ◌-◌, ◌≤◌, length}
use Rattle.line_reader.specs.Lines.{HasNoFeed}
use Rattle.line_reader.proofs.Reading.{Reading}
use Rattle.line_reader.proofs.reader.LineReader.next.Given as goal

abbrev pub invariant-loop-self : goal.invariant-loop-self
invariant-loop-self g l = record {
  reading : Reading l.fn.self l.self-inside.line.items l.self-inside.input (g.S.Source.left l.fn.source) (g.S.Source.left l.source) (g.S.Source.asks l.fn.source) (g.S.Source.asks l.source);
  patient : (HasNoFeed l.fn.self.ahead → ⊥) → l.source ≡ l.fn.source;
  later : g.S.Source.faults l.fn.source ≤ g.S.Source.faults l.source;
}

abbrev pub decreases-loop-self : goal.decreases-loop-self
decreases-loop-self g l = 16386 - length l.self-inside.line.items
