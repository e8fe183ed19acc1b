use Rattle.std.proofs.Common.{◌≡◌, ◌≤◌}
use Rattle.bench_wire.specs.BenchView.{wire_view}
use Rattle.line_reader.specs.Lines.{most_bytes}
use Rattle.ecbench.proofs.ServedLemmas.{Served}
use Rattle.ecbench.proofs.serving.serve.Given as goal

abbrev pub invariant-loop-number : goal.invariant-loop-number
invariant-loop-number g l =
    Served (record { size = l.fn.setup.geometry; files = g.H.Shelf.files l.fn.shelf }) l.number l.since (wire_view g.B.Bus.bus l.fn.bench) (wire_view g.B.Bus.bus l.bench) l.reader (g.S.Source.left l.fn.source) (g.S.Source.left l.source) (g.K.Sink.written l.fn.sink) (g.K.Sink.written l.sink)
    × (l.reader.given ≤ most_bytes) × (g.S.Source.faults l.fn.source ≤ g.S.Source.faults l.source) × (g.K.Sink.faults l.fn.sink ≤ g.K.Sink.faults l.sink)
    × (g.H.Shelf.files l.shelf ≡ g.H.Shelf.files l.fn.shelf) × (g.H.Shelf.faults l.fn.shelf ≤ g.H.Shelf.faults l.shelf)
