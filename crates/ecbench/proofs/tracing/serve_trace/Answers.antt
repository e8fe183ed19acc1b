use Rattle.std.proofs.Common.{◌≡◌, ap, ◌∙◌, subst, ℕ, List, [], ◌∷◌, ◌++◌, drop}
use Rattle.bench_io.specs.Printing.{Appends}
use Rattle.ec_wire.specs.Journals.{JournalView}
use Rattle.ectool_lines.specs.Texts.{printed}
use Rattle.ecbench.specs.Tracing.{trace_text}
use Rattle.ecbench.proofs.Tracings.{counted-text}
use Rattle.ecbench.proofs.tracing.serve_trace.Goals as goal

pub returns-clause-serves : goal.returns-clause-serves
returns-clause-serves g c =
    let counted : c.print_to.new.text ≡ trace_text (drop c.args.since c.args.bench.now.entries) =
    c.print_to.ensures.text
    ∙ counted-text c.since-counts.result (drop c.args.since c.journal.result.now.entries) c.since-counts.ensures
    ∙ ap (λ (journal : JournalView). trace_text (drop c.args.since journal.entries)) c.journal.ensures in
    let text : c.as_bytes.result.now ≡ printed (trace_text (drop c.args.since c.args.bench.now.entries)) =
    c.as_bytes.ensures ∙ c.append.ensures ∙ ap (λ (bytes : List ℕ). bytes ++ 10 ∷ []) counted in (
      c.in_ok-begin.ensures.begins,
      subst (λ (bytes : List ℕ). Appends bytes (g.K.Sink.written c.args.sink.now) (g.K.Sink.written c.print.new.sink)) text c.in_ok-print.ensures.prints,
    )
