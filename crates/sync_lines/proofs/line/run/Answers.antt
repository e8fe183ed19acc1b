use Rattle.std.proofs.Common.{◌≡◌, ◌∙◌, subst, ℕ, List, Err}
use Rattle.bench_io.specs.Printing.{Appends, Prints}
use Rattle.bench_io.specs.Texts.{printed}
use Rattle.sync_lines.proofs.Shelf.{files-kept, files-found}
use Rattle.sync_lines.proofs.Texts.{print-stopped}
use Rattle.sync_lines.proofs.line.run.Goals as goal

pub returns-in_err-print-clause-files : goal.returns-in_err-print-clause-files
returns-in_err-print-clause-files g c = files-kept _ _ _ _ _ c.load.ensures.finds

pub returns-clause-files : goal.returns-clause-files
returns-clause-files g c = files-kept _ _ _ _ _ c.load.ensures.finds

pub returns-in_err-print-clause-runs : goal.returns-in_err-print-clause-runs
returns-in_err-print-clause-runs g c =
    let words = c.sync_loaded.new.text in
    let text : c.as_bytes.result.now ≡ printed words = c.as_bytes.ensures ∙ c.append.ensures in
    print-stopped c.from_residual-in_err-print.result c.in_err-print.field-0.0 _ _ _ words _ _ _ _ c.from_residual-in_err-print.ensures
    (record { loaded = c.in_ok-loaded.loaded; found = files-found _ _ _ _ _ c.in_ok-loaded.ensures.finds; within = c.in_ok-loaded.ensures.within; synced = c.in_ok-sync_loaded.ensures.tries })
    (subst (λ (bytes : List ℕ). Prints (Err c.in_err-print.field-0.0) bytes (g.K.Sink.written c.args.sink.now) (g.K.Sink.written c.print.new.sink)) text c.in_err-print.ensures.prints)

pub returns-clause-runs : goal.returns-clause-runs
returns-clause-runs g c =
    let words = c.sync_loaded.new.text in
    let text : c.as_bytes.result.now ≡ printed words = c.as_bytes.ensures ∙ c.append.ensures in (
      words,
      record { loaded = c.in_ok-loaded.loaded; found = files-found _ _ _ _ _ c.in_ok-loaded.ensures.finds; within = c.in_ok-loaded.ensures.within; synced = c.in_ok-sync_loaded.ensures.tries },
      subst (λ (bytes : List ℕ). Appends bytes (g.K.Sink.written c.args.sink.now) (g.K.Sink.written c.print.new.sink)) text c.in_ok-print.ensures.prints,
    )
