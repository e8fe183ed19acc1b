use Rattle.std.proofs.Common.{◌≡◌, refl, sym, ◌∙◌, subst, ap, drop, length, Ok, Err, None, arith}
use Rattle.ec_wire.specs.Journals.{JournalView}
use Rattle.bench_wire.specs.BenchView.{wire_view}
use Rattle.line_reader.specs.declared.reader.Next.{Next}
use Rattle.line_reader.specs.declared.reader.Next.TheVariants.{Line, Last}
use Rattle.line_reader.specs.Finding.{Finds}
use Rattle.ecbench.specs.Serving.{exit_at}
use Rattle.ecbench.proofs.ServedLemmas.{served-nothing, serves-failed, serves-exit, at-any, ended-line}
use Rattle.ecbench.proofs.ServedLines.{serves-as, told-by, served-since, since-is, served-more, serves-last, serves-stopped}
use Rattle.line_reader.proofs.Takings.{Takes-nothing}
use Rattle.ecbench.proofs.serving.serve.Goals as goal

pub loop-number-init : goal.loop-number-init
loop-number-init g c =
    let fresh = c.requires in (
      served-nothing (wire_view g.B.Bus.bus c.args.bench.now) (g.S.Source.left c.args.source.now) (g.K.Sink.written c.args.sink.now) c.args.reader.now fresh (Takes-nothing (g.S.Source.left c.args.source.now)),
      rw fresh (omega arith),
      omega arith,
      omega arith,
      refl,
      omega arith,
    )

pub returns-in-Err-clause-serves : goal.returns-in-Err-clause-serves
returns-in-Err-clause-serves g c = serves-failed c.loop-number.number _ _ _ _ _ _ _ _ _ c.in-Err.field-0 c.loop-number.invariant.0 c.in-Err.ensures.reads.finds

pub returns-in-Some-clause-serves : goal.returns-in-Some-clause-serves
returns-in-Some-clause-serves g c =
    serves-exit c.in-Ok.next c.in-Some.exit c.loop-number.number _ _ _ _ _ _ _ _ _ (sym c.exit_at.ensures ∙ c.in-Some.is) c.loop-number.invariant.0 c.next.ensures.within c.in-Ok.ensures.reads.finds

pub returns-in-Err-serve_line-clause-serves : goal.returns-in-Err-serve_line-clause-serves
returns-in-Err-serve_line-clause-serves g c =
    let none : exit_at c.in-Ok.next c.loop-number.number ≡ None = sym c.exit_at.ensures ∙ c.in_default.is in
    let line = at-any c.in-Ok.next c.loop-number.number _ _ _ _ _ _ _ _ _ none c.loop-number.invariant.0 c.next.ensures.within c.in-Ok.ensures.reads.finds in
    let served = serves-as c.args.setup.now.geometry (g.H.Shelf.files c.args.shelf.now) (g.H.Shelf.files c.loop-number.shelf) c.line.result.now c.next.new.self.line (Err c.in-Err-serve_line.exit) c.loop-number.number (drop c.loop-number.since c.loop-number.bench.entries) _ _ _ _ c.loop-number.invariant.4 c.line.ensures c.in-Err-serve_line.ensures.serves in
    serves-stopped c.in-Err-serve_line.exit c.loop-number.number _ _ _ _ _ _ _ _ _ _ _ c.loop-number.invariant.0 line (told-by c.loop-number.invariant.0 (Err c.in-Err-serve_line.exit) c.loop-number.number _ _ _ _ served)

pub returns-then-is_last-clause-serves : goal.returns-then-is_last-clause-serves
returns-then-is_last-clause-serves g c =
    let last : c.in-Ok.next ≡ Last = c.is_last.ensures.0 c.if-is_last.true in
    let finds : Finds (Ok Last) c.loop-number.reader c.next.new.self (g.S.Source.left c.loop-number.source) (g.S.Source.left c.next.new.source) =
    subst (λ (next : Next). Finds (Ok next) c.loop-number.reader c.next.new.self (g.S.Source.left c.loop-number.source) (g.S.Source.left c.next.new.source)) last c.in-Ok.ensures.reads.finds in
    let served = serves-as c.args.setup.now.geometry (g.H.Shelf.files c.args.shelf.now) (g.H.Shelf.files c.loop-number.shelf) c.line.result.now c.next.new.self.line (Ok tt) c.loop-number.number (drop c.loop-number.since c.loop-number.bench.entries) _ _ _ _ c.loop-number.invariant.4 c.line.ensures c.in_default-serve_line.ensures.serves in
    serves-last c.loop-number.number _ _ _ _ _ _ _ _ _ _ _ c.loop-number.invariant.0 c.next.ensures.within.read finds (told-by c.loop-number.invariant.0 (Ok tt) c.loop-number.number _ _ _ _ served)

pub loop-number-preserved : goal.loop-number-preserved
loop-number-preserved g c =
    let none : exit_at c.in-Ok.next c.loop-number.number ≡ None = sym c.exit_at.ensures ∙ c.in_default.is in
    let line : c.in-Ok.next ≡ Line = ended-line c.in-Ok.next c.loop-number.number none (λ same. let yes = c.is_last.ensures.1 same in let no = c.if-is_last.false in cc) in
    let finds : Finds (Ok Line) c.loop-number.reader c.next.new.self (g.S.Source.left c.loop-number.source) (g.S.Source.left c.next.new.source) =
    subst (λ (next : Next). Finds (Ok next) c.loop-number.reader c.next.new.self (g.S.Source.left c.loop-number.source) (g.S.Source.left c.next.new.source)) line c.in-Ok.ensures.reads.finds in
    let served = serves-as c.args.setup.now.geometry (g.H.Shelf.files c.args.shelf.now) (g.H.Shelf.files c.loop-number.shelf) c.line.result.now c.next.new.self.line (Ok tt) c.loop-number.number (drop c.loop-number.since c.loop-number.bench.entries) _ _ _ _ c.loop-number.invariant.4 c.line.ensures c.in_default-serve_line.ensures.serves in (
      served-since c.since_line-since.result
          (since-is c.loop-number.since c.len-start.result c.len.result c.since_line-since.result (wire_view g.B.Bus.bus c.loop-number.bench) (wire_view g.B.Bus.bus c.serve_line.new.bench) c.since_line-since.ensures
          (c.len-start.ensures ∙ ap (λ (journal : JournalView). length journal.entries) c.journal.ensures)
          (c.len.ensures ∙ ap (λ (journal : JournalView). length journal.entries) c.journal-in-loop-number.ensures))
          (served-more c.loop-number.number _ _ _ _ _ _ _ _ _ _ _ c.loop-number.invariant.0 finds (told-by c.loop-number.invariant.0 (Ok tt) c.loop-number.number _ _ _ _ served)),
      c.next.ensures.within.read,
      omega (arith, c.loop-number.invariant.2, c.next.ensures.cause.later),
      omega (arith, c.loop-number.invariant.3, c.serve_line.ensures.later),
      c.serve_line.ensures.files ∙ c.loop-number.invariant.4,
      omega (arith, c.loop-number.invariant.5, c.serve_line.ensures.shelf_later),
    )
