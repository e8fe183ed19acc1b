use Rattle.std.proofs.Common.{subst, ℕ, List, Err}
use Rattle.bench_io.specs.Printing.{Appends, Prints}
use Rattle.ecbench.proofs.Adding.{arm-stopped}
use Rattle.ecbench.proofs.arming.serve_at.Goals as goal

pub returns-in_err-print-clause-serves : goal.returns-in_err-print-clause-serves
returns-in_err-print-clause-serves g c =
    arm-stopped c.from_residual-in_err-print.result c.in_err-print.field-0.0 c.args.number c.args.call c.args.event c.arm-armed.result _ _ _ _ c.from_residual-in_err-print.ensures
    (record { marked = _; marks = c.in_ok-begin.ensures.begins; armed = c.arm-armed.ensures })
    (subst (λ (text : List ℕ). Prints (Err c.in_err-print.field-0.0) text (g.K.Sink.written c.args.sink.now) (g.K.Sink.written c.print.new.sink)) c.armed_text.ensures c.in_err-print.ensures.prints)

pub returns-clause-serves : goal.returns-clause-serves
returns-clause-serves g c = (
  c.arm-armed.result,
  record { marked = _; marks = c.in_ok-begin.ensures.begins; armed = c.arm-armed.ensures },
  subst (λ (text : List ℕ). Appends text (g.K.Sink.written c.args.sink.now) (g.K.Sink.written c.print.new.sink)) c.armed_text.ensures c.in_ok-print.ensures.prints,
)
