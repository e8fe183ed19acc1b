use Rattle.std.proofs.Common.{ℕ, sym, subst}
use Rattle.bench_wire.specs.BenchView.{wire_view}
use Rattle.bench_wire.specs.Calling.{CallAdds}
use Rattle.bench_wire.proofs.Calling.{call-adds}
use Rattle.bench_wire.proofs.bench.Bench.step_behind.Goals as goal

pub returns-clause-adds : goal.returns-clause-adds
returns-clause-adds g c =
    let old = wire_view g.B.Bus.bus c.args.self.now in
    let middle = wire_view g.B.Bus.bus c.fall_due-changed.new.self in
    let new = wire_view g.B.Bus.bus c.step_as-answer.new.self in
    subst (λ (byte : ℕ). CallAdds c.args.event byte old new) (sym c.unwrap_or.ensures)
    (call-adds c.args.event c.arriving.result c.fall_due-changed.result c.seen_instead-seen.result c.step_as-answer.result c.byte_of.result c.step_as-answer.new.self.controller.hurt old middle new
    c.fall_due-changed.ensures.byte c.arriving.ensures c.byte_of.ensures c.seen_instead-seen.ensures c.fall_due-changed.ensures.falls c.step_as-answer.ensures.steps)
