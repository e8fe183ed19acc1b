use Rattle.std.proofs.Common.{◌≡◌, ◌∙◌, [], sym, ap}
use Rattle.bench_wire.specs.BenchView.{BenchView}
use Rattle.bench_wire.proofs.Calling.{wait-unarmed}
use Rattle.bench_wire.proofs.wire.BenchWire.wait.Goals as goal

pub returns-then-is_empty-clause-adds : goal.returns-then-is_empty-clause-adds
returns-then-is_empty-clause-adds g c =
    let none : c.args.self.now.armed ≡ [] = ap (λ (bench : BenchView). bench.armed) (sym c.self.view_is) ∙ c.is_empty.ensures.0 c.if-is_empty.true in
    wait-unarmed c.step.result c.step.new.self.controller.hurt _ _ none c.step.ensures.steps
