use Rattle.std.proofs.Common.{sym}
use Rattle.bench_wire.proofs.Adding.{happens-by}
use Rattle.bench_wire.proofs.bench.Bench.world.Goals as goal

pub returns : goal.returns
returns g c = happens-by c.args.happened c.in-Some.event c.step.result c.step.new.self.controller.hurt _ _ (sym c.in-Some.ensures) c.step.ensures.steps
