use Rattle.std.proofs.Common.{◌≡◌, ◌∙◌, ap, drop, arith}
use Rattle.bench_io.proofs.Taking.{given}
use Rattle.bench_io.proofs.memory_source.MemSourceSource.next.Goals as goal

pub returns-clause-bytes : goal.returns-clause-bytes
returns-clause-bytes c =
    let left : c.split_at.result.1.now ≡ drop c.self.inside.taken c.self.inside.bytes.items = c.split_at.ensures.back ∙ ap (drop c.self.inside.taken) c.deref.ensures.value in
    rw (← c.self.view_is) (given c.self.inside.bytes.items c.copy_front-count.new.buf c.self.inside.taken c.copy_front-count.result (omega arith) (rw (← left) (omega (arith, c.copy_front-count.ensures.count))) (rw (← left) c.copy_front-count.ensures.front))
