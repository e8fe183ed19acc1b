use Rattle.std.proofs.Common.{◌+◌, ◌∙◌, ap, drop, length, length-drop, arith}
use Rattle.std.proofs.lemmas.List.{drop-drop}
use Rattle.bench_io.proofs.Appending.{appended-more}
use Rattle.bench_io.proofs.sink.put_all.Goals as goal

pub loop-rest-preserved : goal.loop-rest-preserved
loop-rest-preserved g c =
    let before = c.loop-rest.invariant.0 in
    let done = before.0 in
    let count = c.in_ok-count.count in
    let bytes = c.args.bytes.now in (
      (
        done + count,
        omega (arith, before.1, c.in_ok-count.ensures.bound, length-drop done bytes, ap length before.2),
        c.split_at.ensures.back ∙ ap (drop count) before.2 ∙ drop-drop count done bytes,
        appended-more (g.K.Sink.written c.args.sink.now) (g.K.Sink.written c.loop-rest.sink) (g.K.Sink.written c.put.new.self) bytes done count before.3 (rw (← before.2) c.in_ok-count.ensures.bytes),
      ),
      omega (arith, c.loop-rest.invariant.1, c.in_ok-count.ensures.cause.later),
    )
