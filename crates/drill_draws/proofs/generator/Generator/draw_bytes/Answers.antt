use Rattle.std.proofs.Common.{refl, ap, ◌∙◌, ℕ, ◌+◌, ◌%◌, arith, append_assoc}
use Rattle.std.proofs.lemmas.List.{length_push}
use Rattle.drill_draws.proofs.Drawing.{after-all, draw-behind, bytes-more}
use Rattle.drill_draws.proofs.generator.Generator.draw_bytes.Goals as goal

pub loop-turn-preserved : goal.loop-turn-preserved
loop-turn-preserved c =
    let so_far = c.loop-turn.invariant in
    let x = c.args.self.now in
    let turn = c.loop-turn._turn in
    let draw = c.draw_below.ensures.value ∙ ap (λ (n : ℕ). n % 256) (draw-behind 1 turn (1 + turn) x c.loop-turn.self so_far.state refl) in
    record {
      state = c.draw_below.ensures.state ∙ after-all 1 turn (turn + 1) x c.loop-turn.self so_far.state (omega arith);
      bytes = rw (c.push.ensures, so_far.bytes, draw, bytes-more 1 turn x) (simp append_assoc);
      long = rw c.push.ensures (omega (arith, length_push c.loop-turn.image c.draw_below.result, so_far.long));
    }
