use Rattle.std.proofs.Common.{ap, ◌∙◌, ℕ, ◌+◌, ◌%◌, arith}
use Rattle.byteorder.specs.Endian.{little_bytes}
use Rattle.drill_draws.specs.Rounds.{body_length}
use Rattle.drill_draws.proofs.Drawing.{after-all, draw-behind}
use Rattle.drill_draws.proofs.generator.Generator.draw_round.Goals as goal

pub returns-clause-operation : goal.returns-clause-operation
returns-clause-operation c =
    let x = c.args.self.now in
    let body = body_length x in
    c.draw_cut.ensures.operation
    ∙ ap (λ (draw : ℕ). 1 + draw % 40) (draw-behind 1 (body + 1) (body + 2) x _ c.draw_image.ensures.state (omega arith))

pub returns-clause-torn : goal.returns-clause-torn
returns-clause-torn c =
    let x = c.args.self.now in
    let body = body_length x in
    c.draw_cut.ensures.torn
    ∙ ap (λ (draw : ℕ). little_bytes 4 draw) (draw-behind 2 (body + 1) (body + 3) x _ c.draw_image.ensures.state (omega arith))

pub returns-clause-state : goal.returns-clause-state
returns-clause-state c =
    let x = c.args.self.now in
    let body = body_length x in
    c.draw_cut.ensures.state ∙ after-all 2 (body + 1) (body + 3) x _ c.draw_image.ensures.state (omega arith)
