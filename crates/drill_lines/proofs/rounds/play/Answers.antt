use Rattle.std.proofs.Common.{refl, ap, ◌∙◌, ◌+◌, arith}
use Rattle.drill_draws.specs.Rounds.{drill_image, drill_operation, drill_torn, behind_round}
use Rattle.drill_lines.proofs.MoreRounds.{IsDrawn, round-counted, behind-more, count-few, rounds-stopped}
use Rattle.drill_lines.proofs.rounds.play.Goals as goal

pub loop-played-init : goal.loop-played-init
loop-played-init g c = ((refl, refl, refl), refl, omega arith, omega arith)

pub returns-in_err-round : goal.returns-in_err-round
returns-in_err-round g c =
    let so_far = c.loop-played.invariant in
    let size = c.args.geometry in
    rounds-stopped c.from_residual.result c.in_err-round.field-0.0 size c.args.generator.now c.args.rounds c.loop-played.played _ _ _ _ _ _ _ _ (omega arith) c.from_residual.ensures so_far.0
    (record {
      image_is = c.as_slice.ensures.bytes ∙ c.draw_round-cut.ensures.image ∙ ap (drill_image (c.loop-played.played + 1) size) so_far.1;
      operation_is = c.draw_round-cut.ensures.operation ∙ ap drill_operation so_far.1;
      torn_is = c.draw_round-cut.ensures.torn ∙ ap drill_torn so_far.1;
    })
    c.in_err-round.ensures

pub loop-played-preserved : goal.loop-played-preserved
loop-played-preserved g c =
    let so_far = c.loop-played.invariant in
    let size = c.args.geometry in
    let drawn : IsDrawn size c.args.generator.now c.loop-played.played c.as_slice.result.now c.draw_round-cut.result.operation c.draw_round-cut.result.torn =
    record {
      image_is = c.as_slice.ensures.bytes ∙ c.draw_round-cut.ensures.image ∙ ap (drill_image (c.loop-played.played + 1) size) so_far.1;
      operation_is = c.draw_round-cut.ensures.operation ∙ ap drill_operation so_far.1;
      torn_is = c.draw_round-cut.ensures.torn ∙ ap drill_torn so_far.1;
    } in (
      round-counted size c.args.generator.now c.loop-played.played _ _ _ _ _ c.count.result c.count-in-loop-played.result _ _ _ c.in_ok-round.round.lost c.in_ok-round.round.done c.count.ensures c.count-in-loop-played.ensures so_far.0 drawn c.in_ok-round.ensures,
      behind-more c.loop-played.played c.args.generator.now c.draw_round-cut.new.self (c.draw_round-cut.ensures.state ∙ ap behind_round so_far.1),
      omega (arith, so_far.2, count-few c.in_ok-round.round.lost c.count.result c.count.ensures),
      omega (arith, so_far.3, count-few c.in_ok-round.round.done c.count-in-loop-played.result c.count-in-loop-played.ensures),
    )
