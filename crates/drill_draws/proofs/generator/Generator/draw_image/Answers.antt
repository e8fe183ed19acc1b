use Rattle.std.proofs.Common.{refl}
use Rattle.drill_draws.specs.Rounds.{body_length}
use Rattle.drill_draws.proofs.Drawing.{after-after, bytes-behind}
use Rattle.drill_draws.proofs.generator.Generator.draw_image.Goals as goal

pub returns-clause-image : goal.returns-clause-image
returns-clause-image c =
    let x = c.args.self.now in
    rw (c.draw_bytes.ensures.bytes, c.begin.ensures.head, c.draw_below-length.ensures.state, c.draw_below-length.ensures.value, bytes-behind (body_length x) 1 1 x) refl

pub returns-clause-state : goal.returns-clause-state
returns-clause-state c =
    let x = c.args.self.now in
    rw (c.draw_bytes.ensures.state, c.draw_below-length.ensures.state, c.draw_below-length.ensures.value) (after-after (body_length x) 1 x)
