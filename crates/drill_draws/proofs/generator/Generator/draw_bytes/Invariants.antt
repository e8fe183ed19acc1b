use Rattle.std.proofs.Common.{◌≡◌, ◌+◌, ◌++◌, length}
use Rattle.drill_draws.specs.Draws.{after, drawn_bytes}
use Rattle.drill_draws.proofs.generator.Generator.draw_bytes.Given as goal

-- the first bytes were drawn
abbrev pub invariant-loop-turn : goal.invariant-loop-turn
invariant-loop-turn l = record {
  state : l.self ≡ after l._turn l.fn.self;
  bytes : l.image ≡ l.fn.image ++ drawn_bytes 1 l._turn l.fn.self;
  long : length l.image ≡ length l.fn.image + l._turn;
}
