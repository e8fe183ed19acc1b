use Rattle.std.proofs.Common.{◌≡◌, ◌+◌, ◌-◌, ◌*◌, ℕ, List, [], ◌∷◌, ◌++◌}
use Rattle.ec_model.specs.declared.event.Access.TheVariants.{SpiByte}
use Rattle.ec_model.specs.Heard.{poll_end, spaced_reads}
use Rattle.ec_model.specs.SendSpi.{is_spi_waiting}
use Rattle.ec_wire.specs.Calls.{Made}
use Rattle.host_framing.proofs.spi.poll.Given as goal

-- the bytes before the last one said that the request waits, so that the poll stands where it goes on
abbrev pub invariant-loop-turn : goal.invariant-loop-turn
invariant-loop-turn g l = record {
  room : (g.W.Wire.view l.w).spare + 2 * l._turn + 1 ≡ (g.W.Wire.view l.fn.w).spare;
  front : List ℕ;
  rest : (more : List ℕ) → poll_end is_spi_waiting 5 (front ++ more) ≡ poll_end is_spi_waiting (5 - l._turn) more;
  made : Made (spaced_reads (SpiByte 0) (front ++ l.answer ∷ [])) (g.W.Wire.view l.fn.w) (g.W.Wire.view l.w);
}
