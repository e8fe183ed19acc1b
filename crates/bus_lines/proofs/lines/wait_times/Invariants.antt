use Rattle.std.proofs.Common.{◌≡◌, ◌+◌, replicate}
use Rattle.ec_model.specs.HostCalls.{Waited}
use Rattle.ec_wire.specs.Calls.{Made}
use Rattle.bus_lines.proofs.lines.wait_times.Given as goal

-- so many waits were made
abbrev pub invariant-loop-turn : goal.invariant-loop-turn
invariant-loop-turn g l = record {
  room : (g.W.Wire.view l.w).spare + l._turn ≡ (g.W.Wire.view l.fn.w).spare;
  made : Made (replicate l._turn Waited) (g.W.Wire.view l.fn.w) (g.W.Wire.view l.w);
}
