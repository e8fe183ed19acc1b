use Rattle.std.proofs.Common.{◌≡◌, ◌+◌, replicate}
use Rattle.ec_model.specs.HostCalls.{Waited}
use Rattle.ec_wire.specs.Calls.{Made}
use Rattle.sync_engine.proofs.resting.wait_often.Given as goal

-- each turn was one wait, and took one off the room
abbrev pub invariant-loop-wait : goal.invariant-loop-wait
invariant-loop-wait g l = record {
  made : Made (replicate l._wait Waited) (g.W.Wire.view l.fn.w) (g.W.Wire.view l.w);
  room : (g.W.Wire.view l.w).spare + l._wait ≡ (g.W.Wire.view l.fn.w).spare;
}
