use Rattle.std.proofs.Common.{◌≤◌, ◌-◌, List}
use Rattle.ec_model.specs.declared.event.Entry.{Entry}
use Rattle.ec_wire.specs.Calls.{Grows}
use Rattle.host_transport.specs.Asking.{host_view, setting_of}
use Rattle.host_transport.proofs.PollTurns.{Goes}
use Rattle.host_transport.proofs.polling.poll.Given as goal

-- what is polled from here on ends the whole poll
abbrev pub invariant-loop-turn : goal.invariant-loop-turn
invariant-loop-turn g l = record {
  room : 1 ≤ (g.W.Wire.view l.w).spare;
  added : List Entry;
  grows : Grows added (g.W.Wire.view l.fn.w) (g.W.Wire.view l.w);
  rest : Goes 1100 (1100 - l._turn) (setting_of l.floor (g.W.Wire.view l.fn.w)) (host_view (g.W.Wire.view l.fn.w)) (host_view (g.W.Wire.view l.w)) added;
}
