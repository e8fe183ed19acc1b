use Rattle.std.proofs.Common.{◌-◌, false, List}
use Rattle.ec_model.specs.declared.event.Entry.{Entry}
use Rattle.ec_wire.specs.Calls.{Grows}
use Rattle.host_transport.specs.Asking.{host_view}
use Rattle.sync_engine.proofs.Loops.{GoesOn}
use Rattle.sync_engine.proofs.Rounding.{SyncsFrom}
use Rattle.sync_engine.proofs.rounds.sync_in.Given as goal

-- the rounds from here on are the rest of the sync
abbrev pub invariant-loop-count : goal.invariant-loop-count
invariant-loop-count g l = record {
  added : List Entry;
  grows : Grows added (g.W.Wire.view l.fn.w) (g.W.Wire.view l.w);
  rest : GoesOn (SyncsFrom l.image 3 false (g.W.Wire.view l.fn.w).bus) (SyncsFrom l.image (3 - l.count) l.wrote (g.W.Wire.view l.fn.w).bus)
      (host_view (g.W.Wire.view l.fn.w)) (host_view (g.W.Wire.view l.w)) added;
}
