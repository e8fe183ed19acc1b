use Rattle.std.proofs.Common.{◌-◌, List}
use Rattle.ec_model.specs.declared.event.Entry.{Entry}
use Rattle.ec_wire.specs.Calls.{Grows}
use Rattle.host_transport.specs.Asking.{host_view, setting_of}
use Rattle.sync_rules.specs.Steps.{LooksUpTo}
use Rattle.sync_engine.proofs.Loops.{GoesOn}
use Rattle.sync_engine.proofs.hashing.look_up.Given as goal

-- the looks from here on end all the looks
abbrev pub invariant-loop-look : goal.invariant-loop-look
invariant-loop-look g l = record {
  added : List Entry;
  grows : Grows added (g.W.Wire.view l.fn.w) (g.W.Wire.view l.w);
  rest : GoesOn (LooksUpTo 40 (setting_of l.floor (g.W.Wire.view l.fn.w)) l.aim) (LooksUpTo (40 - l._look) (setting_of l.floor (g.W.Wire.view l.fn.w)) l.aim)
      (host_view (g.W.Wire.view l.fn.w)) (host_view (g.W.Wire.view l.w)) added;
}
