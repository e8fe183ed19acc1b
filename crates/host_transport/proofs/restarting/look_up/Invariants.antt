use Rattle.std.proofs.Common.{◌-◌, List}
use Rattle.ec_model.specs.declared.event.Entry.{Entry}
use Rattle.ec_wire.specs.Calls.{Grows}
use Rattle.host_transport.specs.Asking.{host_view, setting_of}
use Rattle.host_transport.proofs.RestartLaws.{GoesOn}
use Rattle.host_transport.proofs.restarting.look_up.Given as goal

-- what is looked from here on ends all the looks
abbrev pub invariant-loop-look : goal.invariant-loop-look
invariant-loop-look g l = record {
  added : List Entry;
  grows : Grows added (g.W.Wire.view l.fn.w) (g.W.Wire.view l.w);
  rest : GoesOn 1100 (1100 - l._look) (setting_of l.floor (g.W.Wire.view l.fn.w)) (host_view (g.W.Wire.view l.fn.w)) (host_view (g.W.Wire.view l.w)) added;
}
