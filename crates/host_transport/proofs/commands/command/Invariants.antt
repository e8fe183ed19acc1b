use Rattle.std.proofs.Common.{◌-◌, List}
use Rattle.ec_model.specs.declared.event.Entry.{Entry}
use Rattle.ec_packet.specs.Read.{request_of}
use Rattle.ec_wire.specs.Calls.{Grows}
use Rattle.host_transport.specs.Asking.{host_view, setting_of}
use Rattle.host_transport.proofs.CommandLaws.{GoesOn}
use Rattle.host_transport.proofs.commands.command.Given as goal

-- what is tried from here on ends the whole command
abbrev pub invariant-loop-try : goal.invariant-loop-try
invariant-loop-try g l = record {
  added : List Entry;
  grows : Grows added (g.W.Wire.view l.fn.w) (g.W.Wire.view l.w);
  rest : GoesOn 3 (3 - l._try) l.is_invalid (setting_of l.floor (g.W.Wire.view l.fn.w)) (request_of l.command l.version l.body) l.want (host_view (g.W.Wire.view l.fn.w)) (host_view (g.W.Wire.view l.w)) added;
}
