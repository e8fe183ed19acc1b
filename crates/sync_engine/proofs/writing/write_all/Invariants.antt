use Rattle.std.proofs.Common.{◌-◌, List}
use Rattle.ec_model.specs.declared.event.Entry.{Entry}
use Rattle.ec_model.specs.Ranges.{rw_range}
use Rattle.ec_wire.specs.Calls.{Grows}
use Rattle.host_transport.specs.Asking.{host_view, setting_of}
use Rattle.sync_rules.specs.Steps.{pieces, piece_length, WritesFrom}
use Rattle.sync_engine.proofs.Loops.{GoesOn}
use Rattle.sync_engine.proofs.writing.write_all.Given as goal

-- the pieces from here on are the rest of all of them
abbrev pub invariant-loop-number : goal.invariant-loop-number
invariant-loop-number g l =
    let setting = setting_of l.floor (g.W.Wire.view l.fn.w) in
    let count = pieces (rw_range l.geometry).size (piece_length setting) in
    record {
      added : List Entry;
      grows : Grows added (g.W.Wire.view l.fn.w) (g.W.Wire.view l.w);
      rest : GoesOn (WritesFrom count 0 setting l.image l.geometry) (WritesFrom (count - l.number) l.number setting l.image l.geometry)
          (host_view (g.W.Wire.view l.fn.w)) (host_view (g.W.Wire.view l.w)) added;
    }
