use Rattle.std.proofs.Common.{arith}
use Rattle.ec_model.specs.HostCalls.{Waited}
use Rattle.ec_wire.proofs.Growth.{made-then, made-as, made-wait, made-room}
use Rattle.bus_lines.proofs.Rows.{replicate-more}
use Rattle.bus_lines.proofs.lines.wait_times.Goals as goal

pub loop-turn-preserved : goal.loop-turn-preserved
loop-turn-preserved g c =
    let so_far = c.loop-turn.invariant in
    let made = made-wait _ _ c.wait.ensures.adds in
    record {
      room = omega (arith, so_far.room, made-room _ _ _ made);
      made = made-as _ _ _ _ (replicate-more c.loop-turn._turn Waited) (made-then _ _ _ _ _ so_far.made made);
    }
