use Rattle.std.proofs.Common.{◌+◌, ◌-◌, ◌++◌, arith}
use Rattle.ec_wire.proofs.Growth.{grows-then}
use Rattle.host_transport.proofs.RestartLaws.{looks-go, looks-end, looks-out}
use Rattle.host_transport.proofs.restarting.look_up.Goals as goal

pub returns-in-Ends-clause-looks : goal.returns-in-Ends-clause-looks
returns-in-Ends-clause-looks g c =
    let so_far = c.loop-look.invariant in
    looks-end (1100 - (c.loop-look._look + 1)) (1100 - c.loop-look._look) _ _ so_far.added _ _ _ (omega arith) so_far.grows so_far.rest c.in-Ends.ensures.looks

pub loop-look-preserved : goal.loop-look-preserved
loop-look-preserved g c =
    let so_far = c.loop-look.invariant in
    let look = c.in-Pending.ensures.looks in
    record {
      added = so_far.added ++ look.added;
      grows = grows-then _ _ _ _ _ so_far.grows look.grows;
      rest = looks-go 1100 (1100 - (c.loop-look._look + 1)) (1100 - c.loop-look._look) _ so_far.added _ _ _ (omega arith) so_far.grows so_far.rest look;
    }

pub returns-clause-looks : goal.returns-clause-looks
returns-clause-looks g c =
    let so_far = c.loop-look.invariant in
    looks-out (1100 - c.loop-look._look) _ so_far.added _ _ (omega arith) so_far.grows so_far.rest
