use Rattle.std.proofs.Common.{◌+◌, ◌-◌, ◌++◌, arith}
use Rattle.ec_wire.proofs.Growth.{grows-then}
use Rattle.host_transport.proofs.PollTurns.{poll-goes, poll-ends, poll-lost}
use Rattle.host_transport.proofs.polling.poll.Goals as goal

pub returns-in-Ends-clause-polls : goal.returns-in-Ends-clause-polls
returns-in-Ends-clause-polls g c =
    let so_far = c.loop-turn.invariant in
    poll-ends (1100 - (c.loop-turn._turn + 1)) (1100 - c.loop-turn._turn) _ _ so_far.added _ _ _ (omega arith) so_far.grows so_far.rest c.in-Ends.ensures.takes

pub loop-turn-preserved : goal.loop-turn-preserved
loop-turn-preserved g c =
    let so_far = c.loop-turn.invariant in
    let turn = c.in-Pending.ensures.takes in
    record {
      room = c.in-Pending.ensures.leaves;
      added = so_far.added ++ turn.added;
      grows = grows-then _ _ _ _ _ so_far.grows turn.grows;
      rest = poll-goes 1100 (1100 - (c.loop-turn._turn + 1)) (1100 - c.loop-turn._turn) _ so_far.added _ _ _ (omega arith) so_far.grows so_far.rest turn;
    }

pub returns-clause-polls : goal.returns-clause-polls
returns-clause-polls g c =
    let so_far = c.loop-turn.invariant in
    poll-lost (1100 - c.loop-turn._turn) _ so_far.added _ _ (omega arith) so_far.grows so_far.rest
