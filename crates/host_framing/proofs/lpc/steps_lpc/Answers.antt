use Rattle.host_framing.proofs.LpcParts.{sends-blocked, sends-unserved, sends-served}
use Rattle.host_framing.proofs.lpc.steps_lpc.Goals as goal

pub returns-then-not-ask_lpc-clause-sends : goal.returns-then-not-ask_lpc-clause-sends
returns-then-not-ask_lpc-clause-sends g c = sends-blocked _ _ _ c.if-not-ask_lpc.ensures.asks

pub returns-then-not-poll_waited-clause-sends : goal.returns-then-not-poll_waited-clause-sends
returns-then-not-poll_waited-clause-sends g c = sends-unserved _ _ _ _ c.if-not-ask_lpc.ensures.asks c.if-not-poll_waited.ensures.polls

pub returns-clause-sends : goal.returns-clause-sends
returns-clause-sends g c = sends-served _ _ _ _ _ _ c.if-not-ask_lpc.ensures.asks c.if-not-poll_waited.ensures.polls c.hear_lpc.ensures.hears
