use Rattle.host_framing.proofs.SpiParts.{talks-unserved, talks-served}
use Rattle.host_framing.proofs.spi.talk.Goals as goal

pub returns-then-last-clause-talks : goal.returns-then-last-clause-talks
returns-then-last-clause-talks g c = talks-unserved _ _ _ _ _ _ c.ask.ensures.asks c.poll-last.ensures.polls c.if-last.true (c.unserved.ensures c.args.reply.now)

pub returns-clause-talks : goal.returns-clause-talks
returns-clause-talks g c = talks-served _ _ _ _ _ _ _ c.ask.ensures.asks c.poll-last.ensures.polls c.if-last.false c.hear.ensures.hears
