use Rattle.host_framing.proofs.I2cParts.{talks-unwritten, talks-unread, talks-served}
use Rattle.host_framing.proofs.i2c.talk_i2c.Goals as goal

pub returns-then-not-write_request-clause-talks : goal.returns-then-not-write_request-clause-talks
returns-then-not-write_request-clause-talks g c = talks-unwritten _ _ _ _ _ c.as_slice.ensures.bytes c.if-not-took.ensures.takes c.if-not-write_request.ensures.writes

pub returns-then-not-took-2-clause-talks : goal.returns-then-not-took-2-clause-talks
returns-then-not-took-2-clause-talks g c = talks-unread _ _ _ _ _ _ c.as_slice.ensures.bytes c.if-not-took.ensures.takes c.if-not-write_request.ensures.writes c.if-not-took-2.ensures.takes

pub returns-clause-talks : goal.returns-clause-talks
returns-clause-talks g c = talks-served _ _ _ _ _ _ _ _ c.as_slice.ensures.bytes c.if-not-took.ensures.takes c.if-not-write_request.ensures.writes c.if-not-took-2.ensures.takes c.hear_i2c.ensures.hears
