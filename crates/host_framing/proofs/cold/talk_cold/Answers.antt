use Rattle.host_framing.proofs.ColdParts.{talks-unwritten, talks-done}
use Rattle.host_framing.proofs.cold.talk_cold.Goals as goal

pub returns-then-not-write_request-clause-talks : goal.returns-then-not-write_request-clause-talks
returns-then-not-write_request-clause-talks g c = talks-unwritten _ _ _ _ _ c.as_slice.ensures.bytes c.if-not-took.ensures.takes c.if-not-write_request.ensures.writes

pub returns-clause-talks : goal.returns-clause-talks
returns-clause-talks g c = talks-done _ _ _ _ _ _ _ c.as_slice.ensures.bytes c.if-not-took.ensures.takes c.if-not-write_request.ensures.writes c.did.ensures.made
