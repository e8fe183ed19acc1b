use Rattle.std.proofs.Common.{refl}
use Rattle.host_transport.proofs.SendLaws.{reply-is-response}
use Rattle.host_transport.proofs.OnceLaws.{sends-request}
use Rattle.host_transport.proofs.sending.send_request.Goals as goal

pub read_reply-requires : goal.read_reply-requires
read_reply-requires g c = reply-is-response _ _ _ _ _ c.in-Reply.ensures.sends

pub returns-in-Reply-clause-sends : goal.returns-in-Reply-clause-sends
returns-in-Reply-clause-sends g c = sends-request _ _ _ _ _ _ _ c.write_request.ensures.spelled c.in-Reply.ensures.sends c.read_reply.ensures.ending

pub returns-in-Bad-clause-sends : goal.returns-in-Bad-clause-sends
returns-in-Bad-clause-sends g c = sends-request _ _ _ _ _ _ _ c.write_request.ensures.spelled c.in-Bad.ensures.sends refl

pub returns-in-Silent-clause-sends : goal.returns-in-Silent-clause-sends
returns-in-Silent-clause-sends g c = sends-request _ _ _ _ _ _ _ c.write_request.ensures.spelled c.in-Silent.ensures.sends refl
