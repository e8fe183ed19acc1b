use Rattle.std.proofs.Common.{ap, ◌∙◌, ℕ, List}
use Rattle.ec_model.specs.Packet.{response_packet}
use Rattle.ec_model.specs.Bus.{replied}
use Rattle.ec_core.proofs.serve.respond.Goals as goal

pub returns : goal.returns
returns g c =
    c.reply.ensures ∙ ap (λ (packet : List ℕ). replied packet (g.B.Bus.state c.args.bus.now)) (c.in-Ok.ensures.spelled ∙ ap (response_packet c.args.reply.now.status) c.as_slice.ensures.bytes)
