use Rattle.std.proofs.Common.{ap, ◌∙◌, ℕ, List}
use Rattle.ec_model.specs.Polls.{turn_of}
use Rattle.ec_wire.proofs.Growth.{made-wait}
use Rattle.command_laws.specs.Restarting.{got_of}
use Rattle.host_transport.specs.Trying.{said_of}
use Rattle.host_transport.proofs.RestartLaws.{looked-pending, looked-end}
use Rattle.host_transport.proofs.restarting.look.Goals as goal

pub returns-in-Pending-clause-looks : goal.returns-in-Pending-clause-looks
returns-in-Pending-clause-looks g c =
    looked-pending _ _ _ _ _ _ c.command-said.ensures.tries (made-wait _ _ c.wait.ensures.adds) c.in-Pending.is
    (c.seen-turn.ensures.turn ∙ ap (λ (body : List ℕ). turn_of (got_of (said_of c.command-said.result body))) c.reply_body.ensures.body)

pub returns-in-Ends-clause-looks : goal.returns-in-Ends-clause-looks
returns-in-Ends-clause-looks g c =
    looked-end _ _ _ _ _ c.command-said.ensures.tries (λ pending. let ends = c.in-Ends.is in cc)
    (c.seen-turn.ensures.turn ∙ ap (λ (body : List ℕ). turn_of (got_of (said_of c.command-said.result body))) c.reply_body.ensures.body)
