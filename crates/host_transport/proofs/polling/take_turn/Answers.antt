use Rattle.std.proofs.Common.{ap, ◌∙◌, ℕ, List}
use Rattle.ec_model.specs.Polls.{turn_of}
use Rattle.ec_wire.proofs.Growth.{made-wait}
use Rattle.host_transport.specs.Asking.{got_of}
use Rattle.host_transport.proofs.PollTurns.{turn-taken}
use Rattle.host_transport.proofs.polling.take_turn.Goals as goal

pub returns-clause-takes : goal.returns-clause-takes
returns-clause-takes g c =
    turn-taken _ _ _ _ _ _ (made-wait _ _ c.wait.ensures.adds) c.ask-got.ensures.asks
    (c.shown.ensures ∙ ap (λ (body : List ℕ). turn_of (got_of c.ask-got.result body)) c.reply_body.ensures.body)
