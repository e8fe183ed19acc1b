use Rattle.std.proofs.Common.{sym, ap, ◌∙◌, Bool}
use Rattle.host_transport.specs.Once.{ended}
use Rattle.host_transport.specs.Sending.{heard_ending}
use Rattle.std.specs.Prelude.{drop}
use Rattle.host_transport.proofs.OnceLaws.{asks-once}
use Rattle.host_transport.proofs.asking.once.Goals as goal

pub returns-then-not-power-2-clause-asks : goal.returns-then-not-power-2-clause-asks
returns-then-not-power-2-clause-asks g c =
    let said = heard_ending c.send_request-heard.result (drop 8 c.send_request-heard.new.reply) in
    asks-once _ _ said _ _ _ (sym c.power.ensures.power ∙ c.if-not-power.false) c.send_request-heard.ensures.sends
    (ap (λ (on : Bool). ended on said) (sym c.if-not-power-2.true ∙ c.power-2.ensures.power))

pub returns-clause-asks : goal.returns-clause-asks
returns-clause-asks g c =
    let said = heard_ending c.send_request-heard.result (drop 8 c.send_request-heard.new.reply) in
    asks-once _ _ said _ _ _ (sym c.power.ensures.power ∙ c.if-not-power.false) c.send_request-heard.ensures.sends
    (c.ending.ensures (drop 8 c.send_request-heard.new.reply) ∙ ap (λ (on : Bool). ended on said) (sym c.if-not-power-2.false ∙ c.power-2.ensures.power))
