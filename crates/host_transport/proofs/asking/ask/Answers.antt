use Rattle.std.proofs.Common.{refl, sym, ◌∙◌, arith}
use Rattle.host_transport.proofs.AskLaws.{ask-short, ask-sent}
use Rattle.host_transport.proofs.asking.ask.Goals as goal

pub returns-then-spare-floor-clause-asks : goal.returns-then-spare-floor-clause-asks
returns-then-spare-floor-clause-asks g c =
    ask-short _ _ _ _ (sym c.power.ensures.power ∙ c.if-not-power.false) (omega (arith, c.spare.ensures.spare, c.if-spare-floor.true))

pub returns-in-Status-clause-asks : goal.returns-in-Status-clause-asks
returns-in-Status-clause-asks g c =
    ask-sent _ _ _ _ _ _ _ (sym c.power.ensures.power ∙ c.if-not-power.false) (omega (arith, c.spare.ensures.spare, c.if-spare-floor.false)) c.in-Status.ensures.sends refl
