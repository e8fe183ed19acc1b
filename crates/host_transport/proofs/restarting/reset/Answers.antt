use Rattle.std.proofs.Common.{sym, ◌∙◌, arith}
use Rattle.host_transport.proofs.RestartLaws.{reset-sent}
use Rattle.host_transport.proofs.restarting.reset.Goals as goal

pub returns-clause-resets : goal.returns-clause-resets
returns-clause-resets g c =
    reset-sent _ _ _ _ _ (sym c.power.ensures.power ∙ c.if-not-power.false) (omega (arith, c.spare.ensures.spare, c.if-spare-floor.false)) c.write_request.ensures.spelled c.send_cold.ensures.colds c.quiet.ensures.quiets
