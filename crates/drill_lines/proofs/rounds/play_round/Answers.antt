use Rattle.drill_lines.proofs.MoreRounds.{at-power, at-second, round-played}
use Rattle.drill_lines.proofs.rounds.play_round.Goals as goal

pub returns-in_err-come_back : goal.returns-in_err-come_back
returns-in_err-come_back g c =
    at-power c.from_residual-in_err-come_back.result c.in_err-come_back.field-0.0 c.power-on.result _ _ _ _ _ _ _ c.from_residual-in_err-come_back.ensures c.in_ok-upset.ensures c.arm_cut.ensures c.in_err-come_back.ensures

pub returns-in_err-done : goal.returns-in_err-done
returns-in_err-done g c =
    at-second c.from_residual-in_err-done.result c.in_err-done.field-0.0 c.power-on.result _ _ _ _ _ _ _ _ c.from_residual-in_err-done.ensures c.in_ok-upset.ensures c.power-on.ensures.power c.arm_cut.ensures c.in_ok-come_back.ensures c.in_err-done.ensures

pub returns : goal.returns
returns g c = round-played c.power-on.result _ _ _ _ _ _ _ _ c.in_ok-done.done c.in_ok-upset.ensures c.power-on.ensures.power c.arm_cut.ensures c.in_ok-come_back.ensures c.in_ok-done.ensures
