use Rattle.ectool_lines.proofs.DarkLines.{line-dark}
use Rattle.ectool_lines.proofs.laws.lines_without_power_are_off.Goals as goal

pub returns : goal.returns
returns c = λ bus view after commands entries stops. line-dark bus view after commands entries stops
