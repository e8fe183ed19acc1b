use Rattle.ectool_lines.proofs.ShortLines.{line-upset}
use Rattle.ectool_lines.proofs.laws.short_lines_are_upset.Goals as goal

pub returns : goal.returns
returns c = λ tool old new entries within valid room stops. line-upset tool old new entries within valid room stops
