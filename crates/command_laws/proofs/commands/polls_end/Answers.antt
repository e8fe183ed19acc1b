use Rattle.std.proofs.Common.{arith}
use Rattle.command_laws.proofs.Idling.{poll-calm}
use Rattle.command_laws.proofs.commands.polls_end.Goals as goal

pub returns : goal.returns
returns c = λ setting view core table entries end last at has quiet run polls. poll-calm 1100 setting view core table entries end last (omega arith) at has quiet run polls
