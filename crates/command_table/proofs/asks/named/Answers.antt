use Rattle.std.proofs.Common.{rules}
use Rattle.command_table.proofs.AskLemmas.{named-later, length-later}
use Rattle.command_table.proofs.asks.named.Goals as goal

pub returns-in_ok-read-2-clause-some : goal.returns-in_ok-read-2-clause-some
returns-in_ok-read-2-clause-some c = rw (length-later c.args.version c.if-version-eq0.false) (search rules)

pub returns-in_ok-read-2-clause-spelled : goal.returns-in_ok-read-2-clause-spelled
returns-in_ok-read-2-clause-spelled c = rw (named-later c.args.version c.in_ok-read-2.field-0.command c.if-version-eq0.false) c.in_ok-read-2.ensures.spelled
