use Rattle.exchange_laws.proofs.Lines.{whole-lines, runs-line}
use Rattle.exchange_laws.proofs.journal.journals_part.Goals as goal

pub returns-clause-whole : goal.returns-clause-whole
returns-clause-whole c = whole-lines

pub returns-clause-line : goal.returns-clause-line
returns-clause-line c = runs-line
