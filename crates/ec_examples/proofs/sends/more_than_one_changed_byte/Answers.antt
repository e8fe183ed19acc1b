use Rattle.ec_examples.proofs.Exchanges.{beside-sent}
use Rattle.ec_examples.proofs.sends.more_than_one_changed_byte.Goals as goal

pub returns-clause-heard : goal.returns-clause-heard
returns-clause-heard c = beside-sent
