use Rattle.exchange_laws.proofs.Transacted.{settled-transacted, transacted}
use Rattle.exchange_laws.proofs.Making.{makes}
use Rattle.exchange_laws.proofs.lpc.lpc_transactions.Goals as goal

pub returns-clause-at_rest : goal.returns-clause-at_rest
returns-clause-at_rest c = transacted

pub returns-clause-settled : goal.returns-clause-settled
returns-clause-settled c = settled-transacted

pub returns-clause-made : goal.returns-clause-made
returns-clause-made c = makes
