use Rattle.exchange_laws.proofs.LpcExchange.{lpc-exchange, exchange-run}
use Rattle.exchange_laws.proofs.lpc.lpc_exchanges.Goals as goal

pub returns-clause-calls : goal.returns-clause-calls
returns-clause-calls c = lpc-exchange

pub returns-clause-entries : goal.returns-clause-entries
returns-clause-entries c = exchange-run
