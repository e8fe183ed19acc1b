use Rattle.exchange_laws.proofs.AnyBus.{exchange-of}
use Rattle.exchange_laws.proofs.runs.exchanges.Goals as goal

pub returns : goal.returns
returns c = exchange-of
