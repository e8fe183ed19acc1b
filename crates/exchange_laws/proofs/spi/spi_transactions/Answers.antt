use Rattle.exchange_laws.proofs.SpiMakes.{spi-makes}
use Rattle.exchange_laws.proofs.spi.spi_transactions.Goals as goal

pub returns : goal.returns
returns c = spi-makes
