use Rattle.exchange_laws.proofs.SpiSend.{spi-quiet}
use Rattle.exchange_laws.proofs.spi.spi_quiets.Goals as goal

pub returns : goal.returns
returns c = spi-quiet
