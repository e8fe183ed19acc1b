use Rattle.exchange_laws.proofs.SpiRests.{spi-rests}
use Rattle.exchange_laws.proofs.spi.spi_rests.Goals as goal

pub returns : goal.returns
returns c = λ old entries packet heard new valid kind sent run. spi-rests old entries packet heard new valid kind sent.1 run
