use Rattle.exchange_laws.proofs.SpiSend.{spi-calm, spi-exchange}
use Rattle.exchange_laws.proofs.SpiOff.{spi-off}
use Rattle.exchange_laws.proofs.spi.spi_sends.Goals as goal

pub returns-clause-on : goal.returns-clause-on
returns-clause-on c = spi-calm

pub returns-clause-calls : goal.returns-clause-calls
returns-clause-calls c = spi-exchange

pub returns-clause-off : goal.returns-clause-off
returns-clause-off c = spi-off
