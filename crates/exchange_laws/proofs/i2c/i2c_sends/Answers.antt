use Rattle.exchange_laws.proofs.I2cSend.{i2c-calm, i2c-calls}
use Rattle.exchange_laws.proofs.I2cOff.{i2c-off}
use Rattle.exchange_laws.proofs.I2cCounts.{i2c-counts}
use Rattle.exchange_laws.proofs.i2c.i2c_sends.Goals as goal

pub returns-clause-on : goal.returns-clause-on
returns-clause-on c = i2c-calm

pub returns-clause-off : goal.returns-clause-off
returns-clause-off c = i2c-off

pub returns-clause-calls : goal.returns-clause-calls
returns-clause-calls c = i2c-calls

pub returns-clause-count : goal.returns-clause-count
returns-clause-count c = i2c-counts
