use Rattle.exchange_laws.proofs.I2cMakes.{i2c-makes}
use Rattle.exchange_laws.proofs.i2c.i2c_transactions.Goals as goal

pub returns : goal.returns
returns c = i2c-makes
