use Rattle.exchange_laws.proofs.I2cRests.{i2c-rest}
use Rattle.exchange_laws.proofs.i2c.i2c_rests.Goals as goal

pub returns : goal.returns
returns c = i2c-rest
