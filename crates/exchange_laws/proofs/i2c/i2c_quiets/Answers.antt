use Rattle.exchange_laws.proofs.I2cSend.{i2c-quiet}
use Rattle.exchange_laws.proofs.i2c.i2c_quiets.Goals as goal

pub returns : goal.returns
returns c = i2c-quiet
