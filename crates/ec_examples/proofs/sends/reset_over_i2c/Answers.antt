use Rattle.std.proofs.Common.{refl, [], take}
use Rattle.ec_model.specs.HostCalls.{calls_of}
use Rattle.ec_model.specs.SendI2c.{I2cWasServed}
use Rattle.ec_examples.specs.Sends.{reset_i2c}
use Rattle.ec_examples.proofs.sends.reset_over_i2c.Goals as goal

pub returns : goal.returns
returns c = λ flash. (
  refl,
  I2cWasServed (record {
    first = take 14 (calls_of (reset_i2c flash));
    outcome = 0xFF;
    size = 0xFF;
    bytes = [];
    stopped = 0;
    asked = record { made = refl };
    whole = refl;
    made = refl;
    heard_is = refl;
  }),
)
