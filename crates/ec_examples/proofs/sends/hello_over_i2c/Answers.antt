use Rattle.std.proofs.Common.{refl, take}
use Rattle.ec_model.specs.HostCalls.{calls_of}
use Rattle.ec_model.specs.SendI2c.{I2cWasServed}
use Rattle.ec_examples.specs.Sends.{hello_i2c, hello_response}
use Rattle.ec_examples.proofs.sends.hello_over_i2c.Goals as goal

pub returns : goal.returns
returns c = λ flash. record {
  undisturbed = refl;
  sent = (
    refl,
    I2cWasServed (record {
      first = take 14 (calls_of (hello_i2c flash));
      outcome = 0;
      size = 12;
      bytes = hello_response;
      stopped = 0;
      asked = record { made = refl };
      whole = refl;
      made = refl;
      heard_is = refl;
    }),
  );
}
