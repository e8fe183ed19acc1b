use Rattle.std.proofs.Common.{refl, [], ◌∷◌, take, replicate}
use Rattle.ec_model.specs.HostCalls.{calls_of}
use Rattle.ec_model.specs.Send.{LpcColdDone, I2cColdDone}
use Rattle.ec_examples.specs.Entries.{lpc_asked}
use Rattle.ec_examples.specs.Sends.{cold_request, cold_i2c, cold_spi}
use Rattle.ec_examples.proofs.sends.colds.Goals as goal

pub returns-clause-lpc : goal.returns-clause-lpc
returns-clause-lpc c = (
  refl,
  LpcColdDone (record {
    first = calls_of (lpc_asked cold_request);
    asked = record { statuses = 0 ∷ []; gots = replicate 10 0; got = 0; idle = refl; each = refl; made = refl };
    made = refl;
  }),
)

pub returns-clause-i2c : goal.returns-clause-i2c
returns-clause-i2c c = (
  refl,
  I2cColdDone (record { first = take 12 (calls_of cold_i2c); got = 0xFF; stopped = 0; asked = record { made = refl }; made = refl }),
)

pub returns-clause-spi : goal.returns-clause-spi
returns-clause-spi c = (
  refl,
  record {
    first = take 11 (calls_of cold_spi);
    stopped = 0;
    asked = record { selected = 0; gots = 0xF8 ∷ replicate 9 0xF9; each = refl; made = refl };
    made = refl;
  },
)
