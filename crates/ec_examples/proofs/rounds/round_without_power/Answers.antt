use Rattle.std.proofs.Common.{refl, [], arith}
use Rattle.ec_examples.specs.I2cExchanges.{stopped}
use Rattle.ec_examples.proofs.rounds.round_without_power.Goals as goal

pub returns : goal.returns
returns c = record {
  few = omega arith;
  whole = refl;
  each = (record { quieting = stopped 0xFF; rest = []; calls = refl; parts = refl; quiet = (refl, record { got = 0xFF; made = refl }); begins = refl }, tt);
}
