use Rattle.std.proofs.Common.{refl, ◌++◌, arith}
use Rattle.ec_model.specs.SendI2c.{I2cWasUnstarted}
use Rattle.ec_examples.specs.I2cExchanges.{i2c_exchange, info_request, info_response, untaken}
use Rattle.ec_examples.proofs.RoundLemmas.{none-asked, begun-round}
use Rattle.ec_examples.proofs.rounds.round_with_a_start_that_is_not_taken.Goals as goal

pub returns-clause-untaken : goal.returns-clause-untaken
returns-clause-untaken c = λ packet. (refl, I2cWasUnstarted (record { got = 5; stopped = 0; refused = λ same. omega (arith, same); made = refl }) refl)

pub returns-clause-round : goal.returns-clause-round
returns-clause-round c = record {
  few = omega arith;
  whole = refl;
  each = (begun-round 8000000 12000000 (untaken ++ i2c_exchange info_request info_response) refl (none-asked (untaken ++ i2c_exchange info_request info_response) refl) refl, tt);
}
