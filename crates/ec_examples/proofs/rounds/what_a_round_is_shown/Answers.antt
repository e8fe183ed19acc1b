use Rattle.std.proofs.Common.{refl, true, []}
use Rattle.ec_examples.specs.I2cExchanges.{stopped, i2c_exchange, protocol_request, protocol_response}
use Rattle.ec_examples.proofs.RoundLemmas.{protocol-tried}
use Rattle.ec_examples.proofs.rounds.what_a_round_is_shown.Goals as goal

pub returns : goal.returns
returns c = record {
  before = stopped 0;
  asking = i2c_exchange protocol_request protocol_response;
  after = [];
  view = record { on = true; spare = 12000000 };
  parts = refl;
  asked = protocol-tried 8000000 (record { on = true; spare = 12000000 }) refl;
}
