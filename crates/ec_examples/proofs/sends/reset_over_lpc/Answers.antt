use Rattle.std.proofs.Common.{refl, [], ◌∷◌, take, replicate}
use Rattle.ec_model.specs.HostCalls.{calls_of}
use Rattle.ec_model.specs.SendLpc.{LpcWasServed}
use Rattle.ec_examples.specs.Sends.{reset_lpc}
use Rattle.ec_examples.proofs.sends.reset_over_lpc.Goals as goal

pub returns : goal.returns
returns c = λ flash. (
  refl,
  LpcWasServed (record {
    first = take 14 (calls_of (reset_lpc flash));
    statuses = 0 ∷ [];
    outcome = 0;
    bytes = replicate 8 0;
    asked = record { statuses = 0 ∷ []; gots = replicate 12 0; got = 0; idle = refl; each = refl; made = refl };
    idle = refl;
    whole = refl;
    made = refl;
    heard_is = refl;
  }),
)
