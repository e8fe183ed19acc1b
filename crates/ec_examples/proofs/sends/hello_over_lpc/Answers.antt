use Rattle.std.proofs.Common.{refl, [], ◌∷◌, take, replicate}
use Rattle.ec_model.specs.HostCalls.{calls_of}
use Rattle.ec_model.specs.SendLpc.{LpcWasServed}
use Rattle.ec_examples.specs.Sends.{hello_lpc, hello_response}
use Rattle.ec_examples.proofs.sends.hello_over_lpc.Goals as goal

pub returns-clause-exchange : goal.returns-clause-exchange
returns-clause-exchange c = λ flash. record {
  undisturbed = refl;
  sent = (
    refl,
    LpcWasServed (record {
      first = take 14 (calls_of (hello_lpc flash));
      statuses = 1 ∷ [];
      outcome = 0;
      bytes = hello_response;
      asked = record { statuses = 0 ∷ []; gots = replicate 12 0; got = 0; idle = refl; each = refl; made = refl };
      idle = refl;
      whole = refl;
      made = refl;
      heard_is = refl;
    }),
  );
}
