use Rattle.std.proofs.Common.{refl, [], ◌∷◌, take, replicate}
use Rattle.ec_model.specs.HostCalls.{calls_of}
use Rattle.ec_model.specs.SendSpi.{SpiWasServed}
use Rattle.ec_examples.specs.Sends.{hello_spi, hello_response}
use Rattle.ec_examples.proofs.sends.hello_over_spi.Goals as goal

pub returns : goal.returns
returns c = λ flash. record {
  undisturbed = refl;
  sent = (
    refl,
    SpiWasServed (record {
      first = take 13 (calls_of (hello_spi flash));
      answers = 0xFA ∷ 0xEC ∷ [];
      bytes = hello_response;
      stopped = 0;
      asked = record { selected = 0; gots = 0xF8 ∷ replicate 11 0xF9; each = refl; made = refl };
      polled = refl;
      replied = refl;
      whole = refl;
      made = refl;
      heard_is = refl;
    }),
  );
}
