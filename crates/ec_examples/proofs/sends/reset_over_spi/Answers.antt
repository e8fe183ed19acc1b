use Rattle.std.proofs.Common.{refl, true, [], ◌∷◌, ◌++◌, take, replicate, arith}
use Rattle.ec_model.specs.HostCalls.{calls_of}
use Rattle.ec_model.specs.SendSpi.{SpiWasUnserved}
use Rattle.ec_examples.specs.Sends.{reset_spi}
use Rattle.ec_examples.proofs.sends.reset_over_spi.Goals as goal

pub returns : goal.returns
returns c = λ flash. (
  refl,
  SpiWasUnserved (record {
    first = take 13 (calls_of (reset_spi flash));
    answers = 0xFF ∷ [];
    stopped = 0;
    ready = true;
    asked = record { selected = 0; gots = 0xF8 ∷ replicate 4 0xF9 ++ replicate 7 0xFF; each = refl; made = refl };
    polled = refl;
    no_reply = λ same. omega (arith, same);
    made = refl;
    heard_is = refl;
  }),
)
