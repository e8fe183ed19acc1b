use Rattle.std.proofs.Common.{refl, true, [], ◌∷◌, take, replicate, arith}
use Rattle.ec_model.specs.HostCalls.{calls_of}
use Rattle.ec_model.specs.SendSpi.{SpiWasUnserved}
use Rattle.ec_examples.specs.Sends.{changed_spi}
use Rattle.ec_examples.proofs.sends.changed_byte_over_spi.Goals as goal

pub returns-clause-heard : goal.returns-clause-heard
returns-clause-heard c = (
  refl,
  SpiWasUnserved (record {
    first = take 13 (calls_of changed_spi);
    answers = 0xFA ∷ 0xFA ∷ 0x03 ∷ [];
    stopped = 0;
    ready = true;
    asked = record { selected = 0; gots = 0xF8 ∷ replicate 11 0xF9; each = refl; made = refl };
    polled = refl;
    no_reply = λ same. omega (arith, same);
    made = refl;
    heard_is = refl;
  }),
)
