use Rattle.std.proofs.Common.{refl, [], ◌∷◌}
use Rattle.ec_model.specs.Asks.{Status}
use Rattle.ec_model.specs.Tries.{Answered, Final}
use Rattle.ec_examples.specs.Tries.{hello_tried, hello_asked}
use Rattle.ec_examples.specs.Sends.{hello_response}
use Rattle.ec_examples.proofs.TryLemmas.{asks}
use Rattle.ec_examples.proofs.tries.command_that_is_answered_at_once.Goals as goal

pub returns : goal.returns
returns c = (
  hello_tried,
  [],
  Final (Answered 0 (0xD4 ∷ 0xC3 ∷ 0xB2 ∷ 0xA1 ∷ [])),
  refl,
  record {
    first = hello_tried;
    rest = [];
    told = Status 0 (0xD4 ∷ 0xC3 ∷ 0xB2 ∷ 0xA1 ∷ []);
    last = Status 0 (0xD4 ∷ 0xC3 ∷ 0xB2 ∷ 0xA1 ∷ []);
    parts = refl;
    asked = record { first = hello_tried; rest = []; told = Status 0 (0xD4 ∷ 0xC3 ∷ 0xB2 ∷ 0xA1 ∷ []); parts = refl; asked = asks hello_asked 4 hello_response (record { whole = refl; heard = refl }); again = (refl, refl) };
    resent = (refl, refl);
    end_is = refl;
  },
  (refl, refl),
)
