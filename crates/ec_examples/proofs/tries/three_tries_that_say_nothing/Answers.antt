use Rattle.std.proofs.Common.{refl, true, false, [], ◌++◌}
use Rattle.ec_model.specs.Asks.{Status, NoReply}
use Rattle.ec_model.specs.Tries.{Again}
use Rattle.ec_examples.specs.Tries.{hello_asked, refused, success}
use Rattle.ec_model.specs.Heard.{Bad}
use Rattle.ec_examples.specs.Sends.{hello_request, changed_lpc}
use Rattle.ec_examples.specs.Entries.{lpc_exchange}
use Rattle.ec_examples.proofs.Exchanges.{changed-sent}
use Rattle.ec_examples.proofs.TryLemmas.{asks}
use Rattle.ec_examples.proofs.tries.three_tries_that_say_nothing.Goals as goal

pub returns : goal.returns
returns c = (
  lpc_exchange hello_request refused,
  changed_lpc ++ (lpc_exchange hello_request success ++ []),
  Again true,
  refl,
  record {
    first = lpc_exchange hello_request refused;
    rest = [];
    told = Status 3 [];
    last = Status 3 [];
    parts = refl;
    asked = record { first = lpc_exchange hello_request refused; rest = []; told = Status 3 []; parts = refl; asked = asks hello_asked 4 refused (record { whole = refl; heard = refl }); again = (refl, refl) };
    resent = (refl, refl);
    end_is = refl;
  },
  (
    changed_lpc,
    lpc_exchange hello_request success ++ [],
    Again false,
    refl,
    record {
      first = changed_lpc;
      rest = [];
      told = NoReply;
      last = NoReply;
      parts = refl;
      asked = record { first = changed_lpc; rest = []; told = NoReply; parts = refl; asked = record { heard = Bad; sent = changed-sent; end_is = refl }; again = (refl, refl) };
      resent = (refl, refl);
      end_is = refl;
    },
    (
      lpc_exchange hello_request success,
      [],
      Again false,
      refl,
      record {
        first = lpc_exchange hello_request success;
        rest = [];
        told = NoReply;
        last = NoReply;
        parts = refl;
        asked = record { first = lpc_exchange hello_request success; rest = []; told = NoReply; parts = refl; asked = asks hello_asked 4 success (record { whole = refl; heard = refl }); again = (refl, refl) };
        resent = (refl, refl);
        end_is = refl;
      },
      (refl, refl),
    ),
  ),
)
