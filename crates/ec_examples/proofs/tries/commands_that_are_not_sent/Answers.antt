use Rattle.std.proofs.Common.{refl, []}
use Rattle.ec_model.specs.Asks.{NoPower, Short}
use Rattle.ec_model.specs.Tries.{SaidNoPower, SaidShort, Final}
use Rattle.ec_examples.proofs.tries.commands_that_are_not_sent.Goals as goal

pub returns-clause-off : goal.returns-clause-off
returns-clause-off c = (
  [],
  [],
  Final SaidNoPower,
  refl,
  record {
    first = [];
    rest = [];
    told = NoPower;
    last = NoPower;
    parts = refl;
    asked = record { first = []; rest = []; told = NoPower; parts = refl; asked = (refl, refl); again = (refl, refl) };
    resent = (refl, refl);
    end_is = refl;
  },
  (refl, refl),
)

pub returns-clause-short : goal.returns-clause-short
returns-clause-short c = (
  [],
  [],
  Final SaidShort,
  refl,
  record {
    first = [];
    rest = [];
    told = Short;
    last = Short;
    parts = refl;
    asked = record { first = []; rest = []; told = Short; parts = refl; asked = (refl, refl); again = (refl, refl) };
    resent = (refl, refl);
    end_is = refl;
  },
  (refl, refl),
)
