use Rattle.std.proofs.Common.{refl, [], ◌∷◌}
use Rattle.ec_model.specs.declared.event.Event.TheVariants.{Tick}
use Rattle.ec_model.specs.WholeStep.{stepped}
use Rattle.ec_model.specs.Bench.{unarmed}
use Rattle.ec_examples.specs.Waiting.{write_waits}
use Rattle.ec_examples.specs.Entries.{waited}
use Rattle.ec_examples.proofs.BenchLemmas.{whole_entry}
use Rattle.ec_examples.proofs.bench.armed_cut_replaced_and_disarmed.Goals as goal

pub returns-clause-disarmed : goal.returns-clause-disarmed
returns-clause-disarmed c = (
  [],
  waited ∷ [],
  unarmed write_waits 0 0,
  refl,
  (refl, refl),
  (
    waited ∷ [],
    [],
    unarmed (stepped write_waits Tick).table 0 0,
    refl,
    record {
      world = [];
      own = waited;
      middle = unarmed write_waits 0 0;
      parts = refl;
      events = refl;
      own_is = (refl, refl, refl, whole_entry write_waits [] Tick 0 0 0 (stepped write_waits Tick).table refl);
    },
    (refl, refl),
  ),
)
