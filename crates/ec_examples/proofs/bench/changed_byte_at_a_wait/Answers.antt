use Rattle.std.proofs.Common.{refl, []}
use Rattle.ec_types.specs.declared.bus.BusKind.TheVariants.{Lpc}
use Rattle.ec_model.specs.declared.event.Event.TheVariants.{Tick}
use Rattle.ec_model.specs.WholeStep.{stepped}
use Rattle.ec_model.specs.Bench.{unarmed}
use Rattle.ec_examples.specs.Flashes.{e64}
use Rattle.ec_examples.specs.Events.{powered}
use Rattle.ec_examples.specs.Entries.{waited}
use Rattle.ec_examples.proofs.BenchLemmas.{whole_entry}
use Rattle.ec_examples.proofs.bench.changed_byte_at_a_wait.Goals as goal

pub returns : goal.returns
returns c = record {
  world = [];
  own = waited;
  middle = unarmed (powered e64 Lpc) 0 0;
  parts = refl;
  events = refl;
  own_is = (refl, refl, refl, whole_entry (powered e64 Lpc) [] Tick 0 0 0 (stepped (powered e64 Lpc) Tick).table refl);
}
