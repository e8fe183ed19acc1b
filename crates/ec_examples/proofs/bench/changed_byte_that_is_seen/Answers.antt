use Rattle.std.proofs.Common.{arith, refl, [], None}
use Rattle.ec_types.specs.declared.bus.BusKind.TheVariants.{Lpc}
use Rattle.ec_model.specs.declared.event.Access.TheVariants.{PortIn}
use Rattle.ec_model.specs.declared.event.Event.TheVariants.{Access}
use Rattle.ec_model.specs.declared.event.Entry.TheVariants.{Step}
use Rattle.flash_dev.specs.declared.hurt.Hurt.TheVariants.{Whole}
use Rattle.ec_examples.specs.Flashes.{e64}
use Rattle.ec_examples.specs.Events.{powered}
use Rattle.ec_examples.proofs.bench.changed_byte_that_is_seen.Goals as goal

pub returns : goal.returns
returns c = record {
  world = [];
  own = Step (Access (PortIn 0x204)) 0 0 0xFF Whole;
  middle = record { table = powered e64 Lpc; cut = None; armed = []; faults = 0; cuts = 0 };
  parts = refl;
  events = refl;
  own_is = (refl, refl, refl, record { begun = 0; step = (refl, refl); falls = tt; cause = tt; cut_is = refl; armed_is = refl; faults_later = omega arith; cuts_later = omega arith });
}
