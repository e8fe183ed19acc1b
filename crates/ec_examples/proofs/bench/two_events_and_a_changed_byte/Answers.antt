use Rattle.std.proofs.Common.{arith, refl, false, [], ◌∷◌, None}
use Rattle.ec_types.specs.declared.bus.BusKind.TheVariants.{Lpc}
use Rattle.ec_model.specs.declared.event.Access.TheVariants.{PortOut}
use Rattle.ec_model.specs.declared.event.WorldReset.TheVariants.{Pin as ByPin}
use Rattle.ec_model.specs.declared.event.WorldEvent.TheVariants.{Reset}
use Rattle.ec_model.specs.declared.event.Event.TheVariants.{Access, Pin as PinEvent}
use Rattle.ec_model.specs.declared.event.Entry.TheVariants.{Step}
use Rattle.flash_dev.specs.declared.hurt.Hurt.TheVariants.{Whole}
use Rattle.ec_model.specs.Bench.{Bench}
use Rattle.ec_examples.specs.Flashes.{e64}
use Rattle.ec_examples.specs.Events.{powered, table_after}
use Rattle.ec_examples.proofs.bench.two_events_and_a_changed_byte.Goals as goal

-- the bench once the pin is off
between : Bench
between = record { table = table_after (powered e64 Lpc) (PinEvent false ∷ []); cut = None; armed = record { left = 1; event = Reset ByPin } ∷ []; faults = 0; cuts = 0 }

pub returns : goal.returns
unfolding between
returns c = record {
  world = Step (PinEvent false) 0 0 0 Whole ∷ [];
  own = Step (Access (PortOut 0x800 0x77)) 0 0x11 0 Whole;
  middle = between;
  parts = refl;
  events = (between, refl, refl, refl, record { begun = 0; step = (refl, refl); falls = tt; cause = tt; cut_is = refl; armed_is = refl; faults_later = omega arith; cuts_later = omega arith }, refl);
  own_is = (refl, refl, refl, record { begun = 0; step = (refl, refl); falls = tt; cause = tt; cut_is = refl; armed_is = refl; faults_later = omega arith; cuts_later = omega arith });
}
