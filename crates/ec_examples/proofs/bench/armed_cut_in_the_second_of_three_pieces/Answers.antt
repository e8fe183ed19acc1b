use Rattle.std.proofs.Common.{refl, [], ◌∷◌, replicate, Some, inl, arith}
use Rattle.ec_model.specs.declared.event.Event.TheVariants.{Tick}
use Rattle.ec_model.specs.declared.event.Entry.TheVariants.{Step}
use Rattle.flash_dev.specs.declared.hurt.Hurt.TheVariants.{Cut}
use Rattle.ec_model.specs.Operations.{Program}
use Rattle.ec_examples.specs.Waiting.{write_waits, torn_in_the_second}
use Rattle.ec_examples.proofs.bench.armed_cut_in_the_second_of_three_pieces.Goals as goal

pub returns : goal.returns
returns c = record {
  world = [];
  own = Step Tick 0 0 0 Cut;
  middle = record { table = write_waits; armed = []; cut = Some (record { left = 2; torn = 0xA5 ∷ 0xA5 ∷ [] }); faults = 0; cuts = 0 };
  parts = refl;
  events = refl;
  own_is = (
    refl,
    refl,
    refl,
    record {
      begun = 2;
      step = (record { place = 1; flash = torn_in_the_second; stops = record { stopped = Program 0x8040 (replicate 64 2); is_there = refl; torn = record { same_length = refl; before = refl; after = refl } }; leaves = refl }, refl);
      falls = (omega arith, λ same. (refl, record { stopped = Program 0x8040 (replicate 64 2); is_there = refl; leaves = inl refl }));
      cause = inl (omega arith, refl);
      cut_is = refl;
      armed_is = refl;
      faults_later = omega arith;
      cuts_later = omega arith;
    },
  );
}
