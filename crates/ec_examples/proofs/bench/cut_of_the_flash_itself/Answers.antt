use Rattle.std.proofs.Common.{refl, true, [], replicate, None, ◌⊎◌, inl, inr, arith}
use Rattle.ec_types.specs.declared.bus.BusKind.TheVariants.{Lpc}
use Rattle.flash_dev.specs.Counts.{Rose}
use Rattle.ec_model.specs.declared.event.Event.TheVariants.{Tick}
use Rattle.ec_model.specs.declared.event.Entry.TheVariants.{Step}
use Rattle.flash_dev.specs.declared.hurt.Hurt.TheVariants.{Cut}
use Rattle.ec_model.specs.Operations.{Program}
use Rattle.ec_model.specs.Table.{Table, off_table}
use Rattle.ec_model.specs.Bench.{unarmed}
use Rattle.ec_model.specs.Played.{PlaysEntry}
use Rattle.ec_examples.specs.Waiting.{write_waits, torn_in_the_second}
use Rattle.ec_examples.proofs.BenchLemmas.{wait-entry}
use Rattle.ec_examples.proofs.bench.cut_of_the_flash_itself.Goals as goal

pub returns-clause-counted : goal.returns-clause-counted
returns-clause-counted c = record {
  world = [];
  own = Step Tick 0 0 0 Cut;
  middle = unarmed write_waits 0 0;
  parts = refl;
  events = refl;
  own_is = (
    refl,
    refl,
    refl,
    record {
      begun = 2;
      step = (record { place = 1; flash = torn_in_the_second; stops = record { stopped = Program 0x8040 (replicate 64 2); is_there = refl; torn = record { same_length = refl; before = refl; after = refl } }; leaves = refl }, refl);
      falls = tt;
      cause = inr (omega arith);
      cut_is = refl;
      armed_is = refl;
      faults_later = omega arith;
      cuts_later = omega arith;
    },
  );
}

-- a cut entry of a bench with nothing armed has no cause where nothing was counted
causeless : (old after : Table) → PlaysEntry (unarmed old 0 0) Tick 0 0 0 Cut (unarmed after 0 0) → ⊥
causeless old after plays = refuse plays.cause where
  refuse : ⊥ ⊎ Rose 0 0 → ⊥
  refuse (inl never) = never
  refuse (inr rose) = omega (arith, rose)

pub returns-clause-uncounted : goal.returns-clause-uncounted
returns-clause-uncounted c = λ plays. causeless write_waits (off_table torn_in_the_second true Lpc) (wait-entry write_waits None Cut (unarmed (off_table torn_in_the_second true Lpc) 0 0) plays)
