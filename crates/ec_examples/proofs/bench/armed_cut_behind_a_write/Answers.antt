use Rattle.std.proofs.Common.{◌≡◌, refl, ℕ, [], ◌∷◌, Some, arith}
use Rattle.ec_model.specs.declared.event.Event.TheVariants.{Tick}
use Rattle.ec_examples.specs.Waiting.{write_waits}
use Rattle.ec_examples.specs.Entries.{plain}
use Rattle.ec_examples.proofs.bench.armed_cut_behind_a_write.Goals as goal

-- three operations are not five
apart : ◌≡◌ {A = ℕ} 3 5 → ⊥
apart same = omega (arith, same)

pub returns : goal.returns
returns c = record {
  world = [];
  own = plain Tick 0;
  middle = record { table = write_waits; armed = []; cut = Some (record { left = 5; torn = 0xA5 ∷ 0xA5 ∷ [] }); faults = 0; cuts = 0 };
  parts = refl;
  events = refl;
  own_is = (
    refl,
    refl,
    refl,
    record {
      begun = 3;
      step = (refl, refl);
      falls = (omega arith, λ same. absurd (apart same.1));
      cause = tt;
      cut_is = refl;
      armed_is = refl;
      faults_later = omega arith;
      cuts_later = omega arith;
    },
  );
}
