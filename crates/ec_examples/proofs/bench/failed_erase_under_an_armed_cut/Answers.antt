use Rattle.std.proofs.Common.{◌≡◌, ◌≤◌, refl, ap, ℕ, zero, suc, [], Option, Some, inl, inr, arith}
use Rattle.std.specs.Prelude.{⊤}
use Rattle.ec_model.specs.declared.event.Event.{Event}
use Rattle.ec_model.specs.declared.event.Event.TheVariants.{Tick}
use Rattle.ec_model.specs.declared.event.Entry.TheVariants.{Step}
use Rattle.flash_dev.specs.declared.hurt.Hurt.TheVariants.{Failed, Cut}
use Rattle.ec_model.specs.declared.live.HashView.TheVariants.{Idle, Busy}
use Rattle.ec_model.specs.Operations.{Erase}
use Rattle.ec_model.specs.Table.{Table, Power, Off, On, core_of}
use Rattle.ec_model.specs.Hash.{shown_hash}
use Rattle.ec_model.specs.Work.{After, bus_after, lost_answer, work_on}
use Rattle.ec_model.specs.Step.{IsUnread}
use Rattle.ec_model.specs.Bench.{ArmedCut, unarmed}
use Rattle.ec_model.specs.Played.{EventBegins, PlaysEntry}
use Rattle.ec_examples.specs.Flashes.{e64}
use Rattle.ec_examples.specs.Waiting.{protect_waits, protect_failed}
use Rattle.ec_examples.proofs.BenchLemmas.{wait-entry}
use Rattle.ec_examples.proofs.bench.failed_erase_under_an_armed_cut.Goals as goal

-- one operation is not two
apart : ◌≡◌ {A = ℕ} 1 2 → ⊥
apart same = omega (arith, same)

pub returns-clause-second : goal.returns-clause-second
returns-clause-second c = record {
  world = [];
  own = Step Tick 0 0 0 Failed;
  middle = record { table = protect_waits; armed = []; cut = Some (record { left = 2; torn = [] }); faults = 0; cuts = 0 };
  parts = refl;
  events = refl;
  own_is = (
    refl,
    refl,
    refl,
    record {
      begun = 1;
      step = inr (record { place = 0; flash = e64; stops = record { stopped = Erase 7; is_there = refl; torn = record { same_length = refl; before = refl; after = refl } }; leaves = refl }, refl);
      falls = (omega arith, λ same. absurd (apart same.1));
      cause = omega arith;
      cut_is = refl;
      armed_is = refl;
      faults_later = omega arith;
      cuts_later = omega arith;
    },
  );
}

-- at most one, and not one, is none
none_of : (count : ℕ) → count ≤ 1 → (count ≡ 1 → ⊥) → count ≡ 0
none_of zero few other = refl
none_of (suc zero) few other = absurd (other refl)
none_of (suc (suc count)) few other = omega (arith, few)

-- a read failed, where the controller is on
abbrev pub Unread : Table → Event → Power → After → Type 0
Unread table event Off after = ⊤
Unread table event (On awake) after = IsUnread (core_of table awake) (bus_after awake.bus event) (lost_answer event) (work_on awake event) after

-- what failed with no operation begun was a read
read : (begun : ℕ) (table : Table) (event : Event) (power : Power) (after : After) → begun ≡ 0 → EventBegins Failed begun table event power after → Unread table event power after
read begun table event Off after none begins = tt
read begun table event (On awake) after none (inl unread) = unread.1
read begun table event (On awake) after none (inr failed) = absurd (some failed.0.place failed.1) where
  some : (place : ℕ) → begun ≡ suc place → ⊥
  some place is = omega (arith, none, is)

-- under a cut at the first operation none was begun, and a read that failed keeps the hash
refuse : (cut : Option ArmedCut) (faults cuts : ℕ) → PlaysEntry (record (unarmed protect_waits 0 0) { cut = Some (record { left = 1; torn = [] }) }) Tick 0 0 0 Failed (record (unarmed protect_failed faults cuts) { cut = cut }) → ⊥
refuse cut faults cuts plays =
    let none = none_of plays.begun plays.falls.0 (λ same. whole (plays.falls.1 (omega (arith, same), same)).0) in
    kept (ap (λ (after : After). shown_hash after.table.power) (read plays.begun protect_waits Tick protect_waits.power (record { table = protect_failed; answer = 0 }) none plays.step).leaves) where
      whole : Failed ≡ Cut → ⊥
      whole same = cc

      kept : Idle ≡ Busy 0x7000 8 1 → ⊥
      kept same = cc

pub returns-clause-first : goal.returns-clause-first
returns-clause-first c =
    λ cut faults cuts plays. refuse cut faults cuts (wait-entry protect_waits (Some (record { left = 1; torn = [] })) Failed (record (unarmed protect_failed faults cuts) { cut = cut }) plays)
