-- Entries of a bench on which no cut is armed.
use Rattle.std.proofs.Common.{◌≡◌, refl, subst, ℕ, zero, suc, List, [], ◌∷◌, ◌++◌, Option, None, arith, length}
use Rattle.ec_model.specs.declared.event.Event.{Event}
use Rattle.ec_model.specs.declared.event.Event.TheVariants.{Tick}
use Rattle.ec_model.specs.declared.event.Entry.{Entry}
use Rattle.flash_dev.specs.declared.hurt.Hurt.{Hurt}
use Rattle.flash_dev.specs.declared.hurt.Hurt.TheVariants.{Whole}
use Rattle.ec_model.specs.Table.{Table, Power, Off, On}
use Rattle.ec_model.specs.Work.{After, operations_by_power, operations_of}
use Rattle.ec_model.specs.Step.{EventLeavesBy, IsStep}
use Rattle.ec_model.specs.declared.event.Entry.TheVariants.{Step}
use Rattle.ec_model.specs.Bench.{Armed, ArmedCut, Bench, Waits, unarmed, cut_after}
use Rattle.ec_model.specs.Played.{EventBegins, PlaysEntry, PlaysEvents, PlaysWait, Played}

-- a whole event began all of its operations
begins : (table : Table) (event : Event) (power : Power) (after : After) → EventLeavesBy Whole table event power after
    → EventBegins Whole (length (operations_by_power table event power)) table event power after
begins table event Off after leaves = (refl, leaves)
begins table event (On awake) after leaves = (refl, leaves)

-- where no cut is armed, none is behind operations
none-after : (begun : ℕ) → None ≡ cut_after begun None
none-after zero = refl
none-after (suc begun) = refl

-- a whole step of the controller is an entry of its bench, whatever events are armed
pub whole_entry : (table : Table) (armed : List Armed) (event : Event) (answer meant seen : ℕ) (after : Table)
    → IsStep table (Step event answer meant seen Whole) after
    → PlaysEntry (record (unarmed table 0 0) { armed = armed }) event answer meant seen Whole (record (unarmed after 0 0) { armed = armed })
whole_entry table armed event answer meant seen after step = record {
  begun = length (operations_of table event);
  step = begins table event table.power (record { table = after; answer = answer }) step;
  falls = tt;
  cause = tt;
  cut_is = none-after (length (operations_of table event));
  armed_is = refl;
  faults_later = omega arith;
  cuts_later = omega arith;
}

-- a wait with no event armed that has one entry is that entry
pub wait-entry : (table : Table) (cut : Option ArmedCut) (hurt : Hurt) (new : Bench) → Played (record (unarmed table 0 0) { cut = cut }) Waits (Step Tick 0 0 0 hurt ∷ []) new
    → PlaysEntry (record (unarmed table 0 0) { cut = cut }) Tick 0 0 0 hurt new
wait-entry table cut hurt new plays = found plays.world plays.own plays.middle plays.parts plays.events plays.own_is where
  only : (other : Entry) → Step Tick 0 0 0 hurt ∷ [] ≡ other ∷ [] → other ≡ Step Tick 0 0 0 hurt
  only other parts = cc

  found : (world : List Entry) (own : Entry) (middle : Bench) → Step Tick 0 0 0 hurt ∷ [] ≡ world ++ own ∷ [] → PlaysEvents (record (unarmed table 0 0) { cut = cut }) [] world middle
      → PlaysWait [] middle own new → PlaysEntry (record (unarmed table 0 0) { cut = cut }) Tick 0 0 0 hurt new
  found [] own middle parts same plays =
      let moved = subst (λ (bench : Bench). PlaysWait [] bench own new) same plays in
      (subst (λ (entry : Entry). PlaysWait [] (record (unarmed table 0 0) { cut = cut }) entry new) (only own parts) moved).3
  found (entry ∷ world) own middle parts events plays = absurd events
