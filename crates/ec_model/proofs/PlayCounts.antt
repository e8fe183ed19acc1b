-- What a flash counts along calls on its bench never falls.
use Rattle.std.proofs.Common.{◌≡◌, ap, ℕ, ◌≤◌, List, [], ◌∷◌, arith}
use Rattle.flash_dev.specs.Counts.{Rose}
use Rattle.ec_model.specs.declared.event.Access.{Access}
use Rattle.ec_model.specs.declared.event.Event.{Event}
use Rattle.ec_model.specs.declared.event.WorldEvent.{WorldEvent}
use Rattle.ec_model.specs.declared.event.Entry.{Entry}
use Rattle.ec_model.specs.declared.event.Entry.TheVariants.{Step, Mark}
use Rattle.flash_dev.specs.declared.hurt.Hurt.{Hurt}
use Rattle.ec_model.specs.Bench.{Bench, BenchCall, CountsNothing, Accesses, Waits, Happens, Marks, Arms, ArmsCut, due_events, still_armed, events_among}
use Rattle.ec_model.specs.Played.{PlaysEntry, PlaysEvents, PlaysAccess, PlaysWait, PlaysBehindDue, Played, PlayedAll}

-- neither count fell
pub record Later (old new : Bench) : Type 0 where
  pub faults : old.faults ≤ new.faults
  pub cuts : old.cuts ≤ new.cuts

later-same : (old new : Bench) → new.faults ≡ old.faults → new.cuts ≡ old.cuts → Later old new
later-same old new faults cuts = record { faults = omega (arith, faults); cuts = omega (arith, cuts) }

later-then : (old middle new : Bench) → Later old middle → Later middle new → Later old new
later-then old middle new first second = record { faults = omega (arith, first.faults, second.faults); cuts = omega (arith, first.cuts, second.cuts) }

pub entry-later : (old : Bench) (event : Event) (answer meant seen : ℕ) (hurt : Hurt) (new : Bench) → PlaysEntry old event answer meant seen hurt new → Later old new
entry-later old event answer meant seen hurt new plays = record { faults = plays.faults_later; cuts = plays.cuts_later }

pub events-later : (old : Bench) (events : List Event) (entries : List Entry) (new : Bench) → PlaysEvents old events entries new → Later old new
events-later old [] [] new same = later-same old new (ap (λ (bench : Bench). bench.faults) same) (ap (λ (bench : Bench). bench.cuts) same)
events-later old [] (entry ∷ entries) new plays = absurd plays
events-later old (event ∷ events) [] new plays = absurd plays
events-later old (event ∷ events) (Mark line ∷ entries) new plays = absurd plays
events-later old (event ∷ events) (Step did answer meant seen hurt ∷ entries) new plays =
    later-then old plays.0 new (entry-later old event answer meant seen hurt plays.0 plays.4) (events-later plays.0 events entries new plays.5)

pub access-later : (access : Access) (due : List WorldEvent) (old : Bench) (own : Entry) (new : Bench) → PlaysAccess access due old own new → Later old new
access-later access due old (Step event answer meant seen hurt) new plays = entry-later old event answer meant seen hurt new plays.3
access-later access due old (Mark line) new plays = absurd plays

pub wait-later : (due : List WorldEvent) (old : Bench) (own : Entry) (new : Bench) → PlaysWait due old own new → Later old new
wait-later due old (Step event answer meant seen hurt) new plays = entry-later old event answer meant seen hurt new plays.3
wait-later due old (Mark line) new plays = absurd plays

-- the bench once the due events are no more armed
abbrev pub disarmed : Bench → Bench
disarmed old = record old { armed = still_armed old.armed }

due-later : (Own : List WorldEvent → Bench → Entry → Bench → Type 0) (old : Bench) (entries : List Entry) (new : Bench)
    → ((due : List WorldEvent) (middle : Bench) (own : Entry) → Own due middle own new → Later middle new)
    → PlaysBehindDue Own old entries new → Later old new
due-later Own old entries new own_later plays =
    let first = events-later (disarmed old) (events_among (due_events old.armed)) plays.world plays.middle plays.events in
    later-then old plays.middle new (record { faults = first.faults; cuts = first.cuts }) (own_later _ plays.middle plays.own plays.own_is)

pub call-later : (old : Bench) (call : BenchCall) (entries : List Entry) (new : Bench) → Played old call entries new → Later old new
call-later old (Accesses access) entries new plays = due-later (PlaysAccess access) old entries new (λ due middle own. access-later access due middle own new) plays
call-later old Waits entries new plays = due-later PlaysWait old entries new (λ due middle own. wait-later due middle own new) plays
call-later old (Happens event) entries new plays = events-later old (events_among (event ∷ [])) entries new plays
call-later old (Marks line) entries new plays = later-same old new (ap (λ (bench : Bench). bench.faults) plays.1) (ap (λ (bench : Bench). bench.cuts) plays.1)
call-later old (Arms left event taken) entries new plays = later-same old new (ap (λ (bench : Bench). bench.faults) plays.2) (ap (λ (bench : Bench). bench.cuts) plays.2)
call-later old (ArmsCut left torn) entries new plays = later-same old new (ap (λ (bench : Bench). bench.faults) plays.1) (ap (λ (bench : Bench). bench.cuts) plays.1)

pub calls-later : (old : Bench) (calls : List BenchCall) (entries : List Entry) (new : Bench) → PlayedAll old calls entries new → Later old new
calls-later old [] entries new plays = later-same old new (ap (λ (bench : Bench). bench.faults) plays.1) (ap (λ (bench : Bench). bench.cuts) plays.1)
calls-later old (call ∷ calls) entries new plays = later-then old plays.2 new (call-later old call plays.0 plays.2 plays.4) (calls-later plays.2 calls plays.1 new plays.5)

-- a rise in a part of the time is one in all of it
rose-wider : (a b c d : ℕ) → a ≤ b → c ≤ d → Rose b c → Rose a d
rose-wider a b c d first last rose = omega (arith, first, last, rose)

-- nothing was counted in the first part of the time, nor in the rest
pub still-first : (old middle new : Bench) → Later middle new → CountsNothing old new → CountsNothing old middle
still-first old middle new later still =
    record {
      faults = λ rose. still.faults (rose-wider old.faults old.faults middle.faults new.faults (omega arith) later.faults rose);
      cuts = λ rose. still.cuts (rose-wider old.cuts old.cuts middle.cuts new.cuts (omega arith) later.cuts rose);
    }

pub still-rest : (old middle new : Bench) → Later old middle → CountsNothing old new → CountsNothing middle new
still-rest old middle new later still =
    record {
      faults = λ rose. still.faults (rose-wider old.faults middle.faults new.faults new.faults later.faults (omega arith) rose);
      cuts = λ rose. still.cuts (rose-wider old.cuts middle.cuts new.cuts new.cuts later.cuts (omega arith) rose);
    }

-- a count that did not rise stays
pub count-same : (a b : ℕ) → a ≤ b → ¬ Rose a b → b ≡ a
count-same a b later still = omega (arith, later, still)
