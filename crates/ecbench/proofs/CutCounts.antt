-- The entries in which power was lost, counted along calls on a bench.
use Rattle.std.proofs.Common.{◌≡◌, refl, sym, ap, ◌∙◌, subst, ℕ, zero, suc, ◌+◌, ◌-◌, ◌≤◌, true, List, [], ◌∷◌, ◌++◌, ◌⊎◌, inl, inr, Option, Some, None, arith}
use Rattle.std.specs.Prelude.{count_by, IfSome}
use Rattle.std.specs.List.{list_all}
use Rattle.flash_dev.specs.Counts.{Rose}
use Rattle.flash_dev.specs.Cuts.{Falls}
use Rattle.flash_dev.specs.declared.hurt.Hurt.{Hurt}
use Rattle.flash_dev.specs.declared.hurt.Hurt.TheVariants.{Whole, Failed, Cut}
use Rattle.ec_model.specs.declared.event.Access.{Access}
use Rattle.ec_model.specs.declared.event.Event.{Event}
use Rattle.ec_model.specs.declared.event.WorldEvent.{WorldEvent}
use Rattle.ec_model.specs.declared.event.Entry.{Entry}
use Rattle.ec_model.specs.declared.event.Entry.TheVariants.{Step, Mark}
use Rattle.ec_model.specs.Table.{Table}
use Rattle.ec_model.specs.Upset.{is_cut_entry}
use Rattle.ec_model.specs.Bench.{ArmedCut, Bench, BenchCall, Accesses, Waits, Happens, Marks, Arms, ArmsCut, still_armed, cut_at, cut_after}
use Rattle.ec_model.specs.Played.{PlaysEntry, PlaysEvents, PlaysAccess, PlaysWait, PlaysBehindDue, PlayedAll}
use Rattle.ec_wire.specs.Calls.{WireView, RunsAlong, PlaysAlong, bench_of, is_host_call}
use Rattle.flash_dev.specs.Told.{Changes}
use Rattle.ec_model.specs.Played.{Played}
use Rattle.ec_wire.proofs.Appends.{count_by-append}
use Rattle.ecbench.specs.Cutting.{CutsBy, armed_cuts}

-- a cut that is armed is one
at-most : (n : ℕ) (torn : List ℕ) → armed_cuts (cut_at n torn) ≤ 1
at-most zero torn = omega arith
at-most (suc n) torn = omega arith

-- operations arm no cut
after-le : (begun : ℕ) (cut : Option ArmedCut) → armed_cuts (cut_after begun cut) ≤ armed_cuts cut
after-le zero cut = omega arith
after-le (suc begun) None = omega arith
after-le (suc begun) (Some cut) = at-most (cut.left - suc begun) cut.torn

-- a cut that falls is armed no more
after-fell : (begun : ℕ) (cut : Option ArmedCut) → Falls cut begun → armed_cuts (cut_after begun cut) + 1 ≤ armed_cuts cut
after-fell begun None falls = absurd falls
after-fell zero (Some cut) falls = absurd (omega (arith, falls.0))
after-fell (suc begun) (Some cut) falls =
    let none : cut.left - suc begun ≡ 0 = omega (arith, falls.1) in
    subst (λ (n : ℕ). armed_cuts (cut_at n cut.torn) + 1 ≤ 1) (sym none) (omega arith)

-- nothing was lost
pub cuts-none : (cut : Option ArmedCut) (cuts : ℕ) → CutsBy 0 0 cut cuts cut cuts
cuts-none cut cuts = record { later = omega arith; armed = omega arith; few = omega arith }

-- counts behind others
pub cuts-then : (k l m n : ℕ) (first middle last : Option ArmedCut) (before between now : ℕ) → CutsBy k m first before middle between → CutsBy l n middle between last now → CutsBy (k + l) (m + n) first before last now
cuts-then k l m n first middle last before between now once again =
    record {
      later = omega (arith, once.later, again.later);
      armed = omega (arith, once.armed, again.armed);
      few = omega (arith, once.later, once.armed, once.few, again.later, again.armed, again.few);
    }

-- an entry of a bench
entry-cuts : (did event : Event) (answer meant seen : ℕ) (hurt : Hurt) (old new : Bench) → PlaysEntry old event answer meant seen hurt new → CutsBy 0 (count_by is_cut_entry (Step did answer meant seen hurt ∷ [])) old.cut old.cuts new.cut new.cuts
entry-cuts did event answer meant seen Whole old new plays =
    let kept : armed_cuts new.cut ≤ armed_cuts old.cut = subst (λ (cut : Option ArmedCut). armed_cuts cut ≤ armed_cuts old.cut) (sym plays.cut_is) (after-le plays.begun old.cut) in
    record { later = plays.cuts_later; armed = omega (arith, kept); few = omega (arith, plays.cuts_later, kept) }
entry-cuts did event answer meant seen Failed old new plays =
    let kept : armed_cuts new.cut ≤ armed_cuts old.cut = subst (λ (cut : Option ArmedCut). armed_cuts cut ≤ armed_cuts old.cut) (sym plays.cut_is) (after-le plays.begun old.cut) in
    record { later = plays.cuts_later; armed = omega (arith, kept); few = omega (arith, plays.cuts_later, kept) }
entry-cuts did event answer meant seen Cut old new plays = by plays.cause where
  kept : armed_cuts new.cut ≤ armed_cuts old.cut
  kept = subst (λ (cut : Option ArmedCut). armed_cuts cut ≤ armed_cuts old.cut) (sym plays.cut_is) (after-le plays.begun old.cut)

  by : Falls old.cut plays.begun ⊎ Rose old.cuts new.cuts → CutsBy 0 (count_by is_cut_entry (Step did answer meant seen Cut ∷ [])) old.cut old.cuts new.cut new.cuts
  by (inl falls) =
      let fell : armed_cuts new.cut + 1 ≤ armed_cuts old.cut = subst (λ (cut : Option ArmedCut). armed_cuts cut + 1 ≤ armed_cuts old.cut) (sym plays.cut_is) (after-fell plays.begun old.cut falls) in
      record { later = plays.cuts_later; armed = omega (arith, kept); few = omega (arith, plays.cuts_later, fell) }
  by (inr rose) = record { later = plays.cuts_later; armed = omega (arith, kept); few = omega (arith, plays.cuts_later, kept, rose) }

-- no entries leave a bench as it was
same-cuts : (old new : Bench) → new ≡ old → CutsBy 0 0 old.cut old.cuts new.cut new.cuts
same-cuts old new same = subst (λ (bench : Bench). CutsBy 0 0 old.cut old.cuts bench.cut bench.cuts) (sym same) (cuts-none old.cut old.cuts)

-- entries in two parts
parts-cuts : (first second entries : List Entry) (old middle new : Bench) → entries ≡ first ++ second → CutsBy 0 (count_by is_cut_entry first) old.cut old.cuts middle.cut middle.cuts → CutsBy 0 (count_by is_cut_entry second) middle.cut middle.cuts new.cut new.cuts →
    CutsBy 0 (count_by is_cut_entry entries) old.cut old.cuts new.cut new.cuts
parts-cuts first second entries old middle new parts once again =
    subst (λ (n : ℕ). CutsBy 0 n old.cut old.cuts new.cut new.cuts) (sym (ap (count_by is_cut_entry) parts ∙ count_by-append is_cut_entry first second))
    (cuts-then 0 0 (count_by is_cut_entry first) (count_by is_cut_entry second) old.cut middle.cut new.cut old.cuts middle.cuts new.cuts once again)

-- events of the world
pub events-cuts : (events : List Event) (entries : List Entry) (old new : Bench) → PlaysEvents old events entries new → CutsBy 0 (count_by is_cut_entry entries) old.cut old.cuts new.cut new.cuts
events-cuts [] [] old new plays = same-cuts old new plays
events-cuts [] (entry ∷ entries) old new plays = absurd plays
events-cuts (event ∷ events) [] old new plays = absurd plays
events-cuts (event ∷ events) (Mark line ∷ entries) old new plays = absurd plays
events-cuts (event ∷ events) (Step did answer meant seen hurt ∷ entries) old new (middle, did_is, meant_is, seen_is, plays, more) =
    parts-cuts (Step did answer meant seen hurt ∷ []) entries (Step did answer meant seen hurt ∷ entries) old middle new refl (entry-cuts did event answer meant seen hurt old middle plays) (events-cuts events entries middle new more)

-- an access, behind the events that were due
own-access : (access : Access) (due : List WorldEvent) (own : Entry) (old new : Bench) → PlaysAccess access due old own new → CutsBy 0 (count_by is_cut_entry (own ∷ [])) old.cut old.cuts new.cut new.cuts
own-access access due (Step event answer meant seen hurt) old new (event_is, meant_is, seen_is, plays) = entry-cuts event event answer meant seen hurt old new plays
own-access access due (Mark line) old new never = absurd never

own-wait : (due : List WorldEvent) (own : Entry) (old new : Bench) → PlaysWait due old own new → CutsBy 0 (count_by is_cut_entry (own ∷ [])) old.cut old.cuts new.cut new.cuts
own-wait due (Step event answer meant seen hurt) old new (event_is, meant_is, seen_is, plays) = entry-cuts event event answer meant seen hurt old new plays
own-wait due (Mark line) old new never = absurd never

behind-cuts : (Own : List WorldEvent → Bench → Entry → Bench → Type 0) (entries : List Entry) (old new : Bench) → ((due : List WorldEvent) (own : Entry) (from to : Bench) → Own due from own to → CutsBy 0 (count_by is_cut_entry (own ∷ [])) from.cut from.cuts to.cut to.cuts) →
    PlaysBehindDue Own old entries new → CutsBy 0 (count_by is_cut_entry entries) old.cut old.cuts new.cut new.cuts
behind-cuts Own entries old new own plays =
    parts-cuts plays.world (plays.own ∷ []) entries (record old { armed = still_armed old.armed }) plays.middle new plays.parts
    (events-cuts _ plays.world (record old { armed = still_armed old.armed }) plays.middle plays.events) (own _ plays.own plays.middle new plays.own_is)

-- calls of the host
pub host-cuts : (calls : List BenchCall) (entries : List Entry) (old new : Bench) → list_all is_host_call calls ≡ true → PlayedAll old calls entries new → CutsBy 0 (count_by is_cut_entry entries) old.cut old.cuts new.cut new.cuts
host-cuts [] entries old new hosts (none, same) = subst (λ (list : List Entry). CutsBy 0 (count_by is_cut_entry list) old.cut old.cuts new.cut new.cuts) (sym none) (same-cuts old new same)
host-cuts (Accesses access ∷ calls) entries old new hosts (first, rest, middle, parts, played, more) =
    parts-cuts first rest entries old middle new parts (behind-cuts (PlaysAccess access) first old middle (own-access access) played) (host-cuts calls rest middle new hosts more)
host-cuts (Waits ∷ calls) entries old new hosts (first, rest, middle, parts, played, more) =
    parts-cuts first rest entries old middle new parts (behind-cuts PlaysWait first old middle own-wait played) (host-cuts calls rest middle new hosts more)
host-cuts (Happens event ∷ calls) entries old new hosts played = cc
host-cuts (Marks line ∷ calls) entries old new hosts played = cc
host-cuts (Arms left event taken ∷ calls) entries old new hosts played = cc
host-cuts (ArmsCut left torn ∷ calls) entries old new hosts played = cc

-- the same where the tables are told
pub told-then : (k l m n : ℕ) (first middle last : Option ArmedCut) (before between now : ℕ) (added : List Entry) (o p : Option Table) → RunsAlong added o p → IfSome o (λ table. CutsBy k m first before middle between) → IfSome p (λ table. CutsBy l n middle between last now) →
    IfSome o (λ table. CutsBy (k + l) (m + n) first before last now)
told-then k l m n first middle last before between now added None p runs once again = tt
told-then k l m n first middle last before between now added (Some a) None runs once again = absurd runs
told-then k l m n first middle last before between now added (Some a) (Some b) runs once again = cuts-then k l m n first middle last before between now once again

-- of calls of the host on a wire
pub host-told : (added : List Entry) (old new : WireView) (o p : Option Table) → PlaysAlong added old new o p → IfSome o (λ table. CutsBy 0 (count_by is_cut_entry added) old.cut old.own_cuts new.cut new.own_cuts)
host-told added old new None p played = tt
host-told added old new (Some a) None played = absurd played
host-told added old new (Some a) (Some b) played = host-cuts played.calls added (bench_of old a) (bench_of new b) played.hosts played.played

-- of an event of the world
pub happens-told : (happened : WorldEvent) (added : List Entry) (old new : WireView) (o p : Option Table) → Changes (λ before after. Played (bench_of old before) (Happens happened) added (bench_of new after)) o p →
    IfSome o (λ table. CutsBy 0 (count_by is_cut_entry added) old.cut old.own_cuts new.cut new.own_cuts)
happens-told happened added old new None p played = tt
happens-told happened added old new (Some a) None played = absurd played
happens-told happened added old new (Some a) (Some b) played = events-cuts _ added (bench_of old a) (bench_of new b) played

-- of what changes neither the armed cut nor the count
pub still-told : (old new : WireView) (o : Option Table) → new.cut ≡ old.cut → new.own_cuts ≡ old.own_cuts → IfSome o (λ table. CutsBy 0 0 old.cut old.own_cuts new.cut new.own_cuts)
still-told old new None cut_is cuts_is = tt
still-told old new (Some table) cut_is cuts_is =
    subst (λ (cut : Option ArmedCut). CutsBy 0 0 old.cut old.own_cuts cut new.own_cuts) (sym cut_is) (subst (λ (cuts : ℕ). CutsBy 0 0 old.cut old.own_cuts old.cut cuts) (sym cuts_is) (cuts-none old.cut old.own_cuts))

-- of a cut that is armed
pub armed-told : (operation : ℕ) (torn : List ℕ) (old new : WireView) (o : Option Table) → new.cut ≡ cut_at operation torn → new.own_cuts ≡ old.own_cuts → IfSome o (λ table. CutsBy 1 0 old.cut old.own_cuts new.cut new.own_cuts)
armed-told operation torn old new None cut_is cuts_is = tt
armed-told operation torn old new (Some table) cut_is cuts_is =
    let few : armed_cuts new.cut ≤ 1 = subst (λ (cut : Option ArmedCut). armed_cuts cut ≤ 1) (sym cut_is) (at-most operation torn) in
    record { later = omega (arith, cuts_is); armed = omega (arith, few); few = omega (arith, few, cuts_is) }

-- the same with other words for the numbers
pub told-as : (k l m n : ℕ) (old new : WireView) (o : Option Table) → k ≡ l → m ≡ n → IfSome o (λ table. CutsBy k m old.cut old.own_cuts new.cut new.own_cuts) → IfSome o (λ table. CutsBy l n old.cut old.own_cuts new.cut new.own_cuts)
told-as k l m n old new o armings lost told =
    subst (λ (a : ℕ). IfSome o (λ table. CutsBy a n old.cut old.own_cuts new.cut new.own_cuts)) armings
    (subst (λ (b : ℕ). IfSome o (λ table. CutsBy k b old.cut old.own_cuts new.cut new.own_cuts)) lost told)
