-- What a drill adds, round by round.
use Rattle.std.proofs.Common.{◌≡◌, refl, sym, ap, ◌∙◌, subst, ℕ, zero, suc, ◌+◌, Bool, true, false, List, [], ◌∷◌, ◌++◌, ◌⊎◌, inl, inr, Option, Some, None, arith}
use Rattle.std.specs.Prelude.{IfSome, IsTrue, count_by}
use Rattle.std.specs.List.{list_all}
use Rattle.ec_model.specs.declared.event.WorldEvent.TheVariants.{Power}
use Rattle.ec_model.specs.declared.event.Entry.{Entry}
use Rattle.ec_model.specs.declared.event.Entry.TheVariants.{Step}
use Rattle.ec_model.specs.Table.{Table}
use Rattle.ec_model.specs.Bench.{BenchCall, Happens as HappensNow, ArmsCut}
use Rattle.ec_model.specs.Upset.{is_cut_entry}
use Rattle.ec_wire.specs.Calls.{WireView, is_host_call, with_spare}
use Rattle.ec_wire.proofs.Appends.{count_by-append}
use Rattle.bench_wire.specs.Adding.{Extends}
use Rattle.bench_wire.proofs.Extending.{extends-then, extends-grows}
use Rattle.sync_rules.specs.declared.ending.SyncEnd.{SyncEnd}
use Rattle.sync_engine.specs.OnWire.{SyncsInRoom}
use Rattle.drill_draws.specs.Rounds.{drill_image, drill_operation, drill_torn}
use Rattle.drill_lines.specs.Drilling.{armed, disarmed, PowersBack, IsUpset, DrillsRound, DrillsInRound, AtFirst, AtPower, AtSecond, behind_rounds, DrillsRounds, DrillsInPart}
use Rattle.ecbench.specs.Cutting.{CutsBy}
use Rattle.ecbench.specs.Playing.{AreRoundCalls, AreDrillCalls, PlaysOn}
use Rattle.ecbench.proofs.CutCounts.{told-then, told-as, host-told, happens-told, still-told, armed-told}
use Rattle.ecbench.proofs.PlayLines.{on-then, on-none, on-cut, on-event, on-host}
use Rattle.ecbench.proofs.OneCall.{extends-spare, extends-none, cut-extends}

-- what a part of a drill added, how many cuts it armed, and its calls
pub record PartAdds (armings : ℕ) (are : List BenchCall → Type 0) (old new : WireView) : Type 0 where
  pub added : List Entry
  pub extends : Extends added old new
  pub cuts : IfSome old.table (λ table. CutsBy armings (count_by is_cut_entry added) old.cut old.own_cuts new.cut new.own_cuts)
  pub calls : List BenchCall
  pub called : are calls
  pub played : PlaysOn calls added old new

-- a part behind another
part-then : (k l : ℕ) (first second both : List BenchCall → Type 0) (old middle new : WireView) → ((before after : List BenchCall) → first before → second after → both (before ++ after)) → PartAdds k first old middle → PartAdds l second middle new → PartAdds (k + l) both old new
part-then k l first second both old middle new joins once again =
    record {
      added = once.added ++ again.added;
      extends = extends-then once.added again.added old middle new once.extends again.extends;
      cuts = told-as (k + l) (k + l) (count_by is_cut_entry once.added + count_by is_cut_entry again.added) (count_by is_cut_entry (once.added ++ again.added)) old new old.table refl (sym (count_by-append is_cut_entry once.added again.added))
          (told-then k l (count_by is_cut_entry once.added) (count_by is_cut_entry again.added) old.cut middle.cut new.cut old.own_cuts middle.own_cuts new.own_cuts once.added old.table middle.table once.extends.run once.cuts again.cuts);
      calls = once.calls ++ again.calls;
      called = joins once.calls again.calls once.called again.called;
      played = on-then once.calls again.calls once.added again.added old middle new once.played again.played;
    }

-- the same, as many cuts and other calls
part-as : (k l : ℕ) (first other : List BenchCall → Type 0) (old new : WireView) → k ≡ l → ((calls : List BenchCall) → first calls → other calls) → PartAdds k first old new → PartAdds l other old new
part-as k l first other old new same are part =
    record {
      added = part.added;
      extends = part.extends;
      cuts = told-as k l (count_by is_cut_entry part.added) (count_by is_cut_entry part.added) old new old.table same refl part.cuts;
      calls = part.calls;
      called = are part.calls part.called;
      played = part.played;
    }

-- a cut that is armed
armed-adds : (operation : ℕ) (torn : List ℕ) (old : WireView) → PartAdds 1 (λ calls. calls ≡ ArmsCut operation torn ∷ []) old (armed operation torn old)
armed-adds operation torn old =
    record {
      added = [];
      extends = cut-extends operation torn old (armed operation torn old) refl;
      cuts = armed-told operation torn old (armed operation torn old) old.table refl refl;
      calls = ArmsCut operation torn ∷ [];
      called = refl;
      played = on-cut operation torn old (armed operation torn old) refl;
    }

-- no cut is armed any more
none-told : (old : WireView) (o : Option Table) → IfSome o (λ table. CutsBy 0 0 old.cut old.own_cuts None old.own_cuts)
none-told old None = tt
none-told old (Some table) = record { later = omega arith; armed = omega arith; few = omega arith }

disarmed-adds : (old : WireView) → PartAdds 0 (λ calls. calls ≡ ArmsCut 0 [] ∷ []) old (disarmed old)
disarmed-adds old =
    record {
      added = [];
      extends = cut-extends 0 [] old (disarmed old) refl;
      cuts = none-told old old.table;
      calls = ArmsCut 0 [] ∷ [];
      called = refl;
      played = on-cut 0 [] old (disarmed old) refl;
    }

-- the calls of a host
abbrev AreHost : List BenchCall → Type 0
AreHost calls = IsTrue (list_all is_host_call calls)

-- a sync
synced-adds : (image : List ℕ) (end : SyncEnd) (old new : WireView) → SyncsInRoom image end old new → PartAdds 0 AreHost old new
synced-adds image end old new synced =
    let room = with_spare synced.spare old in
    let part = synced.synced in
    let host = on-host part.added room new old.table new.table part.grows.played in
    record {
      added = part.added;
      extends = extends-spare synced.spare part.added old new (extends-grows part.added room new part.grows);
      cuts = host-told part.added room new old.table new.table part.grows.played;
      calls = host.calls;
      called = host.hosts;
      played = host.played;
    }

-- power that comes, where it was gone
abbrev ArePower : List BenchCall → Type 0
ArePower calls = (calls ≡ []) ⊎ (calls ≡ HappensNow (Power true) ∷ [])

powers-add : (on : Bool) (old new : WireView) → PowersBack on old new → PartAdds 0 ArePower old new
powers-add true old new same =
    subst (λ (view : WireView). PartAdds 0 ArePower old view) (sym same)
    (record { added = []; extends = extends-none old; cuts = still-told old old old.table refl refl; calls = []; called = inl refl; played = on-none old })
powers-add false old new (spare, now) =
    let room = with_spare spare old in
    let step = Step now.event 0 0 0 now.hurt ∷ [] in
    record {
      added = step;
      extends = extends-spare spare step old new now.adds.extends;
      cuts = happens-told (Power true) step room new old.table new.table now.played;
      calls = HappensNow (Power true) ∷ [];
      called = inr refl;
      played = on-event (Power true) step room new now.played;
    }

-- the calls of the second half of a round, and of a whole one
record AreBehind (calls : List BenchCall) : Type 0 where
  pub powers : List BenchCall
  pub second : List BenchCall
  pub powers_are : ArePower powers
  pub second_are : AreHost second
  pub calls_are : calls ≡ ArmsCut 0 [] ∷ powers ++ second

-- a cut was armed, and the image synced
abbrev AreUpset : (operation : ℕ) → (torn : List ℕ) → List BenchCall → Type 0
AreUpset operation torn calls = (first : List BenchCall) × AreHost first × (calls ≡ ArmsCut operation torn ∷ first)

upset-joins : (operation : ℕ) (torn : List ℕ) (before after : List BenchCall) → before ≡ ArmsCut operation torn ∷ [] → AreHost after → AreUpset operation torn (before ++ after)
upset-joins operation torn before after is host = (after, host, ap (λ (front : List BenchCall). front ++ after) is)

upset-adds : (image : List ℕ) (operation : ℕ) (torn : List ℕ) (old synced : WireView) → IsUpset image operation torn old synced → PartAdds (1 + 0) (AreUpset operation torn) old synced
upset-adds image operation torn old synced upset =
    part-then 1 0 (λ calls. calls ≡ ArmsCut operation torn ∷ []) AreHost (AreUpset operation torn) old (armed operation torn old) synced (upset-joins operation torn)
    (armed-adds operation torn old) (synced-adds image upset.end (armed operation torn old) synced upset.syncs)

-- the cut is disarmed, power comes where it was gone, and the image is synced again
abbrev AreCome : List BenchCall → Type 0
AreCome calls = (powers second : List BenchCall) × ArePower powers × AreHost second × (calls ≡ powers ++ second)

behind-joins : (before after : List BenchCall) → before ≡ ArmsCut 0 [] ∷ [] → AreCome after → AreBehind (before ++ after)
behind-joins before after is (powers, second, powers_are, second_are, same) =
    record { powers = powers; second = second; powers_are = powers_are; second_are = second_are; calls_are = ap (λ (front : List BenchCall). front ++ after) is ∙ ap (λ (rest : List BenchCall). ArmsCut 0 [] ∷ rest) same }

behind-adds : (image : List ℕ) (end : SyncEnd) (synced powered new : WireView) → PowersBack synced.on (disarmed synced) powered → SyncsInRoom image end powered new → PartAdds (0 + (0 + 0)) AreBehind synced new
behind-adds image end synced powered new powers again =
    part-then 0 (0 + 0) (λ calls. calls ≡ ArmsCut 0 [] ∷ []) AreCome AreBehind synced (disarmed synced) new behind-joins (disarmed-adds synced)
    (part-then 0 0 ArePower AreHost AreCome (disarmed synced) powered new (λ before after powers_are second_are. (before, after, powers_are, second_are, refl)) (powers-add synced.on (disarmed synced) powered powers) (synced-adds image end powered new again))

round-joins : (operation : ℕ) (torn : List ℕ) (before after : List BenchCall) → AreUpset operation torn before → AreBehind after → AreRoundCalls operation torn (before ++ after)
round-joins operation torn before after (first, first_are, same) behind =
    record {
      first = first;
      powers = behind.powers;
      second = behind.second;
      first_are = first_are;
      powers_are = behind.powers_are;
      second_are = behind.second_are;
      calls_are = ap (λ (front : List BenchCall). front ++ after) same ∙ ap (λ (rest : List BenchCall). ArmsCut operation torn ∷ first ++ rest) behind.calls_are;
    }

-- a round
round-adds : (image : List ℕ) (operation : ℕ) (torn : List ℕ) (old new : WireView) (lost done : Bool) → DrillsRound image operation torn old new lost done → PartAdds 1 (AreRoundCalls operation torn) old new
round-adds image operation torn old new lost done round =
    part-as (1 + 0 + (0 + (0 + 0))) 1 (AreRoundCalls operation torn) (AreRoundCalls operation torn) old new (omega arith) (λ calls are. are)
    (part-then (1 + 0) (0 + (0 + 0)) (AreUpset operation torn) AreBehind (AreRoundCalls operation torn) old round.synced new (round-joins operation torn)
    (upset-adds image operation torn old round.synced round.upset) (behind-adds image round.end round.synced round.powered new round.powers round.again))

-- rounds
pub rounds-add : (size x rounds : ℕ) (old new : WireView) (cuts done : ℕ) → DrillsRounds size x rounds old new cuts done → PartAdds rounds (AreDrillCalls x rounds) old new
rounds-add size x zero old new cuts done (same, none, undone) =
    subst (λ (view : WireView). PartAdds 0 (AreDrillCalls x zero) old view) (sym same)
    (record { added = []; extends = extends-none old; cuts = still-told old old old.table refl refl; calls = []; called = refl; played = on-none old })
rounds-add size x (suc rounds) old new cuts done (middle, earlier_cuts, earlier_done, lost, finished, earlier, round, cuts_are, done_are) =
    let y = behind_rounds rounds x in
    part-as (rounds + 1) (suc rounds) (AreDrillCalls x (suc rounds)) (AreDrillCalls x (suc rounds)) old new (omega arith) (λ calls are. are)
    (part-then rounds 1 (AreDrillCalls x rounds) (AreRoundCalls (drill_operation y) (drill_torn y)) (AreDrillCalls x (suc rounds)) old middle new (λ before after before_are after_are. (before, after, refl, before_are, after_are))
    (rounds-add size x rounds old middle earlier_cuts earlier_done earlier) (round-adds (drill_image (rounds + 1) size y) (drill_operation y) (drill_torn y) middle new lost finished round))

-- some entries were added
record SomeAdded (old new : WireView) : Type 0 where
  pub added : List Entry
  pub extends : Extends added old new

-- a part of a round
in-round-adds : (image : List ℕ) (operation : ℕ) (torn : List ℕ) (old new : WireView) → DrillsInRound image operation torn old new → SomeAdded old new
in-round-adds image operation torn old new (AtFirst same) =
    record { added = []; extends = cut-extends operation torn old new same }
in-round-adds image operation torn old new (AtPower synced upset same) =
    let once = upset-adds image operation torn old synced upset in
    record { added = once.added ++ []; extends = extends-then once.added [] old synced new once.extends (cut-extends 0 [] synced new same) }
in-round-adds image operation torn old new (AtSecond synced upset powers) =
    let once = upset-adds image operation torn old synced upset in
    let again = powers-add synced.on (disarmed synced) new powers in
    record {
      added = once.added ++ ([] ++ again.added);
      extends = extends-then once.added ([] ++ again.added) old synced new once.extends (extends-then [] again.added synced (disarmed synced) new (cut-extends 0 [] synced (disarmed synced) refl) again.extends);
    }

-- a part of a drill
pub in-part-adds : (size x rounds : ℕ) (old new : WireView) → DrillsInPart size x rounds old new → (added : List Entry) × Extends added old new
in-part-adds size x rounds old new part =
    let y = behind_rounds part.whole x in
    let once = rounds-add size x part.whole old part.middle part.cuts part.done part.drilled in
    let again = in-round-adds (drill_image (part.whole + 1) size y) (drill_operation y) (drill_torn y) part.middle new part.part in
    (once.added ++ again.added, extends-then once.added again.added old part.middle new once.extends again.extends)
