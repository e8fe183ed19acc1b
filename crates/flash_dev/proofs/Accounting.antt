-- What a device tells of operations, one after the other.
use Rattle.std.proofs.Common.{◌≡◌, refl, sym, ap, ◌∙◌, subst, ℕ, zero, suc, ◌-◌, ◌≤◌, List, [], ◌∷◌, take, arith, inl, inr, Option, Some, None, Result, Ok, Err}
use Rattle.std.specs.Prelude.{◌⊎◌}
use Rattle.flash_dev.specs.Flash.{overwritten}
use Rattle.flash_dev.specs.Counts.{Rose, RisesBy, RisesAtMost}
use Rattle.flash_dev.specs.View.{DeviceView}
use Rattle.flash_dev.specs.Operations.{Operation, operation_range, operated, operated_all}
use Rattle.flash_dev.specs.Cuts.{ArmedCut, Falls, CutFalls, TornAt, cut_at, cut_after}
use Rattle.flash_dev.specs.Costs.{hurt_of, HasCause, WearsBy, Account}
use Rattle.flash_dev.specs.Device.{IsChange}
use Rattle.flash_dev.specs.declared.hurt.Hurt.{Hurt}
use Rattle.flash_dev.specs.declared.hurt.Hurt.TheVariants.{Whole, Failed, Cut}
use Rattle.flash_dev.specs.declared.device.DevErr.{DevErr}
use Rattle.flash_dev.specs.declared.device.DevErr.TheVariants.{Failed as FailedErr, PowerLost}

-- a count that rose rose from what was less
pub rose-from : (before middle now : ℕ) → before ≤ middle → Rose middle now → Rose before now
rose-from before middle now later rose = omega (arith, later, rose)

-- a count that rose by one, and then by more
rises-then : (amount before middle now : ℕ) → RisesBy 1 before middle → RisesBy amount middle now → RisesBy (suc amount) before now
rises-then zero before middle now first second = second ∙ first
rises-then (suc amount) before middle now first second = omega (arith, first, second)

-- what rose by so much rose by no more
rises-most : (amount most before now : ℕ) → RisesBy amount before now → amount ≤ most → RisesAtMost most before now
rises-most zero most before now same few = record { least = omega (arith, same); most = omega (arith, same) }
rises-most (suc amount) most before now rose few = record { least = omega (arith, rose); most = omega (arith, rose, few) }

-- the wear of so many operations
pub wears-most : (hurt : Hurt) (begun most before now : ℕ) → WearsBy hurt begun before now → begun ≤ most → RisesAtMost most before now
wears-most Whole begun most before now wears few = rises-most begun most before now wears few
wears-most Failed begun most before now wears few = rises-most begun most before now wears few
wears-most Cut begun most before now (inl wears) few = rises-most (begun - 1) most before now wears (omega (arith, few))
wears-most Cut begun most before now (inr wears) few = rises-most begun most before now wears few

-- one operation, and then more
wears-then : (hurt : Hurt) (begun before middle now : ℕ) → RisesBy 1 before middle → WearsBy hurt begun middle now → WearsBy hurt (suc begun) before now
wears-then Whole begun before middle now first second = rises-then begun before middle now first second
wears-then Failed begun before middle now first second = rises-then begun before middle now first second
wears-then Cut zero before middle now first (inl second) = inr (rises-then zero before middle now first second)
wears-then Cut (suc begun) before middle now first (inl second) =
    inl (rises-of (suc begun) before now (rises-then begun before middle now first (rises-by begun middle now second))) where
      rises-of : (n low high : ℕ) → RisesBy n low high → RisesBy (suc n - 1) low high
      rises-of n low high rises = subst (λ (k : ℕ). RisesBy k low high) (omega arith) rises

      rises-by : (n low high : ℕ) → RisesBy (suc n - 1) low high → RisesBy n low high
      rises-by n low high rises = subst (λ (k : ℕ). RisesBy k low high) (omega arith) rises
wears-then Cut begun before middle now first (inr second) = inr (rises-then begun before middle now first second)

-- an armed cut, by whether it fell
cut-at : (left : ℕ) (torn : List ℕ) → 1 ≤ left → cut_at left torn ≡ Some (record { left = left; torn = torn })
cut-at zero torn some = absurd (omega (arith, some))
cut-at (suc left) torn some = refl

cut-none : (left begun : ℕ) (torn : List ℕ) → left ≤ begun → cut_at (left - begun) torn ≡ None
cut-none left begun torn over = ap (λ (n : ℕ). cut_at n torn) (zero-is (left - begun) (omega (arith, over))) where
  zero-is : (n : ℕ) → n ≤ 0 → n ≡ 0
  zero-is n few = omega (arith, few)

-- the armed cut behind one operation, and then more
after-then : (begun : ℕ) (cut : Option ArmedCut) → cut_after begun (cut_after 1 cut) ≡ cut_after (suc begun) cut
after-then zero cut = refl
after-then (suc begun) None = refl
after-then (suc begun) (Some cut) = by (cut.left - 1) refl where
  by : (left : ℕ) → left ≡ cut.left - 1 → cut_after (suc begun) (cut_at (cut.left - 1) cut.torn) ≡ cut_at (cut.left - suc (suc begun)) cut.torn
  by zero is =
      ap (λ (n : ℕ). cut_after (suc begun) (cut_at n cut.torn)) (sym is)
      ∙ sym (cut-none cut.left (suc (suc begun)) cut.torn (omega (arith, is)))
  by (suc left) is =
      let less : suc left - suc begun ≡ cut.left - suc (suc begun) = omega (arith, is) in
      ap (λ (n : ℕ). cut_after (suc begun) (cut_at n cut.torn)) (sym is)
      ∙ ap (λ (n : ℕ). cut_at n cut.torn) less

-- a cut that did not fall in one operation comes nearer by it
nearer : (cut : ArmedCut) → 1 ≤ cut.left → (cut.left ≡ 1 → ⊥) → cut_after 1 (Some cut) ≡ Some (record { left = cut.left - 1; torn = cut.torn })
nearer cut some not = cut-at (cut.left - 1) cut.torn (more cut.left some not) where
  more : (n : ℕ) → 1 ≤ n → (n ≡ 1 → ⊥) → 1 ≤ n - 1
  more zero some not = absurd (omega (arith, some))
  more (suc zero) some not = absurd (not refl)
  more (suc (suc n)) some not = omega arith

-- a cut that tears an operation behind the first
torn-then : (k : ℕ) (torn : List ℕ) (Faulty Faulted : Type 0) (operation : Operation) (operations : List Operation) (f g h : List ℕ) → (Faulty → Faulted) → g ≡ operated operation f
    → TornAt k torn Faulty operations g h → TornAt (suc k) torn Faulted (operation ∷ operations) f h
torn-then k torn Faulty Faulted operation operations f g h weaker made at = record {
  stopped = at.stopped;
  is_there = at.is_there;
  leaves = by at.leaves;
} where
  result : List ℕ → List ℕ
  result xs = overwritten (operation_range at.stopped).at (take (operation_range at.stopped).size torn) (operated_all (take k operations) xs)

  by : (h ≡ result g) ⊎ Faulty → (h ≡ result (operated operation f)) ⊎ Faulted
  by (inl is) = inl (is ∙ ap result made)
  by (inr faulty) = inr (weaker faulty)

-- the armed cut, where one operation was done and then others were begun
falls-then : (cut : Option ArmedCut) (Other Faulty Faulted : Type 0) (begun : ℕ) (hurt : Hurt) (operation : Operation) (operations : List Operation) (f g h : List ℕ) → (Faulty → Faulted) → g ≡ operated operation f
    → CutFalls Other cut 1 Whole (operation ∷ []) f g → CutFalls Faulty (cut_after 1 cut) begun hurt operations g h → CutFalls Faulted cut (suc begun) hurt (operation ∷ operations) f h
falls-then None Other Faulty Faulted begun hurt operation operations f g h weaker made first second = tt
falls-then (Some cut) Other Faulty Faulted begun hurt operation operations f g h weaker made first second =
    let not = first-not first.1 in
    let near = nearer cut first.0 not in
    let more = subst (λ (c : Option ArmedCut). CutFalls Faulty c begun hurt operations g h) near second in (
      omega (arith, more.0, first.0),
      λ falls.
          let less : begun ≡ cut.left - 1 = omega (arith, falls.1) in
          let fell = more.1 (some cut.left begun falls.1 not, less) in
          let place : suc (cut.left - 1 - 1) ≡ cut.left - 1 = two cut.left begun falls.1 not in (
            fell.0,
            subst (λ (k : ℕ). TornAt k cut.torn Faulted (operation ∷ operations) f h) place
                (torn-then (cut.left - 1 - 1) cut.torn Faulty Faulted operation operations f g h weaker made fell.1),
          ),
    ) where
      whole : Whole ≡ Cut → ⊥
      whole same = cc

      first-not : (Falls (Some cut) 1 → (Whole ≡ Cut) × TornAt (cut.left - 1) cut.torn Other (operation ∷ []) f g) → cut.left ≡ 1 → ⊥
      first-not falls one = whole (falls (omega arith, sym one)).0

      some : (left n : ℕ) → suc n ≡ left → (left ≡ 1 → ⊥) → 1 ≤ n
      some left zero is not = absurd (not (sym is))
      some left (suc n) is not = omega arith

      two : (left n : ℕ) → suc n ≡ left → (left ≡ 1 → ⊥) → suc (left - 1 - 1) ≡ left - 1
      two left zero is not = absurd (not (sym is))
      two left (suc n) is not = omega (arith, is)

-- the cause of what was hurt, where one operation was done and then others were begun
cause-then : (hurt : Hurt) (begun : ℕ) (cut : Option ArmedCut) (faults faults_middle faults_now cuts cuts_middle cuts_now : ℕ) → faults ≤ faults_middle → cuts ≤ cuts_middle
    → HasCause hurt begun (cut_after 1 cut) faults_middle faults_now cuts_middle cuts_now → HasCause hurt (suc begun) cut faults faults_now cuts cuts_now
cause-then Whole begun cut faults faults_middle faults_now cuts cuts_middle cuts_now more later cause = tt
cause-then Failed begun cut faults faults_middle faults_now cuts cuts_middle cuts_now more later cause = rose-from faults faults_middle faults_now more cause
cause-then Cut begun cut faults faults_middle faults_now cuts cuts_middle cuts_now more later (inr rose) = inr (rose-from cuts cuts_middle cuts_now later rose)
cause-then Cut begun None faults faults_middle faults_now cuts cuts_middle cuts_now more later (inl falls) = absurd falls
cause-then Cut begun (Some cut) faults faults_middle faults_now cuts cuts_middle cuts_now more later (inl falls) = inl (by (cut.left - 1) refl falls) where
  by : (left : ℕ) → left ≡ cut.left - 1 → Falls (cut_at (cut.left - 1) cut.torn) begun → Falls (Some cut) (suc begun)
  by zero is falls = absurd (subst (λ (n : ℕ). Falls (cut_at n cut.torn) begun) (sym is) falls)
  by (suc left) is falls =
      let fell = subst (λ (n : ℕ). Falls (cut_at n cut.torn) begun) (sym is) falls in
      (omega arith, omega (arith, is, fell.1))

-- one operation was done, and then others were begun
pub account-then : (begun : ℕ) (hurt : Hurt) (operation : Operation) (operations : List Operation) (old middle new : DeviceView) (f g h : List ℕ) → old.faults ≤ middle.faults → old.own_cuts ≤ middle.own_cuts → g ≡ operated operation f
    → Account 1 Whole (operation ∷ []) old middle f g → Account begun hurt operations middle new g h → Account (suc begun) hurt (operation ∷ operations) old new f h
account-then begun hurt operation operations old middle new f g h faults cuts made first second =
    let second_falls = subst (λ (c : Option ArmedCut). CutFalls (Rose middle.faults new.faults) c begun hurt operations g h) first.armed second.falls in
    let second_cause = subst (λ (c : Option ArmedCut). HasCause hurt begun c middle.faults new.faults middle.own_cuts new.own_cuts) first.armed second.cause in
    record {
      begun_is = rises-then begun old.begun middle.begun new.begun first.begun_is second.begun_is;
      wear = wears-then hurt begun old.wear middle.wear new.wear first.wear second.wear;
      armed = second.armed ∙ ap (cut_after begun) first.armed ∙ after-then begun old.armed;
      falls = falls-then old.armed (Rose old.faults middle.faults) (Rose middle.faults new.faults) (Rose old.faults new.faults) begun hurt operation operations f g h
          (λ rose. rose-from old.faults middle.faults new.faults faults rose) made first.falls second_falls;
      cause = cause-then hurt begun old.armed old.faults middle.faults new.faults old.own_cuts middle.own_cuts new.own_cuts faults cuts second_cause;
    }

-- the first operation was the last that was begun
first-falls : (cut : Option ArmedCut) (Faulty : Type 0) (hurt : Hurt) (operation : Operation) (operations : List Operation) (f g : List ℕ)
    → CutFalls Faulty cut 1 hurt (operation ∷ []) f g → CutFalls Faulty cut 1 hurt (operation ∷ operations) f g
first-falls None Faulty hurt operation operations f g falls = tt
first-falls (Some cut) Faulty hurt operation operations f g falls = (
  falls.0,
  λ fell.
      let none : cut.left - 1 ≡ 0 = omega (arith, fell.1) in
      let torn = falls.1 fell in (
        torn.0,
        subst (λ (k : ℕ). TornAt k cut.torn Faulty (operation ∷ operations) f g) (sym none)
            (first (subst (λ (k : ℕ). TornAt k cut.torn Faulty (operation ∷ []) f g) none torn.1)),
      ),
) where
  first : TornAt 0 cut.torn Faulty (operation ∷ []) f g → TornAt 0 cut.torn Faulty (operation ∷ operations) f g
  first torn = record { stopped = torn.stopped; is_there = torn.is_there; leaves = torn.leaves }

pub account-first : (hurt : Hurt) (operation : Operation) (operations : List Operation) (old new : DeviceView) (f g : List ℕ)
    → Account 1 hurt (operation ∷ []) old new f g → Account 1 hurt (operation ∷ operations) old new f g
account-first hurt operation operations old new f g account =
    record {
      begun_is = account.begun_is;
      wear = account.wear;
      armed = account.armed;
      falls = first-falls old.armed (Rose old.faults new.faults) hurt operation operations f g account.falls;
      cause = account.cause;
    }

-- nothing was begun
falls-none : (cut : Option ArmedCut) (Faulty : Type 0) (hurt : Hurt) (operations : List Operation) (f g : List ℕ) → CutFalls Faulty cut 0 hurt operations f g
falls-none None Faulty hurt operations f g = tt
falls-none (Some cut) Faulty hurt operations f g = (omega arith, λ falls. absurd (omega (arith, falls.0)))

wears-none : (hurt : Hurt) (before now : ℕ) → now ≡ before → WearsBy hurt 0 before now
wears-none Whole before now same = same
wears-none Failed before now same = same
wears-none Cut before now same = inr same

pub account-none : (hurt : Hurt) (operations : List Operation) (old new : DeviceView) (f g : List ℕ) → new.begun ≡ old.begun → new.armed ≡ old.armed → new.wear ≡ old.wear
    → HasCause hurt 0 old.armed old.faults new.faults old.own_cuts new.own_cuts → Account 0 hurt operations old new f g
account-none hurt operations old new f g begun armed wear cause = record {
  begun_is = begun;
  wear = wears-none hurt old.wear new.wear wear;
  armed = armed;
  falls = falls-none old.armed (Rose old.faults new.faults) hurt operations f g;
  cause = cause;
}

-- the device is as it was
pub account-same : (operations : List Operation) (old new : DeviceView) (f g : List ℕ) → new ≡ old → Account 0 Whole operations old new f g
account-same operations old new f g same =
    account-none Whole operations old new f g (ap (λ (d : DeviceView). d.begun) same) (ap (λ (d : DeviceView). d.armed) same) (ap (λ (d : DeviceView). d.wear) same) tt

-- operations behind a read
falls-weaker : (cut : Option ArmedCut) (Faulty Faulted : Type 0) (begun : ℕ) (hurt : Hurt) (operations : List Operation) (f g : List ℕ) → (Faulty → Faulted)
    → CutFalls Faulty cut begun hurt operations f g → CutFalls Faulted cut begun hurt operations f g
falls-weaker None Faulty Faulted begun hurt operations f g weaker falls = tt
falls-weaker (Some cut) Faulty Faulted begun hurt operations f g weaker falls = (falls.0, λ fell. let torn = falls.1 fell in (torn.0, by torn.1)) where
  by : TornAt (cut.left - 1) cut.torn Faulty operations f g → TornAt (cut.left - 1) cut.torn Faulted operations f g
  by torn = record { stopped = torn.stopped; is_there = torn.is_there; leaves = weak torn.leaves } where
    weak : (g ≡ overwritten (operation_range torn.stopped).at (take (operation_range torn.stopped).size cut.torn) (operated_all (take (cut.left - 1) operations) f)) ⊎ Faulty →
        (g ≡ overwritten (operation_range torn.stopped).at (take (operation_range torn.stopped).size cut.torn) (operated_all (take (cut.left - 1) operations) f)) ⊎ Faulted
    weak (inl is) = inl is
    weak (inr faulty) = inr (weaker faulty)

cause-behind : (hurt : Hurt) (begun : ℕ) (cut : Option ArmedCut) (faults faults_middle faults_now cuts cuts_middle cuts_now : ℕ) → faults ≤ faults_middle → cuts ≤ cuts_middle
    → HasCause hurt begun cut faults_middle faults_now cuts_middle cuts_now → HasCause hurt begun cut faults faults_now cuts cuts_now
cause-behind Whole begun cut faults faults_middle faults_now cuts cuts_middle cuts_now more later cause = tt
cause-behind Failed begun cut faults faults_middle faults_now cuts cuts_middle cuts_now more later cause = rose-from faults faults_middle faults_now more cause
cause-behind Cut begun cut faults faults_middle faults_now cuts cuts_middle cuts_now more later (inr rose) = inr (rose-from cuts cuts_middle cuts_now later rose)
cause-behind Cut begun cut faults faults_middle faults_now cuts cuts_middle cuts_now more later (inl falls) = inl falls

pub account-behind : (begun : ℕ) (hurt : Hurt) (operations : List Operation) (old middle new : DeviceView) (f g : List ℕ) → old.faults ≤ middle.faults → old.own_cuts ≤ middle.own_cuts
    → middle.begun ≡ old.begun → middle.armed ≡ old.armed → middle.wear ≡ old.wear → Account begun hurt operations middle new f g → Account begun hurt operations old new f g
account-behind begun hurt operations old middle new f g faults cuts begun_same armed_same wear_same account = record {
  begun_is = subst (λ (n : ℕ). RisesBy begun n new.begun) begun_same account.begun_is;
  wear = subst (λ (n : ℕ). WearsBy hurt begun n new.wear) wear_same account.wear;
  armed = account.armed ∙ ap (cut_after begun) armed_same;
  falls = subst (λ (c : Option ArmedCut). CutFalls (Rose old.faults new.faults) c begun hurt operations f g) armed_same
      (falls-weaker middle.armed (Rose middle.faults new.faults) (Rose old.faults new.faults) begun hurt operations f g (λ rose. rose-from old.faults middle.faults new.faults faults rose) account.falls);
  cause = subst (λ (c : Option ArmedCut). HasCause hurt begun c old.faults new.faults old.own_cuts new.own_cuts) armed_same
      (cause-behind hurt begun middle.armed old.faults middle.faults new.faults old.own_cuts middle.own_cuts new.own_cuts faults cuts account.cause);
}

-- one call of the device
pub account-change : {T : Type 0} (operation : Operation) (old new : DeviceView) (result : Result T DevErr) (f g : List ℕ) → IsChange operation old new result
    → CutFalls (Rose old.faults new.faults) old.armed 1 (hurt_of result) (operation ∷ []) f g → Account 1 (hurt_of result) (operation ∷ []) old new f g
account-change operation old new (Ok x) f g change falls = record { begun_is = change.begun; wear = change.wear; armed = change.armed; falls = falls; cause = tt }
account-change operation old new (Err FailedErr) f g change falls =
    record { begun_is = change.begun; wear = change.wear; armed = change.armed; falls = falls; cause = change.causes.failed refl }
account-change operation old new (Err PowerLost) f g change falls =
    record { begun_is = change.begun; wear = change.wear; armed = change.armed; falls = falls; cause = change.lost refl }
