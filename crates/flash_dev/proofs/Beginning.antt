-- Operations that are begun on a device, one after the other, as its calls tell.
use Rattle.std.proofs.Common.{◌≡◌, refl, ap, ◌∙◌, subst, ℕ, suc, ◌+◌, true, false, List, [], ◌∷◌, take, arith, Option, Some, None, Result, Ok, Err}
use Rattle.std.specs.Prelude.{is_err}
use Rattle.flash_dev.specs.Flash.{Torn}
use Rattle.flash_dev.specs.Counts.{Rose}
use Rattle.flash_dev.specs.Told.{Changes}
use Rattle.flash_dev.specs.View.{DeviceView}
use Rattle.flash_dev.specs.Operations.{Operation, operation_range, operated, operated_all, StopsAt, Began}
use Rattle.flash_dev.specs.Cuts.{CutFalls}
use Rattle.flash_dev.specs.Costs.{hurt_of, HasBegun}
use Rattle.flash_dev.specs.Device.{IsChange}
use Rattle.flash_dev.specs.declared.hurt.Hurt.TheVariants.{Whole}
use Rattle.flash_dev.specs.declared.device.DevErr.{DevErr}
use Rattle.flash_dev.proofs.Accounting.{account-change, account-first, account-then}

-- the first operation did not end
began-first : (operation : Operation) (operations : List Operation) (f g : List ℕ) → Torn (operation_range operation).at (operation_range operation).size f g →
    (place : ℕ) × (1 ≡ suc place) × StopsAt place (operation ∷ operations) f g
began-first operation operations f g torn = (0, refl, record { stopped = operation; is_there = refl; torn = torn })

-- the first was done, and then others were begun
began-then : {T : Type 0} (operation : Operation) (operations : List Operation) (f m g : List ℕ) (begun : ℕ) (result : Result T DevErr) → m ≡ operated operation f → Began begun operations m g result →
    Began (suc begun) (operation ∷ operations) f g result
began-then operation operations f m g begun (Ok x) same began = (ap suc began.0, began.1 ∙ ap (operated_all operations) same)
began-then operation operations f m g begun (Err error) same began = (
  suc began.0,
  ap suc began.1,
  record {
    stopped = began.2.stopped;
    is_there = began.2.is_there;
    torn = subst (λ (xs : List ℕ). Torn (operation_range began.2.stopped).at (operation_range began.2.stopped).size (operated_all (take began.0 operations) xs) g) same began.2.torn;
  },
)

-- operations that were begun, where the bytes are told
abbrev pub BegunTold : {T : Type 0} → ℕ → List Operation → DeviceView → DeviceView → Result T DevErr → Type 0
BegunTold begun operations old new result = Changes (HasBegun begun operations old new result) old.held new.held

-- the first operation did not end, and no other was begun
pub told-first : {T : Type 0} (operation : Operation) (operations : List Operation) (old new : DeviceView) (result : Result T DevErr) → is_err result ≡ true → IsChange operation old new result →
    BegunTold 1 (operation ∷ operations) old new result
told-first operation operations old new (Ok x) failed change = cc
told-first {T} operation operations old new (Err error) failed change = by old.held new.held change.outside change.falls where
  by : (o p : Option (List ℕ)) → Changes (Torn (operation_range operation).at (operation_range operation).size) o p
      → Changes (CutFalls (Rose old.faults new.faults) old.armed 1 (hurt_of {T = T} (Err error)) (operation ∷ [])) o p
      → Changes (HasBegun {T = T} 1 (operation ∷ operations) old new (Err error)) o p
  by None None torn falls = tt
  by None (Some g) torn falls = torn
  by (Some f) None torn falls = torn
  by (Some f) (Some g) torn falls = record {
    began = began-first operation operations f g torn;
    account = account-first (hurt_of {T = T} (Err error)) operation operations old new f g (account-change operation old new (Err error) f g change falls);
  }

-- the first operation was done, and then others were begun
pub told-then : {T U : Type 0} (operation : Operation) (operations : List Operation) (old middle new : DeviceView) (first : Result U DevErr) (begun : ℕ) (result : Result T DevErr) → is_err first ≡ false → IsChange operation old middle first →
    BegunTold begun operations middle new result → BegunTold (suc begun) (operation ∷ operations) old new result
told-then operation operations old middle new (Err error) begun result done change began = cc
told-then {T} {U} operation operations old middle new (Ok x) begun result done change began = by old.held middle.held new.held change.done change.falls began where
  by : (o p q : Option (List ℕ)) → Changes (λ before after. after ≡ operated operation before) o p → Changes (CutFalls (Rose old.faults middle.faults) old.armed 1 Whole (operation ∷ [])) o p
      → Changes (HasBegun begun operations middle new result) p q → Changes (HasBegun (suc begun) (operation ∷ operations) old new result) o q
  by None None None one falls two = tt
  by None None (Some g) one falls two = two
  by None (Some m) q one falls two = absurd one
  by (Some f) None q one falls two = absurd one
  by (Some f) (Some m) None one falls two = two
  by (Some f) (Some m) (Some g) one falls two = record {
    began = began-then operation operations f m g begun result one two.began;
    account = account-then begun (hurt_of result) operation operations old middle new f m g change.causes.faults_later change.own_cuts one (account-change operation old middle (Ok x) f m change falls) two.account;
  }

-- the one operation was done, or did not end
pub told-last : {T : Type 0} (operation : Operation) (old new : DeviceView) (result : Result T DevErr) → IsChange operation old new result → BegunTold 1 (operation ∷ []) old new result
told-last {T} operation old new (Err error) change = told-first operation [] old new (Err error) refl change
told-last {T} operation old new (Ok x) change = by old.held new.held change.done change.falls where
  by : (o p : Option (List ℕ)) → Changes (λ before after. after ≡ operated operation before) o p → Changes (CutFalls (Rose old.faults new.faults) old.armed 1 Whole (operation ∷ [])) o p
      → Changes (HasBegun {T = T} 1 (operation ∷ []) old new (Ok x)) o p
  by None None done falls = tt
  by None (Some g) done falls = done
  by (Some f) None done falls = done
  by (Some f) (Some g) done falls = record { began = (refl, done); account = account-change operation old new (Ok x) f g change falls }

-- two operations were done, and then others were begun
pub told-more : {T U : Type 0} (begun : ℕ) (first second : Operation) (operations : List Operation) (old one two new : DeviceView) (r s : Result U DevErr) (result : Result T DevErr) → is_err r ≡ false → is_err s ≡ false →
    IsChange first old one r → IsChange second one two s → BegunTold begun operations two new result → BegunTold (begun + 2) (first ∷ second ∷ operations) old new result
told-more begun first second operations old one two new r s result r_done s_done r_change s_change began =
    subst (λ (n : ℕ). BegunTold n (first ∷ second ∷ operations) old new result) (omega arith)
    (told-then first (second ∷ operations) old one new r (suc begun) result r_done r_change (told-then second operations one two new s begun result s_done s_change began))
