-- What a call costs a device, and what the device tells of the operations that were begun on it.
use Rattle.std.specs.Prelude.{◌≡◌, ◌⊎◌, ℕ, ◌-◌, ◌≤◌, List, Option, Result, Ok, Err, ⊤}
use Rattle.flash_dev.specs.Counts.{Rose, RisesBy, RisesAtMost, raised_by}
use Rattle.flash_dev.specs.View.{DeviceView}
use Rattle.flash_dev.specs.Operations.{Operation, Began}
use Rattle.flash_dev.specs.Cuts.{ArmedCut, Falls, CutFalls, cut_after}
use Rattle.flash_dev.specs.declared.hurt.Hurt.{Hurt}
use Rattle.flash_dev.specs.declared.hurt.Hurt.TheVariants.{Whole, Failed, Cut}
use Rattle.flash_dev.specs.declared.device.DevErr.{DevErr}
use Rattle.flash_dev.specs.declared.device.DevErr.TheVariants.{Failed as FailedErr, PowerLost}

-- what a refusal of the device did
abbrev pub hurt_by : DevErr → Hurt
hurt_by FailedErr = Failed
hurt_by PowerLost = Cut

-- what a call that changes the flash did
abbrev pub hurt_of : {T : Type 0} → Result T DevErr → Hurt
hurt_of (Ok x) = Whole
hurt_of (Err error) = hurt_by error

-- a call that failed, or lost power, comes only where the count of that rose
abbrev pub HurtRose : Hurt → DeviceView → DeviceView → Type 0
HurtRose Whole old new = ⊤
HurtRose Failed old new = Rose old.faults new.faults
HurtRose Cut old new = Rose old.cuts new.cuts

-- the calls that answered an error: none where nothing failed, and else just the one that failed or lost power
abbrev pub refused_by : Hurt → ℕ → ℕ
refused_by Whole before = before
refused_by Failed before = raised_by 1 before
refused_by Cut before = raised_by 1 before

-- what is left of a device, whatever it holds, once at most so many bytes were asked of its reads
pub record Costs (hurt : Hurt) (asked : ℕ) (old new : DeviceView) : Type 0 where
  pub extent : new.extent ≡ old.extent
  pub faults : old.faults ≤ new.faults
  pub cuts : old.cuts ≤ new.cuts
  pub own_cuts : old.own_cuts ≤ new.own_cuts
  pub rose : HurtRose hurt old new
  pub refusals : new.refusals ≡ refused_by hurt old.refusals
  pub fetched : RisesAtMost asked old.fetched new.fetched

-- what hurts: a call fails only where the faults rose, and power is lost only where the armed cut falls, in the last of so
-- many operations, or where the device's own cuts rose
abbrev pub HasCause : Hurt → ℕ → Option ArmedCut → (faults_before faults_now cuts_before cuts_now : ℕ) → Type 0
HasCause Whole begun cut faults_before faults_now cuts_before cuts_now = ⊤
HasCause Failed begun cut faults_before faults_now cuts_before cuts_now = Rose faults_before faults_now
HasCause Cut begun cut faults_before faults_now cuts_before cuts_now = Falls cut begun ⊎ Rose cuts_before cuts_now

-- each operation that was begun is wear; the one in which power was lost may be left out
abbrev pub WearsBy : Hurt → ℕ → ℕ → ℕ → Type 0
WearsBy Whole begun before now = RisesBy begun before now
WearsBy Failed begun before now = RisesBy begun before now
WearsBy Cut begun before now = RisesBy (begun - 1) before now ⊎ RisesBy begun before now

-- What a device that tells its bytes tells of operations: so many of them were begun, and no other; the armed cut came
-- nearer by these, and fell in the last one where it was armed for that; what was hurt has its cause.
pub record Account (begun : ℕ) (hurt : Hurt) (operations : List Operation) (old new : DeviceView) (before after : List ℕ) : Type 0 where
  pub begun_is : RisesBy begun old.begun new.begun
  pub wear : WearsBy hurt begun old.wear new.wear
  pub armed : new.armed ≡ cut_after begun old.armed
  pub falls : CutFalls (Rose old.faults new.faults) old.armed begun hurt operations before after
  pub cause : HasCause hurt begun old.armed old.faults new.faults old.own_cuts new.own_cuts

-- these operations were begun on a device, so many of them, and the last ended so
pub record HasBegun {T : Type 0} (begun : ℕ) (operations : List Operation) (old new : DeviceView) (result : Result T DevErr) (before after : List ℕ) : Type 0 where
  pub began : Began begun operations before after result
  pub account : Account begun (hurt_of result) operations old new before after
