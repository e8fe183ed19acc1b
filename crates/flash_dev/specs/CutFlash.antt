-- What contracts see of a flash for which a cut of power can be armed.
use Rattle.std.specs.Prelude.{ℕ, ◌+◌, List, []}
use Rattle.flash_dev.specs.Counts.{raised_by}
use Rattle.flash_dev.specs.Cuts.{cut_at}
use Rattle.flash_dev.specs.View.{DeviceView}
use Rattle.flash_dev.specs.declared.cut_flash.CutFlash.{CutFlash}

-- the flash inside, the armed cut, where 0 stands for none, and the cuts that fell: those that left what was armed, and
-- those where that could not be put there
pub record CutState : Type 0 where
  pub inner : DeviceView
  pub left : ℕ
  pub torn : List ℕ
  pub clean : ℕ
  pub failed : ℕ

-- the same as a device: a cut that fell is an operation that was begun and answered an error, but no wear; where it could
-- not be put there, the flash inside counted that error; and the cuts of the flash inside are the device's own
abbrev pub cut_device : CutState → DeviceView
cut_device state = record {
  held = state.inner.held;
  extent = state.inner.extent;
  faults = state.inner.faults;
  cuts = state.inner.cuts + state.clean + state.failed;
  own_cuts = state.inner.cuts;
  refusals = raised_by state.clean state.inner.refusals;
  begun = raised_by (state.clean + state.failed) state.inner.begun;
  armed = cut_at state.left state.torn;
  wear = state.inner.wear;
  fetched = state.inner.fetched;
}

-- a flash with nothing armed, and no cut that fell
abbrev pub uncut : DeviceView → CutState
uncut inner = record { inner = inner; left = 0; torn = []; clean = 0; failed = 0 }

-- what contracts see of its parts, by what they see of the flash inside
abbrev pub cut_state : {F : Type 0} → (F → DeviceView) → CutFlash F → CutState
cut_state seen flash =
    record {
      inner = seen flash.inner;
      left = flash.left;
      torn = flash.torn.items;
      clean = flash.clean;
      failed = flash.failed;
    }
