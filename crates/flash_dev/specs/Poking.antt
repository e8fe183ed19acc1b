-- Bytes that are put at a place of a device, which is no operation.
use Rattle.std.specs.Prelude.{◌≡◌, ℕ, ◌≤◌, List, length, Result, OnOk}
use Rattle.flash_dev.specs.Flash.{overwritten, Torn}
use Rattle.flash_dev.specs.Counts.{HasFaults, refused_after}
use Rattle.flash_dev.specs.Told.{Changes}
use Rattle.flash_dev.specs.View.{DeviceView}

-- the bytes are at the place, or their range holds any bytes, and no others are changed; it wears nothing, and no armed
-- cut comes nearer
pub record IsPoked {T E : Type 0} (at : ℕ) (bytes : List ℕ) (old new : DeviceView) (result : Result T E) : Type 0 where
  pub done : OnOk result (Changes (λ before after. after ≡ overwritten at bytes before) old.held new.held)
  pub outside : Changes (Torn at (length bytes)) old.held new.held
  pub extent : new.extent ≡ old.extent
  pub faults : HasFaults old.faults new.faults result
  pub cuts : old.cuts ≤ new.cuts
  pub own_cuts : old.own_cuts ≤ new.own_cuts
  pub refusals : new.refusals ≡ refused_after result old.refusals
  pub begun : new.begun ≡ old.begun
  pub armed : new.armed ≡ old.armed
  pub wear : new.wear ≡ old.wear
  pub fetched : new.fetched ≡ old.fetched
