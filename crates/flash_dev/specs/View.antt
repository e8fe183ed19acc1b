-- What contracts see of a device.
use Rattle.std.specs.Prelude.{ℕ, List, Option}
use Rattle.flash_dev.specs.Cuts.{ArmedCut}

-- The bytes, where they are told, and how many there are; the faults that the device tells, its cuts, and those among
-- them that are its own and were not armed; the calls that answered an error; the operations that were begun, which is
-- each call of program and erase, and the cut that is armed for one to come; the programs and erases that are wear; and
-- the bytes that reads asked for.
pub record DeviceView : Type 0 where
  pub held : Option (List ℕ)
  pub extent : ℕ
  pub faults : ℕ
  pub cuts : ℕ
  pub own_cuts : ℕ
  pub refusals : ℕ
  pub begun : ℕ
  pub armed : Option ArmedCut
  pub wear : ℕ
  pub fetched : ℕ
