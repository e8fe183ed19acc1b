-- What contracts see of a flash over a file.
use Rattle.std.specs.Prelude.{◌≡◌, ◌⊎◌, ℕ, List, length, Some, None, IsTrue}
use Rattle.flash_dev.specs.Device.{DeviceView}
use Rattle.flash_dev.specs.Ranges.{is_flash_size}

-- the held bytes, and what was counted
pub record FileState : Type 0 where
  pub bytes : List ℕ
  pub faults : ℕ
  pub wear : ℕ
  pub fetched : ℕ

-- the same as a device: the bytes are told, each operation that is begun is wear, and power is never lost
abbrev pub file_device : FileState → DeviceView
file_device file = record {
  held = Some file.bytes;
  extent = length file.bytes;
  faults = file.faults;
  cuts = 0;
  own_cuts = 0;
  refusals = file.faults;
  begun = file.wear;
  armed = None;
  wear = file.wear;
  fetched = file.fetched;
}

-- a flash has one of its sizes, or no bytes over a file of another size
abbrev pub IsSized : ℕ → Type 0
IsSized size = IsTrue (is_flash_size size) ⊎ (size ≡ 0)
