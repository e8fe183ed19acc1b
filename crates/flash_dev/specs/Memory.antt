-- What contracts see of a flash in memory.
use Rattle.std.specs.Prelude.{ℕ, List, length, Some, None}
use Rattle.flash_dev.specs.Calls.{Calls}
use Rattle.flash_dev.specs.Device.{DeviceView}

-- the held bytes, the calls with their faults, and what else was counted
pub record MemoryState : Type 0 where
  pub bytes : List ℕ
  pub calls : Calls
  pub wear : ℕ
  pub fetched : ℕ

-- the same as a device: the bytes are told, each operation that is begun is wear, and power is never lost
abbrev pub memory_device : MemoryState → DeviceView
memory_device memory = record {
  held = Some memory.bytes;
  extent = length memory.bytes;
  faults = memory.calls.faults;
  cuts = 0;
  own_cuts = 0;
  refusals = memory.calls.faults;
  begun = memory.wear;
  armed = None;
  wear = memory.wear;
  fetched = memory.fetched;
}
