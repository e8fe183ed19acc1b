-- A controller without its bus, as contracts see it.
use Rattle.std.specs.Prelude.{◌≡◌, ℕ, ◌^◌, ◌<◌, Bool, ◌&&◌, ◌||◌, List, IsTrue, IsFalse, Option, Some, None, option_map, ⊤, Result, Ok, Err}
use Rattle.flash_dev.specs.Device.{DeviceView, IsChange}
use Rattle.flash_dev.specs.Operations.{Operation, operation_range}
use Rattle.flash_dev.specs.declared.device.DevErr.{DevErr}
use Rattle.flash_ctl.specs.declared.CtlErr.{CtlErr}
use Rattle.flash_ctl.specs.declared.CtlErr.TheVariants.{Locked, Device}
use Rattle.flash_protect.specs.Locking.{locks_of}
use Rattle.ec_types.specs.declared.image.ImageCopy.TheVariants.{Rw}
use Rattle.ec_model.specs.declared.live.Live.{Live}
use Rattle.ec_model.specs.Ranges.{Range, overlaps, wp_ro_range}
use Rattle.ec_model.specs.Table.{Core, IsErasable, IsHashable}
use Rattle.ec_model.specs.Hash.{touched}

-- a controller that is off: only its flash is left
pub record OffView : Type 0 where
  pub device : DeviceView

-- a controller that is on, without its bus: its device with its locks, its pin, what lasts until the next reset, and a busy
-- hash's nonce
pub record RunView : Type 0 where
  pub device : DeviceView
  pub locks : List Bool
  pub pin : Bool
  pub live : Live
  pub nonce : List ℕ

-- what is on, with these bytes in the flash
abbrev pub core_at : RunView → List ℕ → Core
core_at run flash = record { flash = flash; pin = run.pin; live = run.live; nonce = run.nonce }

-- what is on, where the flash tells its bytes
abbrev pub told_core : RunView → Option Core
told_core run = option_map (core_at run) run.device.held

-- where the one is told so is the other, and they are so related
abbrev pub Follows : {X Y : Type 0} → (X → Y → Type 0) → Option X → Option Y → Type 0
Follows related None None = ⊤
Follows related None (Some y) = ⊥
Follows related (Some x) None = ⊥
Follows related (Some x) (Some y) = related x y

-- whether the locks of the live state cover some byte of a range
abbrev pub is_lock_blocked : ℕ → Live → Range → Bool
is_lock_blocked size live range = (live.ro_now && overlaps range (wp_ro_range size)) || live.all_now

-- what holds of each controller that is on, whichever image runs
pub record IsLiveValid (run : RunView) : Type 0 where
  -- the locked blocks are all, those that write protection guards, or none, as the flags say
  pub locks : run.locks ≡ locks_of run.device.extent run.live.ro_now run.live.all_now
  -- all blocks are locked only with the RO blocks
  pub all_with_ro : IsTrue run.live.all_now → IsTrue run.live.ro_now
  -- RW runs only after a jump
  pub jumped : run.live.copy ≡ Rw → IsTrue run.live.jumped
  pub erase : IsErasable run.device.extent run.live run.live.erase
  pub hash : IsHashable run.device.extent run.live.hash run.nonce
  -- a reply can tell the saved status
  pub saved : run.live.saved < 2 ^ 16

-- an operation of the device, on a controller that is on: a hash over its range is dropped
pub record IsDone {T : Type 0} (operation : Operation) (old new : RunView) (result : Result T DevErr) : Type 0 where
  pub change : IsChange operation old.device new.device result
  pub pin : new.pin ≡ old.pin
  pub ro_now : new.live.ro_now ≡ old.live.ro_now
  pub all_now : new.live.all_now ≡ old.live.all_now
  pub rest : (flash : List ℕ) → core_at new flash ≡ touched (operation_range operation) (core_at old flash)

-- an operation: refused exactly where a block of its range is locked, and then nothing was called; and else the device's
abbrev pub IsOperated : {T : Type 0} → Operation → RunView → RunView → Result T CtlErr → Type 0
IsOperated {T} operation old new (Ok x) =
    IsFalse (is_lock_blocked old.device.extent old.live (operation_range operation)) × IsDone {T = T} operation old new (Ok x)
IsOperated operation old new (Err Locked) =
    IsTrue (is_lock_blocked old.device.extent old.live (operation_range operation)) × (new ≡ old)
IsOperated {T} operation old new (Err (Device error)) =
    IsFalse (is_lock_blocked old.device.extent old.live (operation_range operation)) × IsDone {T = T} operation old new (Err error)
