-- What the calls of the protection read, store and lock.
use Rattle.std.specs.Prelude.{◌≡◌, ℕ, suc, ◌+◌, ◌-◌, ◌*◌, ◌/◌, ◌%◌, ◌≤◌, min, max, Bool, false, IsTrue, if◌then◌else◌, List, [], ◌∷◌, length, take, Option, Some, None, Result, Ok, Err, ⊤}
use Rattle.flash_dev.specs.Flash.{block_size}
use Rattle.flash_dev.specs.Counts.{Rose, raised_by}
use Rattle.flash_dev.specs.Device.{DeviceView}
use Rattle.flash_dev.specs.declared.device.DevErr.{DevErr}
use Rattle.flash_dev.specs.declared.device.DevErr.TheVariants.{Failed as FailedErr}
use Rattle.flash_dev.specs.declared.hurt.Hurt.{Hurt}
use Rattle.flash_dev.specs.declared.hurt.Hurt.TheVariants.{Whole, Failed}
use Rattle.flash_dev.specs.Costs.{Account, hurt_by}
use Rattle.ec_types.specs.declared.image.ImageCopy.TheVariants.{Ro}
use Rattle.ec_model.specs.declared.live.HashView.TheVariants.{Idle}
use Rattle.ec_model.specs.declared.live.ProtectView.{ProtectView}
use Rattle.ec_model.specs.Ranges.{Range, pstate_range}
use Rattle.ec_model.specs.declared.live.AtBoot.{AtBoot}
use Rattle.ec_model.specs.Stored.{stored_length, stored_block, has_place, next_slot, mark2_bytes}
use Rattle.ec_model.specs.Table.{Core}
use Rattle.ec_model.specs.Operations.{Operation, Program, Erase, StopsAt, operation_range}
use Rattle.ec_model.specs.ProtectRow.{record_operations, protect_operations, protect_view, protected}
use Rattle.flash_protect.specs.declared.protect.Protect.{Protect}

-- the stored bits were looked at once; `unread` says that this failed
pub record IsLookedAt (unread : Bool) (old new : DeviceView) : Type 0 where
  pub kept : new.held ≡ old.held
  pub extent : new.extent ≡ old.extent
  pub faults : old.faults ≤ new.faults
  pub failed : IsTrue unread → Rose old.faults new.faults
  pub cuts : old.cuts ≤ new.cuts
  pub own_cuts : old.own_cuts ≤ new.own_cuts
  pub refusals : new.refusals ≡ (if unread then raised_by 1 old.refusals else old.refusals)
  pub begun : new.begun ≡ old.begun
  pub armed : new.armed ≡ old.armed
  pub wear : new.wear ≡ old.wear
  pub fetched : new.fetched ≡ raised_by stored_length old.fetched

-- a controller with this protection, pin and flash, of which nothing else is asked
abbrev pub core_with : Protect → Bool → List ℕ → Core
core_with protect pin flash =
    record {
      flash = flash;
      pin = pin;
      live = record {
        copy = Ro;
        flags = 0;
        jumped = false;
        ro_now = protect.ro_now;
        all_now = protect.all_now;
        pstate_bad = protect.bad;
        jump_off = false;
        hash = Idle;
        erase = None;
        saved = 0;
      };
      nonce = [];
    }

-- where the next record goes, if it has a place
abbrev pub record_place : List ℕ → Option ℕ
record_place flash =
    if has_place (stored_block flash) then Some ((pstate_range (length flash)).at + 8 + 8 * next_slot (stored_block flash)) else None

-- how bits are stored in a block that begins at a place, by where the next record goes
abbrev pub operations_at : ℕ → Option ℕ → AtBoot → List Operation
operations_at at (Some place) bits = record_operations place bits
operations_at at None bits = Erase (at / block_size) ∷ Program at mark2_bytes ∷ record_operations (at + 8) bits

-- a record at this place, if it is one, lies in the block that begins at a place
abbrev pub IsPlaceIn : ℕ → Option ℕ → Type 0
IsPlaceIn at None = ⊤
IsPlaceIn at (Some place) = (at ≤ place) × (place % 4 ≡ 0) × (place + 8 ≤ at + block_size)

-- so many operations at most: two for a record, and four for a block that is begun anew
abbrev pub IsFew : Option ℕ → ℕ → Type 0
IsFew None begun = begun ≤ 4
IsFew (Some place) begun = begun ≤ 2

-- a range lies in the block that begins at a place
abbrev pub IsRangeIn : ℕ → ℕ × ℕ → Type 0
IsRangeIn at range = (at ≤ range.0) × (range.0 + range.1 ≤ at + block_size)

-- the smallest range that has two others
abbrev pub joined : Range → Range → Range
joined first second =
    let start : ℕ = min first.at second.at in
    record { at = start; size = max (first.at + first.size) (second.at + second.size) - start }

-- the smallest range that has these ranges and those of the operations
abbrev pub joined_all : Range → List Operation → Range
joined_all range [] = range
joined_all range (operation ∷ operations) = joined_all (joined range (operation_range operation)) operations

-- the place and size of the smallest range that has those of the operations; nothing where there is none
abbrev pub covering : List Operation → Option (ℕ × ℕ)
covering [] = None
covering (operation ∷ operations) =
    let range : Range = joined_all (operation_range operation) operations in
    Some (range.at, range.size)

-- FLASH_PROTECT was done: the bits are stored, the locks hold, and both are shown
pub record IsSet (mask flags : ℕ) (pin : Bool) (old : Protect) (before : List ℕ) (new : Protect) (after : List ℕ) (range : Option (ℕ × ℕ)) (view : ProtectView) : Type 0 where
  pub done : core_with new pin after ≡ protected mask flags (core_with old pin before)
  pub shown : view ≡ protect_view (core_with new pin after)
  pub begun : range ≡ covering (protect_operations (core_with old pin before) mask flags)

-- an operation of FLASH_PROTECT did not end, and no lock was set
pub record IsStoppedIn (hurt : Hurt) (mask flags : ℕ) (pin : Bool) (device changed : DeviceView) (old : Protect) (before : List ℕ) (new : Protect) (after : List ℕ) (range : ℕ × ℕ) : Type 0 where
  pub place : ℕ
  pub stops : StopsAt place (protect_operations (core_with old pin before) mask flags) before after
  pub account : Account (suc place) hurt (protect_operations (core_with old pin before) mask flags) device changed before after
  pub begun : Some range ≡ covering (take (suc place) (protect_operations (core_with old pin before) mask flags))
  pub same : new ≡ old

-- what FLASH_PROTECT makes of the protection and the flash, the range of the operations that were begun, and its answer
abbrev pub Sets : ℕ → ℕ → Bool → DeviceView → DeviceView → Protect → List ℕ → Protect → List ℕ → Option (ℕ × ℕ) → Result ProtectView DevErr → Type 0
Sets mask flags pin device changed old before new after range (Ok view) =
    let operations : List Operation = protect_operations (core_with old pin before) mask flags in
    IsSet mask flags pin old before new after range view × Account (length operations) Whole operations device changed before after
-- the stored bits could not be read
Sets mask flags pin device changed old before new after None (Err error) =
    (error ≡ FailedErr) × (after ≡ before) × (new ≡ old)
    × Account 0 Failed (protect_operations (core_with old pin before) mask flags) device changed before after
Sets mask flags pin device changed old before new after (Some range) (Err error) =
    IsStoppedIn (hurt_by error) mask flags pin device changed old before new after range
