-- A sync that writes RW where it has to.
use Rattle.std.specs.Prelude.{◌≡◌, ◌≤◌, ◌⊎◌, ◌+◌, ◌-◌, ◌*◌, ◌/◌, ℕ, Bool, true, false, if◌then◌else◌, List, ◌++◌, length, take}
use Rattle.sha2.specs.Sha256.{sha256}
use Rattle.ec_types.specs.LittleEndian.{AreBytes}
use Rattle.ec_types.specs.Tables.{packet_limit}
use Rattle.ec_types.specs.declared.bus.BusKind.{BusKind}
use Rattle.ec_types.specs.declared.image.Fit.TheVariants.{Yes}
use Rattle.ec_types.specs.declared.image.ImageCopy.TheVariants.{Rw}
use Rattle.ec_model.specs.declared.event.Entry.{Entry}
use Rattle.ec_model.specs.Boot.{boots_all_locked}
use Rattle.ec_model.specs.HostCalls.{calls_of}
use Rattle.ec_model.specs.Image.{fit_of, padded, expected}
use Rattle.ec_model.specs.Jump.{has_vector}
use Rattle.ec_model.specs.ProtectRow.{can_lock}
use Rattle.ec_model.specs.Ranges.{rw_range, part}
use Rattle.ec_model.specs.Stored.{stored}
use Rattle.ec_model.specs.Table.{Table, Core}
use Rattle.command_laws.specs.Restarting.{erased}
use Rattle.command_laws.specs.Standing.{IsAt}
use Rattle.sync_rules.specs.declared.ending.SyncEnd.{SyncEnd}
use Rattle.sync_rules.specs.declared.ending.SyncEnd.TheVariants.{Done}
use Rattle.sync_rules.specs.Steps.{pieces}
use Rattle.sync_laws.specs.Kept.{HoldsFitting, pending_room}

-- the image can be installed: it is bytes, it fits, and a restart leaves the whole flash unlocked
pub record IsInstallable (image : List ℕ) (core : Core) : Type 0 where
  pub bytes : AreBytes image
  pub fits : fit_of image (length core.flash) ≡ Yes
  pub unlocked : boots_all_locked core.flash core.pin false ≡ false

-- the flash once RW has the padded image: what is before RW is as it was
abbrev pub installed : List ℕ → List ℕ → List ℕ
installed image flash = take (rw_range (length flash)).at flash ++ padded image (length flash)

-- RW has the digest of the padded image
abbrev pub HasDigest : List ℕ → Core → Type 0
HasDigest image core = sha256 (part (rw_range (length core.flash)) core.flash) ≡ expected image (length core.flash)

-- why RW has to be written: it has another digest, or its vector is outside of it
abbrev pub NeedsWriting : List ℕ → Core → Type 0
NeedsWriting image core = (¬ (HasDigest image core)) ⊎ (has_vector core.flash Rw ≡ false)

-- how many calls a FLASH_ERASE of RW and the FLASH_WRITE of each piece take at most
abbrev pub install_room : BusKind → ℕ → ℕ
install_room bus size = 52 + size / 2 / 4096 * 27 + pieces (size / 2) (packet_limit bus - 16) * (packet_limit bus + 14)

-- and the whole sync: three hashes, at most fifteen other commands, and three restarts
abbrev pub sync_room : BusKind → ℕ → ℕ
sync_room bus size = 1546 + ((rw_range size).size / 65536 + 1) * 714 + install_room bus size

-- it is done: RW runs and has the digest, and what was written is the image; what is before RW is as the pending erase left it, and
-- so the stored protection; no jump is left, and where locks can be set they are
pub record IsWritten (bus : BusKind) (image : List ℕ) (core : Core) (entries : List Entry) (end : SyncEnd) (last : Table) : Type 0 where
  pub wrote : Bool
  pub end_is : end ≡ Done wrote
  pub after : Core
  pub at : IsAt bus after last
  pub flash_is : after.flash ≡ (if wrote then installed image (erased core).flash else (erased core).flash)
  pub stored_is : stored after.flash ≡ stored (erased core).flash
  pub pin_is : after.pin ≡ core.pin
  pub holds : wrote ≡ true → HoldsFitting image after
  pub digest : HasDigest image after
  pub needed : wrote ≡ true → NeedsWriting image (erased core)
  pub runs : after.live.copy ≡ Rw
  pub jump_off : after.live.jump_off ≡ true
  pub locked : can_lock (erased core) ≡ true → (after.live.ro_now ≡ true) × (after.live.all_now ≡ true)
  pub takes : length (calls_of entries) ≤ sync_room bus (length (erased core).flash) + pending_room core.live.erase
