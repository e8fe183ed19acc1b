-- A sync that finds nothing to write.
use Rattle.std.specs.Prelude.{◌≡◌, ◌≤◌, ◌+◌, ◌*◌, ◌/◌, ℕ, true, false, List, length, None, Option, Some}
use Rattle.ec_types.specs.declared.bus.BusKind.{BusKind}
use Rattle.ec_types.specs.declared.image.Fit.TheVariants.{Yes}
use Rattle.ec_types.specs.declared.image.ImageCopy.TheVariants.{Rw}
use Rattle.ec_model.specs.declared.event.Entry.{Entry}
use Rattle.ec_model.specs.HostCalls.{calls_of}
use Rattle.ec_model.specs.Image.{fit_of, padded}
use Rattle.ec_model.specs.ProtectRow.{can_lock}
use Rattle.ec_model.specs.Ranges.{rw_range, part}
use Rattle.ec_model.specs.Table.{Table, Core}
use Rattle.ec_model.specs.declared.live.EraseJob.{EraseJob}
use Rattle.command_laws.specs.Restarting.{erased}
use Rattle.command_laws.specs.Standing.{IsAt}
use Rattle.sync_rules.specs.declared.ending.SyncEnd.{SyncEnd}
use Rattle.sync_rules.specs.declared.ending.SyncEnd.TheVariants.{Done}

-- RW has the image, which fits
pub record HoldsFitting (image : List ℕ) (core : Core) : Type 0 where
  pub fits : fit_of image (length core.flash) ≡ Yes
  pub holds : part (rw_range (length core.flash)) core.flash ≡ padded image (length core.flash)

-- the controller behind it: its flash and its pin as they were, RW runs, no jump is left, and where locks can be set they are
pub record IsSealed (bus : BusKind) (core after : Core) (last : Table) : Type 0 where
  pub at : IsAt bus after last
  pub flash_is : after.flash ≡ core.flash
  pub pin_is : after.pin ≡ core.pin
  pub runs : after.live.copy ≡ Rw
  pub jump_off : after.live.jump_off ≡ true
  pub locked : can_lock core ≡ true → (after.live.ro_now ≡ true) × (after.live.all_now ≡ true)

-- how many calls it takes at most: two hashes, at most nine other commands, and a restart
abbrev pub kept_room : ℕ → ℕ
kept_room size = 892 + ((rw_range size).size / 65536 + 1) * 476

-- and more behind an erase that is pending: a look and a wait for each block, and the request that was refused
abbrev pub pending_room : Option EraseJob → ℕ
pending_room None = 0
pending_room (Some job) = job.left * 27 + 22

-- it is done, and nothing was written; behind it is what the pending erase left, if there was one
pub record IsKept (bus : BusKind) (core : Core) (entries : List Entry) (end : SyncEnd) (last : Table) : Type 0 where
  pub end_is : end ≡ Done false
  pub after : Core
  pub sealed : IsSealed bus (erased core) after last
  pub takes : length (calls_of entries) ≤ kept_room (length (erased core).flash) + pending_room core.live.erase
