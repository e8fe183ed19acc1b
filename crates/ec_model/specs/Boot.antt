-- The state after power-on or a reset.
use Rattle.std.specs.Prelude.{ℕ, Bool, false, not, ◌&&◌, ◌||◌, List, [], length, None}
use Rattle.ec_types.specs.Tables.{cause_flags}
use Rattle.ec_types.specs.declared.reset.ResetCause.{ResetCause}
use Rattle.ec_types.specs.declared.bus.BusKind.{BusKind}
use Rattle.ec_types.specs.declared.image.ImageCopy.TheVariants.{Ro}
use Rattle.ec_model.specs.declared.live.HashView.TheVariants.{Busy}
use Rattle.ec_model.specs.declared.live.Live.{Live}
use Rattle.ec_model.specs.Stored.{stored}
use Rattle.ec_model.specs.Ranges.{rw_range}
use Rattle.ec_model.specs.Bus.{fresh_bus}
use Rattle.ec_model.specs.Table.{Core, Table, table_of, ticks_of}

-- whether a boot locks the RO blocks. `unread` says that the stored protection could not be read
abbrev pub boots_ro_locked : List ℕ → Bool → Bool → Bool
boots_ro_locked flash pin unread = pin && ((stored flash).ro || unread)

-- whether a boot locks all blocks
abbrev pub boots_all_locked : List ℕ → Bool → Bool → Bool
boots_all_locked flash pin unread = boots_ro_locked flash pin unread && not unread && (stored flash).all

-- the live state after a boot that set these locks: RO runs, all of RW begins to be hashed, no erase is pending, nothing is saved
abbrev pub fresh_live : (size : ℕ) → ResetCause → (ro_now all_now unread : Bool) → Live
fresh_live size cause ro_now all_now unread =
    record {
      copy = Ro;
      flags = cause_flags cause;
      jumped = false;
      ro_now = ro_now;
      all_now = all_now;
      pstate_bad = unread;
      jump_off = false;
      hash = Busy (rw_range size).at (rw_range size).size (ticks_of (rw_range size).size);
      erase = None;
      saved = 9;
    }

-- the live state after a boot
abbrev pub booted_live : List ℕ → Bool → ResetCause → Bool → Live
booted_live flash pin cause unread = fresh_live (length flash) cause (boots_ro_locked flash pin unread) (boots_all_locked flash pin unread) unread

-- a boot, without the bus: the hash that it begins has no nonce
abbrev pub booted : List ℕ → Bool → ResetCause → Bool → Core
booted flash pin cause unread = record { flash = flash; pin = pin; live = booted_live flash pin cause unread; nonce = [] }

-- a boot, with a fresh bus
abbrev pub booted_table : List ℕ → Bool → BusKind → ResetCause → Bool → Table
booted_table flash pin kind cause unread = table_of (booted flash pin cause unread) (fresh_bus kind)
