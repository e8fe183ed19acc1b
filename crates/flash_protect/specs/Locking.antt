-- Which blocks the protection locks.
use Rattle.std.specs.Prelude.{◌≡◌, ℕ, ◌/◌, Bool, List, IsTrue, IsFalse, if◌then◌else◌}
use Rattle.flash_dev.specs.Flash.{block_size}
use Rattle.flash_ctl.specs.Locks.{CtlView, no_locks, with_locked}
use Rattle.flash_protect.specs.declared.protect.Protect.{Protect}

-- the locks of a flash of this size: of all its blocks, of those that write protection guards, or none
abbrev pub locks_of : ℕ → Bool → Bool → List Bool
locks_of size ro all =
    if all then with_locked 0 (size / block_size) no_locks else
    if ro then with_locked 0 (size / 2 / block_size) no_locks else
    no_locks

-- the locked blocks are those that the protection says
pub record Locks (protect : Protect) (ctl : CtlView) : Type 0 where
  pub locks : ctl.locks ≡ locks_of ctl.device.extent protect.ro_now protect.all_now
  -- all blocks are locked only with the RO blocks
  pub all_with_ro : IsTrue protect.all_now → IsTrue protect.ro_now

-- locks are only added, with the pin asserted, and what the last boot met stays
pub record GrowsTo (pin : Bool) (old new : Protect) : Type 0 where
  pub ro_now : IsTrue old.ro_now → IsTrue new.ro_now
  pub all_now : IsTrue old.all_now → IsTrue new.all_now
  pub unpinned : IsFalse pin → new ≡ old
  pub bad : new.bad ≡ old.bad
