-- What a sync comes to from a state from which it has to succeed.
use Rattle.std.specs.Prelude.{◌≡◌, ℕ, Bool, true, List}
use Rattle.ec_types.specs.declared.bus.BusKind.{BusKind}
use Rattle.ec_types.specs.declared.image.ImageCopy.TheVariants.{Rw}
use Rattle.ec_model.specs.ProtectRow.{can_lock}
use Rattle.ec_model.specs.Table.{Table, Core}
use Rattle.command_laws.specs.Standing.{IsAt}
use Rattle.sync_rules.specs.declared.ending.SyncEnd.{SyncEnd}
use Rattle.sync_rules.specs.declared.ending.SyncEnd.TheVariants.{Done}
use Rattle.sync_laws.specs.Written.{HasDigest}

-- it is done: RW runs and has the digest of the padded image, no jump is left, and where locks can be set they are
pub record IsSynced (bus : BusKind) (image : List ℕ) (end : SyncEnd) (last : Table) : Type 0 where
  pub wrote : Bool
  pub end_is : end ≡ Done wrote
  pub after : Core
  pub at : IsAt bus after last
  pub digest : HasDigest image after
  pub runs : after.live.copy ≡ Rw
  pub jump_off : after.live.jump_off ≡ true
  pub locked : can_lock after ≡ true → (after.live.ro_now ≡ true) × (after.live.all_now ≡ true)
