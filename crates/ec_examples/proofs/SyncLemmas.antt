-- What is not syncable.
use Rattle.std.proofs.Common.{◌≡◌, true, false, ◌⊎◌, inl, inr, List, ℕ}
use Rattle.ec_model.specs.Table.{Table}
use Rattle.ec_model.specs.Syncable.{settled, Syncable, HoldsImage, is_all_lock_stored}
use Rattle.std.specs.Prelude.{IsFalse}

-- no test is both true and false
pub apart : true ≡ false → ⊥
apart same = cc

-- neither is RW as it has to be, nor can it be written
pub closed : (table : Table) (image : List ℕ) → (HoldsImage (settled table) image → ⊥) → is_all_lock_stored (settled table) ≡ true → Syncable table image → ⊥
closed table image differs locked open_table = by_case open_table.writable where
  by_case : HoldsImage (settled table) image ⊎ IsFalse (is_all_lock_stored (settled table)) → ⊥
  by_case (inl holds) = differs holds
  by_case (inr unlocked) = apart (rw (← locked) unlocked)
