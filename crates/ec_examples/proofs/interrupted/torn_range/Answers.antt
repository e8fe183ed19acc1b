use Rattle.std.proofs.Common.{◌≡◌, refl, ap, ℕ, List, [], ◌∷◌, slice_index, arith}
use Rattle.flash_dev.specs.Flash.{Torn, overwritten}
use Rattle.ec_examples.specs.Flashes.{e64}
use Rattle.ec_examples.proofs.interrupted.torn_range.Goals as goal

pub returns-clause-torn : goal.returns-clause-torn
returns-clause-torn c = record { same_length = refl; before = refl; after = refl }

-- a byte that is 0xA5 and 0xFF
apart : (a b : ℕ) → a ≡ 0xA5 → b ≡ 0xFF → a ≡ b → ⊥
apart a b changed erased same = omega (arith, changed, erased, same)

-- its first byte behind 0x8040 was changed
changed : Torn 0x8000 64 e64 (overwritten 0x8040 (0xA5 ∷ 0xA5 ∷ []) e64) → ⊥
changed torn = apart _ _ refl refl (ap (λ (bytes : List ℕ). slice_index bytes 0) torn.after)

pub returns-clause-beside : goal.returns-clause-beside
returns-clause-beside c = changed
