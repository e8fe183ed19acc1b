-- A read from a list at a place.
use Rattle.std.proofs.Common.{◌≡◌, ℕ, ◌+◌, ◌<◌, List, [], ◌++◌, length, take, drop, arith}
use Rattle.std.specs.Prelude.{min}
use Rattle.std.proofs.lemmas.List.{take-append-drop, drop-drop}
use Rattle.std.proofs.lemmas.Grind.{common_steps}

-- a list of no length is empty
none_left : (xs : List ℕ) → length xs ≡ 0 → xs ≡ []
none_left xs e = grind (arith, common_steps)

-- a buffer that begins with the next bytes holds what was taken, and nothing is taken only at the end
pub given : (bytes buf : List ℕ) (k n : ℕ) → 0 < length buf → n ≡ min (length (drop k bytes)) (length buf) → take n buf ≡ take n (drop k bytes) → (take n buf ++ drop (k + n) bytes ≡ drop k bytes) × (n ≡ 0 → drop k bytes ≡ [])
given bytes buf k n room count front =
    (rw (front, ← drop-drop n k bytes) (take-append-drop n (drop k bytes)), λ zero. none_left (drop k bytes) (omega (arith, count, zero)))
