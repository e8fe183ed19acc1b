-- Programming one byte after the other.
use Rattle.std.proofs.Common.{◌≡◌, ℕ, zero, suc, ◌<◌, List, [], ◌∷◌, ◌++◌, length, get_or, set, take, drop, refl, ap, ◌∙◌, arith}
use Rattle.std.proofs.lemmas.List.{append-nil, take_all, drop_all}
use Rattle.std.specs.Prelude.{bit_and}
use Rattle.flash_dev.specs.Flash.{and_bytes}

-- the bytes once the first of them are programmed
abbrev pub programmed_first : ℕ → List ℕ → List ℕ → List ℕ
programmed_first n old new = and_bytes (take n old) (take n new) ++ drop n old

-- one byte more
pub program-more : (n : ℕ) (old new : List ℕ) → n < length old → n < length new → set (programmed_first n old new) n (bit_and (get_or (programmed_first n old new) n 0) (get_or new n 0)) ≡ programmed_first (suc n) old new
program-more n [] new below under = absurd (omega (arith, below))
program-more n (x ∷ old) [] below under = absurd (omega (arith, under))
program-more zero (x ∷ old) (y ∷ new) below under = refl
program-more (suc n) (x ∷ old) (y ∷ new) below under = ap (λ (rest : List ℕ). bit_and x y ∷ rest) (program-more n old new (omega (arith, below)) (omega (arith, under)))

-- both lists have the same length, and all bytes are programmed
pub programmed-all : (n : ℕ) (old new : List ℕ) → length old ≡ n → length new ≡ n → programmed_first n old new ≡ and_bytes old new
programmed-all n old new e f =
    ap (λ (rest : List ℕ). and_bytes (take n old) (take n new) ++ rest) (drop_all n old (omega (arith, e)))
    ∙ append-nil (and_bytes (take n old) (take n new))
    ∙ ap (λ (xs : List ℕ). and_bytes xs (take n new)) (take_all n old (omega (arith, e)))
    ∙ ap (and_bytes old) (take_all n new (omega (arith, f)))

-- as many bytes as there were
pub length-and_bytes : (old new : List ℕ) → length new ≡ length old → length (and_bytes old new) ≡ length old
length-and_bytes [] new e = refl
length-and_bytes (x ∷ old) [] e = absurd (omega (arith, e))
length-and_bytes (x ∷ old) (y ∷ new) e = omega (arith, length-and_bytes old new (omega (arith, e)))
