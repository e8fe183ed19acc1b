-- The text that names a round.
use Rattle.std.proofs.Common.{◌≡◌, ap, ◌∙◌, ℕ, ◌-◌, List, ◌++◌, length, take, drop, replicate, arith, append_assoc}
use Rattle.std.proofs.lemmas.List.{drop-replicate, take-replicate, length-append}

-- the zeros behind the first ones
pub zeros-behind : (count most : ℕ) → take (most - count) (drop count (replicate {A = ℕ} most 0)) ≡ replicate (most - count) 0
zeros-behind count most =
    ap (λ (zeros : List ℕ). take (most - count) zeros) (drop-replicate count most 0) ∙ take-replicate (most - count) (most - count) 0 (omega arith)

-- a text of six bytes, a number, and zeros up to 32 bytes
pub padded-is : (old label number : List ℕ) → length label ≡ 6 →
    old ++ label ++ number ++ take (26 - length number) (drop (length number) (replicate {A = ℕ} 26 0))
    ≡ old ++ (label ++ number ++ replicate (32 - length (label ++ number)) 0)
padded-is old label number six =
    let left : 26 - length number ≡ 32 - length (label ++ number) = omega (arith, length-append label number, six) in
    rw (zeros-behind (length number) 26, left) (simp append_assoc)
