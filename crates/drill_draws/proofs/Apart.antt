-- The images of two rounds are not the same.
use Rattle.std.proofs.Common.{◌≡◌, refl, sym, ap, ◌∙◌, ℕ, suc, ◌-◌, ◌<◌, ◌≤◌, ◌^◌, List, [], ◌∷◌, ◌++◌, length, drop, slice_index, replicate, codes, decimal, arith, append_assoc}
use Rattle.std.specs.Char.{digit_value}
use Rattle.std.specs.Str.Parse.{AllDigits}
use Rattle.std.proofs.lemmas.Fmt.{decimal_is_IsNumeral, decimal_injective, length-decimal-le}
use Rattle.drill_draws.specs.Draws.{drawn_bytes}
use Rattle.drill_draws.specs.Rounds.{body_length, drill_image}

-- digits before a zero are all the same
same-digits : (digits others rest other_rest : List ℕ) → AllDigits 10 digits → AllDigits 10 others →
    digits ++ 0 ∷ rest ≡ others ++ 0 ∷ other_rest → digits ≡ others
same-digits [] [] rest other_rest are others_are same = refl
same-digits [] (other ∷ others) rest other_rest are others_are same =
    let first : 0 ≡ other = ap (λ (xs : List ℕ). slice_index xs 0) same in
    let zero_is : digit_value 0 < 10 = rw (← first) at others_are.0 in
    absurd (omega (arith, zero_is))
same-digits (digit ∷ digits) [] rest other_rest are others_are same =
    let first : digit ≡ 0 = ap (λ (xs : List ℕ). slice_index xs 0) same in
    let zero_is : digit_value 0 < 10 = rw first at are.0 in
    absurd (omega (arith, zero_is))
same-digits (digit ∷ digits) (other ∷ others) rest other_rest are others_are same =
    let first : digit ≡ other = ap (λ (xs : List ℕ). slice_index xs 0) same in
    let next = same-digits digits others rest other_rest are.1 others_are.1 (ap (λ (xs : List ℕ). drop 1 xs) same) in
    rw (first, next) refl

-- what stands behind `drill-` in an image: the round's number and a zero
behind-label : (number bytes : List ℕ) → length number ≤ 10 →
    number ++ replicate {A = ℕ} (32 - length (codes "drill-" ++ number)) 0 ++ bytes ≡ number ++ 0 ∷ (replicate (25 - length number) 0 ++ bytes)
behind-label number bytes short =
    let left : 32 - length (codes "drill-" ++ number) ≡ suc (25 - length number) = omega (arith, short) in
    rw left (simp append_assoc)

-- images that are the same are of one round
pub same-round : (round other size other_size x y : ℕ) → round < 2 ^ 32 → other < 2 ^ 32 →
    drill_image round size x ≡ drill_image other other_size y → round ≡ other
same-round round other size other_size x y fits other_fits same =
    let tails = ap (λ (xs : List ℕ). drop 14 xs) same in
    let digits = decimal_is_IsNumeral round (omega (arith, fits)) in
    let others = decimal_is_IsNumeral other (omega (arith, other_fits)) in
    let short = length-decimal-le 10 round (omega arith) (omega (arith, fits)) (omega (arith, fits)) in
    let other_short = length-decimal-le 10 other (omega arith) (omega (arith, other_fits)) (omega (arith, other_fits)) in
    let bytes = drawn_bytes 2 (body_length x) x in
    let other_bytes = drawn_bytes 2 (body_length y) y in
    let ends = sym (behind-label (decimal round) bytes short) ∙ tails ∙ behind-label (decimal other) other_bytes other_short in
    decimal_injective round other (omega (arith, fits)) (omega (arith, other_fits))
    (same-digits (decimal round) (decimal other) _ _ digits.0.1 others.0.1 ends)
