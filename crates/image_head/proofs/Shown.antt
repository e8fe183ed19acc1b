-- The front of a version that is shown.
use Rattle.std.proofs.Common.{◌≡◌, refl, sym, ◌∙◌, ap, ℕ, ◌+◌, ◌-◌, ◌<◌, ◌≤◌, ◌⊎◌, inl, inr, min, Bool, true, false, not, cond, List, [], ◌∷◌, ◌++◌, length, take, drop, replicate, take_while, position, unwrap_or, Some, None, arith, length-take}
use Rattle.std.specs.Prelude.{nat_lt}
use Rattle.std.specs.List.{prefix_len, position_or_len}
use Rattle.std.proofs.lemmas.Bool.{cases_lt}
use Rattle.std.proofs.lemmas.Bool.Decides.{nat_tests}
use Rattle.std.proofs.lemmas.List.{take-take, take_all, drop-replicate}
use Rattle.std.proofs.lemmas.List.Sums.{prefix_len-le-length}
use Rattle.ec_model.specs.InfoRows.{zero_padded}

-- two tests that agree pass equally many elements at the front
prefix_len-same : (p q : ℕ → Bool) (xs : List ℕ) → ((x : ℕ) → p x ≡ q x) → prefix_len p xs ≡ prefix_len q xs
prefix_len-same p q [] agree = refl
prefix_len-same p q (x ∷ xs) agree =
    ap (λ (b : Bool). cond b (1 + prefix_len p xs) 0) (agree x) ∙ ap (λ (n : ℕ). cond (q x) (1 + n) 0) (prefix_len-same p q xs agree)

not-not : (b : Bool) → not (not b) ≡ b
not-not true = refl
not-not false = refl

-- a place in the list, or else its length
place_or-length : (b : Bool) (place size : ℕ) → nat_lt place size ≡ b → place ≤ size → unwrap_or (cond b (Some place) None) size ≡ place
place_or-length true place size below within = refl
place_or-length false place size above within = grind (arith, nat_tests)

-- the place of the first element that fails, or else the length, counts those that pass before it
pub shown_before : (p : ℕ → Bool) (xs : List ℕ) → unwrap_or (position (λ x. not (p x)) xs) (length xs) ≡ prefix_len p xs
shown_before p xs =
    let failing : ℕ → Bool = λ x. not (p x) in
    let place : ℕ = position_or_len failing xs in
    place_or-length (nat_lt place (length xs)) place (length xs) refl (prefix_len-le-length (λ x. not (failing x)) xs)
    ∙ prefix_len-same (λ x. not (failing x)) p xs (λ x. not-not (p x))

-- a front of a front
take-front : (limit count : ℕ) (xs : List ℕ) → (limit < count) ⊎ (count ≤ limit) → take limit (take count xs) ≡ take (min count limit) xs
take-front limit count xs (inl less) = take-take limit count xs (omega arith) ∙ ap (λ (n : ℕ). take n xs) (omega arith)
take-front limit count xs (inr more) =
    take_all limit (take count xs) (omega (arith, length-take count xs)) ∙ ap (λ (n : ℕ). take n xs) (omega arith)

-- bytes written over the front of zeros
pub text_is : (limit size count : ℕ) (p : ℕ → Bool) (raw : List ℕ) → count ≡ min (prefix_len p raw) limit → limit ≤ size → take count raw ++ drop count (replicate size 0) ≡ zero_padded size (take limit (take_while p raw))
text_is limit size count p raw counted fits =
    let front : take limit (take_while p raw) ≡ take count raw = take-front limit (prefix_len p raw) raw (cases_lt limit (prefix_len p raw)) ∙ ap (λ (n : ℕ). take n raw) (sym counted) in
    let long : length (take count raw) ≡ count = omega (arith, length-take count raw, prefix_len-le-length p raw) in
    ap (λ (rest : List ℕ). take count raw ++ rest) (drop-replicate count size 0 ∙ ap (λ (n : ℕ). replicate (size - n) 0) (sym long))
    ∙ ap (λ (bytes : List ℕ). zero_padded size bytes) (sym front)
