-- Sums of a packet's bytes, and the one byte that makes them 0.
use Rattle.std.proofs.Common.{◌≡◌, refl, ap, ◌∙◌, ℕ, ◌+◌, ◌-◌, ◌%◌, ◌<◌, Bool, true, false, not, ◌||◌, ◌==◌, if◌then◌else◌, List, ◌∷◌, ◌++◌, arith}
use Rattle.std.specs.Prelude.{sum}
use Rattle.std.proofs.lemmas.List.Sums.{sum_by-append, sum_by-cons}
use Rattle.std.proofs.lemmas.Bool.Decides.{eqb_tells}
use Rattle.ec_model.specs.Packet.{checksum_of}

-- the sum of a packet is that of its parts
pub sum_append : (xs ys : List ℕ) → sum (xs ++ ys) ≡ sum xs + sum ys
sum_append xs ys = sum_by-append (λ x. x) xs ys

only : (first check rest both total : ℕ) → check < 256 → both ≡ first + rest → total ≡ first + (check + rest) → total % 256 ≡ 0 → (256 - both % 256) % 256 ≡ check
only first check rest both total fits both_is total_is zero = omega arith

-- no other byte makes the sum 0
pub only_checksum : (first check : ℕ) (rest : List ℕ) → check < 256 → sum (first ∷ check ∷ rest) % 256 ≡ 0 → checksum_of (first ∷ rest) ≡ check
only_checksum first check rest fits zero =
    only first check (sum rest) (sum (first ∷ rest)) (sum (first ∷ check ∷ rest)) fits (sum_by-cons (λ x. x) first rest)
    (sum_by-cons (λ x. x) first (check ∷ rest) ∙ ap (λ (n : ℕ). first + n) (sum_by-cons (λ x. x) check rest)) zero

-- a test that lets pass
pub passes : {A : Type 0} (test : Bool) (refusal answer given : A) → (refusal ≡ given → test ≡ false) → (if test then refusal else answer) ≡ given → (test ≡ false) × (answer ≡ given)
passes true refusal answer given other same = let wrong : true ≡ false = other same in absurd cc
passes false refusal answer given other same = (refl, same)

-- a test for equality
pub equal_of : (a b : ℕ) → not (a == b) ≡ false → a ≡ b
equal_of a b same = grind (arith, eqb_tells)

-- two tests
pub both_of : (a b : Bool) → (a || b) ≡ false → (a ≡ false) × (b ≡ false)
both_of true b same = (same, absurd cc)
both_of false b same = (refl, same)
