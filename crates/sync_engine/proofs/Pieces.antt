-- The pieces of the padded image.
use Rattle.std.proofs.Common.{◌≡◌, ◌∙◌, sym, ap, ℕ, ◌+◌, ◌-◌, ◌≤◌, ◌<◌, ◌⊎◌, inl, inr, min, leb, true, false, List, [], ◌++◌, length, take, drop, replicate, append-nil, arith}
use Rattle.std.proofs.Math.Nat.{min-eq_left, min-eq_right}
use Rattle.std.proofs.Math.ListN.{drop_of_length-le}
use Rattle.std.proofs.Math.Seq.{take-append-add, drop-append-add}
use Rattle.std.proofs.lemmas.Bool.Decides.{leb_tells}
use Rattle.std.proofs.lemmas.List.{take-append-le, drop-append-le, take-replicate, drop-replicate, take_all, length-take, length-drop, length-replicate}

-- the first of some equal bytes
taken-by : (most count byte : ℕ) → ((leb most count ≡ true) × (most ≤ count)) ⊎ ((leb most count ≡ false) × (count < most)) → take most (replicate count byte) ≡ replicate (min most count) byte
taken-by most count byte (inl (test, few)) = take-replicate most count byte few ∙ ap (λ (n : ℕ). replicate n byte) (sym (min-eq_left few))
taken-by most count byte (inr (test, many)) =
    take_all most (replicate count byte) (omega (arith, many, length-replicate count byte)) ∙ ap (λ (n : ℕ). replicate n byte) (sym (min-eq_right (omega (arith, many))))

taken : (most count byte : ℕ) → take most (replicate count byte) ≡ replicate (min most count) byte
taken most count byte = taken-by most count byte (leb_tells most count)

more : (a b c : ℕ) → a ≤ b → a ≤ b + c
more a b c small = omega (arith, small)

-- a piece of bytes that have equal ones behind them
front-by : (most count byte : ℕ) (front : List ℕ) → ((leb most (length front) ≡ true) × (most ≤ length front)) ⊎ ((leb most (length front) ≡ false) × (length front < most)) →
    take most (front ++ replicate count byte) ≡ take most front ++ replicate (min most (length front + count) - length (take most front)) byte
front-by most count byte front (inl (test, few)) =
    let none : min most (length front + count) - length (take most front) ≡ 0 = omega (arith, few, length-take most front, min-eq_left few, min-eq_left (more most (length front) count few)) in
    take-append-le most front (replicate count byte) few ∙ sym (ap (λ (n : ℕ). take most front ++ replicate n byte) none ∙ append-nil (take most front))
front-by most count byte front (inr (test, many)) =
    let whole : take most front ≡ front = take_all most front (omega (arith, many)) in
    let parts : length front + (most - length front) ≡ most = omega (arith, many) in
    let count_is : min (most - length front) count ≡ min most (length front + count) - length front = omega (arith, many) in
    ap (λ (n : ℕ). take n (front ++ replicate count byte)) (sym parts) ∙ take-append-add front (replicate count byte) (most - length front)
    ∙ ap (λ (rest : List ℕ). front ++ rest) (taken (most - length front) count byte ∙ ap (λ (n : ℕ). replicate n byte) count_is)
    ∙ ap (λ (bytes : List ℕ). bytes ++ replicate (min most (length front + count) - length bytes) byte) (sym whole)

front-taken : (most count byte : ℕ) (front : List ℕ) → take most (front ++ replicate count byte) ≡ take most front ++ replicate (min most (length front + count) - length (take most front)) byte
front-taken most count byte front = front-by most count byte front (leb_tells most (length front))

no-more : (n : ℕ) → length {A = ℕ} [] + n ≡ n
no-more n = omega arith

-- a piece of the padded image: what it has of the image, and erased bytes
cut-by : (image : List ℕ) (total most place byte : ℕ) → length image ≤ total → place < total → ((leb place (length image) ≡ true) × (place ≤ length image)) ⊎ ((leb place (length image) ≡ false) × (length image < place)) →
    take most (drop place (image ++ replicate (total - length image) byte)) ≡ take most (drop place image) ++ replicate (min most (total - place) - length (take most (drop place image))) byte
cut-by image total most place byte within there (inl (test, before)) =
    let rest : length (drop place image) + (total - length image) ≡ total - place = omega (arith, length-drop place image, before, within) in
    ap (take most) (drop-append-le place image (replicate (total - length image) byte) before) ∙ front-taken most (total - length image) byte (drop place image)
    ∙ ap (λ (n : ℕ). take most (drop place image) ++ replicate (min most n - length (take most (drop place image))) byte) rest
cut-by image total most place byte within there (inr (test, behind)) =
    let none : drop place image ≡ [] = drop_of_length-le image (omega (arith, behind)) in
    let parts : length image + (place - length image) ≡ place = omega (arith, behind) in
    let rest : (total - length image) - (place - length image) ≡ total - place = omega (arith, behind, there) in
    ap (λ (n : ℕ). take most (drop n (image ++ replicate (total - length image) byte))) (sym parts)
    ∙ ap (take most) (drop-append-add image (replicate (total - length image) byte) (place - length image) ∙ drop-replicate (place - length image) (total - length image) byte ∙ ap (λ (n : ℕ). replicate n byte) rest)
    ∙ front-taken most (total - place) byte []
    ∙ ap (λ (n : ℕ). take most [] ++ replicate (min most n - length {A = ℕ} (take most [])) byte) (no-more (total - place))
    ∙ ap (λ (bytes : List ℕ). take most bytes ++ replicate (min most (total - place) - length (take most bytes)) byte) (sym none)

pub piece-cut : (image : List ℕ) (total most place byte : ℕ) → length image ≤ total → place < total →
    take most (drop place (image ++ replicate (total - length image) byte)) ≡ take most (drop place image) ++ replicate (min most (total - place) - length (take most (drop place image))) byte
piece-cut image total most place byte within there = cut-by image total most place byte within there (leb_tells place (length image))
