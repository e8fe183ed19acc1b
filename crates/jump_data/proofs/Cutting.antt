-- Bytes, cut into a content, the zeros behind it, and the rest.
use Rattle.std.proofs.Common.{◌≡◌, refl, sym, ap, ◌∙◌, ℕ, zero, suc, ◌+◌, ◌≤◌, Bool, true, false, ◌&&◌, ◌==◌, List, [], ◌∷◌, ◌++◌, length, take, drop, replicate, arith, append_assoc, length-take, length-drop, eqb-true}
use Rattle.std.proofs.lemmas.List.{take-append-drop, length-replicate}
use Rattle.std.proofs.Math.Seq.{take-append_seam, drop-append_seam}
use Rattle.std.specs.List.{list_all}

abbrev pub is_zero : ℕ → Bool
is_zero byte = byte == 0

and_parts : (a b : Bool) → (a && b) ≡ true → (a ≡ true) × (b ≡ true)
and_parts true b both = (refl, both)
and_parts false b both = cc

-- bytes that are all 0 are so many zeros
zeros-are : (xs : List ℕ) → list_all is_zero xs ≡ true → xs ≡ replicate (length xs) 0
zeros-are [] all = refl
zeros-are (x ∷ xs) all =
    let parts = and_parts (x == 0) (list_all is_zero xs) all in
    let first : x ≡ 0 = eqb-true x 0 parts.0 in
    ap (λ (n : ℕ). n ∷ xs) first ∙ ap (λ (rest : List ℕ). 0 ∷ rest) (zeros-are xs parts.1)

zeros-pass : (n : ℕ) → list_all is_zero (replicate n 0) ≡ true
zeros-pass zero = refl
zeros-pass (suc n) = zeros-pass n

-- two lists with fronts of one length that are the same have the same fronts, and the same rests
pub fronts-same : (a b x y : List ℕ) → length a ≡ length b → a ++ x ≡ b ++ y → (a ≡ b) × (x ≡ y)
fronts-same a b x y long same = (
  sym (take-append_seam a x) ∙ ap (take (length a)) same ∙ ap (λ (n : ℕ). take n (b ++ y)) long ∙ take-append_seam b y,
  sym (drop-append_seam a x) ∙ ap (drop (length a)) same ∙ ap (λ (n : ℕ). drop n (b ++ y)) long ∙ drop-append_seam b y,
)

-- the zeros that stand behind a content pass
pub filling-passes : (content rest : List ℕ) (n : ℕ) → list_all is_zero (take n (drop (length content) (content ++ replicate n 0 ++ rest))) ≡ true
filling-passes content rest n =
    let seam : drop (length content) (content ++ replicate n 0 ++ rest) ≡ replicate n 0 ++ rest = ap (drop (length content)) (append_assoc content (replicate n 0) rest) ∙ drop-append_seam content (replicate n 0 ++ rest) in
    let front : take n (replicate n 0 ++ rest) ≡ replicate n 0 = ap (λ (m : ℕ). take m (replicate n 0 ++ rest)) (sym (length-replicate {A = ℕ} n 0)) ∙ take-append_seam (replicate n 0) rest in
    ap (λ (bytes : List ℕ). list_all is_zero bytes) (ap (take n) seam ∙ front) ∙ zeros-pass n

-- what passes is a content, zeros, and the rest
pub filled : (size n : ℕ) (bytes : List ℕ) → size + n ≤ length bytes → list_all is_zero (take n (drop size bytes)) ≡ true → bytes ≡ take size bytes ++ replicate n 0 ++ drop n (drop size bytes)
filled size n bytes within zeros =
    let behind : List ℕ = drop size bytes in
    let long : length (take n behind) ≡ n = omega (arith, length-take n behind, length-drop size bytes) in
    let middle : take n behind ≡ replicate n 0 = zeros-are (take n behind) zeros ∙ ap (λ (m : ℕ). replicate m 0) long in
    sym (take-append-drop size bytes)
    ∙ ap (λ (rest : List ℕ). take size bytes ++ rest) (sym (take-append-drop n behind) ∙ ap (λ (front : List ℕ). front ++ drop n behind) middle)
    ∙ sym (append_assoc (take size bytes) (replicate n 0) (drop n behind))
