-- The first word of a line.
use Rattle.std.proofs.Common.{◌≡◌, ℕ, zero, suc, ◌<◌, ◌≤◌, false, eqb, List, [], ◌∷◌, ◌++◌, length, get_or, take, drop, refl, sym, ap, ◌∙◌, arith, inl, inr, length-drop}
use Rattle.std.specs.Prelude.{not, filter, All}
use Rattle.std.specs.List.{slice_split}
use Rattle.std.proofs.lemmas.Bool.{cases_lt, ne_eqb, eqb-false}
use Rattle.std.proofs.lemmas.List.{take-append-drop, length-take, get_or-take, nil_from_length, append-nil}
use Rattle.std.proofs.lemmas.List.Splits.{slice_split_none, slice_split_at}
use Rattle.std.proofs.Math.Seq.{drop-cons}
use Rattle.script_words.specs.Words.{words_of, is_space}

-- a word that is not empty is kept
kept : (w : List ℕ) (ws : List (List ℕ)) → 0 < length w → filter (λ v. not (eqb (length v) 0)) (w ∷ ws) ≡ w ∷ filter (λ v. not (eqb (length v) 0)) ws
kept w ws some = let e : eqb (length w) 0 ≡ false = ne_eqb (length w) 0 (λ z. omega (arith, z, some)) in rw e refl

-- within a list the default of a read does not matter
same_default : (xs : List ℕ) (k d e : ℕ) → k < length xs → get_or xs k d ≡ get_or xs k e
same_default [] k d e lt = absurd (omega arith)
same_default (x ∷ xs) zero d e lt = refl
same_default (x ∷ xs) (suc k) d e lt = same_default xs k d e (omega arith)

-- bytes before the first space are none
no_spaces : (line : List ℕ) (n : ℕ) → n ≤ length line → ((k : ℕ) → k < n → get_or line k 0 ≡ 32 → ⊥) → All (λ x. is_space x ≡ false) (take n line)
no_spaces line n le before k d lt =
    let near : k < n = omega (arith, lt, length-take n line) in
    rw (get_or-take n line k d near, same_default line k d 0 (omega arith)) (ne_eqb (get_or line k 0) 32 (before k near))

-- a line that begins with a word is the word and what follows it
pub first_word : (line : List ℕ) (n : ℕ) → n ≤ length line → 0 < n → ((k : ℕ) → k < n → get_or line k 0 ≡ 32 → ⊥) → (n < length line → get_or line n 0 ≡ 32) → words_of line ≡ take n line ∷ words_of (drop n line)
first_word line n le some before found =
    let w = take n line in
    let len : length w ≡ n = omega (arith, length-take n line) in
    let plain = no_spaces line n le before in
    elim (cases_lt n (length line)) [
      | inl lt ↦
          let cut : drop n line ≡ 32 ∷ drop (suc n) line = drop-cons line n 0 lt ∙ ap (λ (x : ℕ). x ∷ drop (suc n) line) (found lt) in
          let parts : line ≡ w ++ 32 ∷ drop (suc n) line = sym (take-append-drop n line) ∙ ap (λ (xs : List ℕ). w ++ xs) cut in
          ap words_of parts
          ∙ ap (λ (ws : List (List ℕ)). filter (λ v. not (eqb (length v) 0)) ws) (slice_split_at is_space w 32 (drop (suc n) line) plain refl)
          ∙ kept w (slice_split is_space (drop (suc n) line)) (omega arith)
          ∙ ap (λ (xs : List ℕ). w ∷ words_of xs) (sym cut)
      | inr ge ↦
          let nothing : drop n line ≡ [] = nil_from_length (drop n line) (omega (arith, length-drop n line)) in
          let whole : line ≡ w = sym (take-append-drop n line) ∙ ap (λ (xs : List ℕ). w ++ xs) nothing ∙ append-nil w in
          ap words_of whole
          ∙ ap (λ (ws : List (List ℕ)). filter (λ v. not (eqb (length v) 0)) ws) (slice_split_none is_space w plain)
          ∙ kept w [] (omega arith)
          ∙ ap (λ (xs : List ℕ). w ∷ words_of xs) (sym nothing)
    ]

-- what does not begin with a space begins with a word
pub word_some : (rest : List ℕ) (n : ℕ) → eqb (length rest) 0 ≡ false → (0 < length rest → get_or rest 0 0 ≡ 32 → ⊥) → (n < length rest → get_or rest n 0 ≡ 32) → 0 < n
word_some rest zero e front found = let some = eqb-false (length rest) 0 e in let lt : 0 < length rest = omega arith in absurd (front lt (found lt))
word_some rest (suc n) e front found = omega arith
