-- Texts of a fixed length, one after the other.
use Rattle.std.proofs.Common.{◌≡◌, ap, ◌∙◌, ℕ, List, ◌++◌, length, take, drop}
use Rattle.std.proofs.lemmas.List.{take_at, drop_at}

-- what is read at the front is the text there, and the rest is left
pub text_first : (n : ℕ) (bytes after text rest given : List ℕ) → length text ≡ n → bytes ≡ text ++ rest → given ≡ take n bytes → after ≡ drop n bytes → (given ≡ text) × (after ≡ rest)
text_first n bytes after text rest given len spelled front back = (
  front ∙ ap (λ (xs : List ℕ). take n xs) spelled ∙ take_at text rest n len,
  back ∙ ap (λ (xs : List ℕ). drop n xs) spelled ∙ drop_at text rest n len,
)
