-- Tags, one by one.
use Rattle.std.proofs.Common.{◌≡◌, refl, sym, ap, ◌∙◌, ℕ, ◌+◌, true, false, ◌==◌, List, [], ◌∷◌, ◌++◌, length, drop, slice_index, Some, None, append_assoc}
use Rattle.ec_types.proofs.LittleEndianLaws.{u16_at-u16_bytes}
use Rattle.ec_types.specs.LittleEndian.{u16_at}
use Rattle.jump_data.specs.Tags.{Tag, IsTag, AreTags, filling, tag_bytes, tags_bytes, first_place}
use Rattle.jump_data.proofs.Cutting.{fronts-same}

abbrev pub made : ℕ → List ℕ → Tag
made number content = record { number = number; content = content }

-- a list begins with one tag at most
pub tag-same : (t u : Tag) (r s : List ℕ) → IsTag t → IsTag u → tag_bytes t ++ r ≡ tag_bytes u ++ s → (t ≡ u) × (r ≡ s)
tag-same t u r s is_t is_u same =
    let tail : List ℕ → Tag → List ℕ = λ rest tag. length tag.content ∷ 1 ∷ (tag.content ++ filling (length tag.content) ++ rest) in
    let number : t.number ≡ u.number = sym (u16_at-u16_bytes t.number (tail r t) is_t.numbered) ∙ ap (u16_at 0) same ∙ u16_at-u16_bytes u.number (tail s u) is_u.numbered in
    let size : length t.content ≡ length u.content = ap (λ (bytes : List ℕ). slice_index bytes 2) same in
    let behind : t.content ++ filling (length t.content) ++ r ≡ u.content ++ filling (length u.content) ++ s = ap (drop 4) same in
    let parts : (t.content ≡ u.content) × (filling (length t.content) ++ r ≡ filling (length u.content) ++ s) =
    fronts-same t.content u.content (filling (length t.content) ++ r) (filling (length u.content) ++ s) size
    (sym (append_assoc t.content (filling (length t.content)) r) ∙ behind ∙ append_assoc u.content (filling (length u.content)) s) in
    let rests : (filling (length t.content) ≡ filling (length u.content)) × (r ≡ s) =
    fronts-same (filling (length t.content)) (filling (length u.content)) r s (ap (λ (n : ℕ). length (filling n)) size) parts.1 in
    (ap (λ (n : ℕ). made n t.content) number ∙ ap (λ (bytes : List ℕ). made u.number bytes) parts.0, rests.1)

-- some tags begin with this one, and the bytes behind it are the others
pub record Behind (name : ℕ) (content behind : List ℕ) (each : List Tag) : Type 0 where
  pub later : List Tag
  pub are : AreTags later
  pub first : each ≡ made name content ∷ later
  pub spells : behind ≡ tags_bytes later

pub walk : (name : ℕ) (content behind : List ℕ) (each : List Tag) → IsTag (made name content) → AreTags each → tag_bytes (made name content) ++ behind ≡ tags_bytes each → Behind name content behind each
walk name content behind [] is are same = absurd cc
walk name content behind (t ∷ ts) is are same =
    let both = tag-same (made name content) t behind (tags_bytes ts) is are.0 same in
    record { later = ts; are = are.1; first = ap (λ (tag : Tag). tag ∷ ts) (sym both.0); spells = both.1 }

-- no bytes are no tags
pub none-placed : (number at : ℕ) (each : List Tag) → [] ≡ tags_bytes each → None ≡ first_place number at each
none-placed number at [] same = refl
none-placed number at (t ∷ ts) same = absurd cc

-- bytes are no tags where there are some, and none of them stands in front
pub none-in-front : (bytes : List ℕ) (each : List Tag) → (bytes ≡ [] → ⊥) → ((tag : Tag) (rest : List ℕ) → IsTag tag → bytes ≡ tag_bytes tag ++ rest → ⊥) → AreTags each → bytes ≡ tags_bytes each → ⊥
none-in-front bytes [] some none are same = some same
none-in-front bytes (t ∷ ts) some none are same = none t (tags_bytes ts) are.0 same

-- the first tag has the number
pub placed-here : (name number at : ℕ) (content : List ℕ) (later : List Tag) → (name == number) ≡ true → Some (at + 4, length content) ≡ first_place number at (made name content ∷ later)
placed-here name number at content later named = rw named refl

-- the first tag has another number
pub placed-behind : (name number at : ℕ) (content : List ℕ) (later : List Tag) → (name == number) ≡ false → first_place number (at + length (tag_bytes (made name content))) later ≡ first_place number at (made name content ∷ later)
placed-behind name number at content later other = rw other refl
