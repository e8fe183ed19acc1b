-- What the stored bits depend on.
use Rattle.std.proofs.Common.{◌≡◌, refl, sym, ap, ◌∙◌, ℕ, zero, suc, ◌+◌, ◌*◌, ◌-◌, ◌≤◌, ◌<◌, Bool, true, false, ◌==◌, if◌then◌else◌, List, take, drop, arith}
use Rattle.std.specs.Prelude.{nat_lt, ◌⊎◌}
use Rattle.std.proofs.Common.{inl, inr}
use Rattle.std.proofs.lemmas.List.{take-take, drop-take, get_or-take}
use Rattle.std.proofs.lemmas.Bool.Decides.{eqb_tells, leb_tells}
use Rattle.ec_types.specs.LittleEndian.{u32_at}
use Rattle.ec_model.specs.Stored.{AtBoot, bits_of_word, has_mark, has_mark2, slot_count, slot, is_counting, is_blank, bits_among, next_among, next_slot, has_place, stored_in}
use Rattle.ec_model.proofs.GuardSteps.{and_parts}

-- the records end a kilobyte behind the block's start
pub slots_end : 8 + 8 * slot_count ≡ 1024
unfolding slot_count
slots_end = refl

-- a part of a front
pub take-drop-take : (n p m : ℕ) (xs : List ℕ) → p + n ≤ m → take n (drop p (take m xs)) ≡ take n (drop p xs)
take-drop-take n p m xs inside =
    let split : m ≡ p + (m - p) = omega arith in
    ap (λ (k : ℕ). take n (drop p (take k xs))) split ∙ ap (take n) (drop-take p (m - p) xs) ∙ take-take n (m - p) (drop p xs) (omega arith)

-- a record's place in a front of the block
pub slot-take : (i m : ℕ) (block : List ℕ) → 16 + 8 * i ≤ m → slot i (take m block) ≡ slot i block
slot-take i m block inside = take-drop-take 8 (8 + 8 * i) m block (omega (arith, inside))

-- two records that say the same: they are one, or neither counts
abbrev pub SaysSame : List ℕ → List ℕ → Type 0
SaysSame one other = (one ≡ other) ⊎ ((is_counting one ≡ false) × (is_counting other ≡ false))

says-same : (i : ℕ) (one other : List ℕ) → SaysSame (slot i one) (slot i other) → bits_among i one ≡ bits_among i other → bits_among (suc i) one ≡ bits_among (suc i) other
says-same i one other same rest =
    elim same [
      | inl is ↦ ap (λ (s : List ℕ). if is_counting s then bits_of_word (u32_at 0 s) else bits_among i one) is
          ∙ ap (λ (b : AtBoot). if is_counting (slot i other) then bits_of_word (u32_at 0 (slot i other)) else b) rest
      | inr none ↦ ap (λ (b : Bool). if b then bits_of_word (u32_at 0 (slot i one)) else bits_among i one) none.0
          ∙ rest ∙ ap (λ (b : Bool). if b then bits_of_word (u32_at 0 (slot i other)) else bits_among i other) (sym none.1)
    ]

-- blocks whose records say the same say the same
pub bits-same : (count : ℕ) (one other : List ℕ) → ((i : ℕ) → i < count → SaysSame (slot i one) (slot i other)) → bits_among count one ≡ bits_among count other
bits-same zero one other same = refl
bits-same (suc count) one other same = says-same count one other (same count (omega arith)) (bits-same count one other (λ i below. same i (omega (arith, below))))

-- a number below the next one is that one or below it
pub last-or : (i count : ℕ) → i < suc count → (i ≡ count) ⊎ (i < count)
last-or i count most = by (i == count) refl where
  by : (t : Bool) → (i == count) ≡ t → (i ≡ count) ⊎ (i < count)
  by true e = inl (grind (arith, eqb_tells, e))
  by false e = inr (grind (arith, eqb_tells, e, most))

-- records behind which none counts
pub bits-below : (from count : ℕ) (block : List ℕ) → from ≤ count → ((i : ℕ) → from ≤ i → i < count → is_counting (slot i block) ≡ false) → bits_among count block ≡ bits_among from block
bits-below from zero block within none = let e : zero ≡ from = omega (arith, within) in ap (λ (n : ℕ). bits_among n block) e
bits-below from (suc count) block within none = elim (last-or from (suc count) (omega (arith, within))) [
  | inl same ↦ ap (λ (n : ℕ). bits_among n block) (sym same)
  | inr less ↦
      let below : from ≤ count = omega (arith, less) in
      ap (λ (b : Bool). if b then bits_of_word (u32_at 0 (slot count block)) else bits_among count block) (none count below (omega arith))
      ∙ bits-below from count block below (λ i least most. none i least (omega (arith, most)))
]

-- the bits among the first records, in a front of the block that has them
bits-take : (count m : ℕ) (block : List ℕ) → 8 + 8 * count ≤ m → bits_among count (take m block) ≡ bits_among count block
bits-take count m block inside = bits-same count (take m block) block (λ i below. inl (slot-take i m block (omega (arith, inside, below))))

next-take : (count m : ℕ) (block : List ℕ) → 8 + 8 * count ≤ m → next_among count (take m block) ≡ next_among count block
next-take zero m block inside = refl
next-take (suc i) m block inside =
    ap (λ (s : List ℕ). if is_blank s then next_among i (take m block) else suc i) (slot-take i m block (omega (arith, inside)))
    ∙ ap (λ (n : ℕ). if is_blank (slot i block) then n else suc i) (next-take i m block (omega (arith, inside)))

pub next_slot-take : (m : ℕ) (block : List ℕ) → 1024 ≤ m → next_slot (take m block) ≡ next_slot block
next_slot-take m block large = next-take slot_count m block (omega (arith, large, slots_end))

-- the mark, in a front of the block
pub mark-take : (version m : ℕ) (block : List ℕ) → 4 ≤ m → has_mark version (take m block) ≡ has_mark version block
mark-take version m block large =
    rw (get_or-take m block 0 0 (omega (arith, large)), get_or-take m block 1 0 (omega (arith, large)), get_or-take m block 2 0 (omega (arith, large)), get_or-take m block 3 0 (omega (arith, large))) refl

-- a number, in a front of the list that has it
pub u32_at-take : (place m : ℕ) (xs : List ℕ) → place + 4 ≤ m → u32_at place (take m xs) ≡ u32_at place xs
u32_at-take place m xs inside =
    let split : m ≡ place + (m - place) = omega arith in
    let long : 4 ≤ m - place = omega (arith, inside) in
    let ys : List ℕ = drop place xs in
    ap (λ (k : ℕ). u32_at place (take k xs)) split
    ∙ ap (u32_at 0) (drop-take place (m - place) xs)
    ∙ rw (get_or-take (m - place) ys 0 0 (omega (arith, long)), get_or-take (m - place) ys 1 0 (omega (arith, long)), get_or-take (m - place) ys 2 0 (omega (arith, long)), get_or-take (m - place) ys 3 0 (omega (arith, long))) refl

-- a block says what its first kilobyte says
pub stored_in-take : (m : ℕ) (block : List ℕ) → 1024 ≤ m → stored_in (take m block) ≡ stored_in block
stored_in-take m block large =
    rw (mark-take 0x31 m block (omega (arith, large)), mark-take 0x32 m block (omega (arith, large)), u32_at-take 4 m block (omega (arith, large)), bits-take slot_count m block (omega (arith, large, slots_end))) refl

next-step : (written : Bool) (i count next : ℕ) (block : List ℕ) → is_blank (slot count block) ≡ written → (if written then next else suc count) ≤ i → i < suc count →
    (next ≤ i → i < count → is_blank (slot i block) ≡ true) → is_blank (slot i block) ≡ true
next-step false i count next block blank least most rest = absurd (omega (arith, least, most))
next-step true i count next block blank least most rest = elim (last-or i count most) [
  | inl same ↦ ap (λ (n : ℕ). is_blank (slot n block)) same ∙ blank
  | inr below ↦ rest least below
]

-- no place from the next one on was written
pub next-blank : (count : ℕ) (block : List ℕ) (i : ℕ) → next_among count block ≤ i → i < count → is_blank (slot i block) ≡ true
next-blank zero block i least most = absurd (omega (arith, most))
next-blank (suc count) block i least most = next-step (is_blank (slot count block)) i count (next_among count block) block refl least most (next-blank count block i)

least-step : (blank : Bool) (next count : ℕ) → next ≤ count → (if blank then next else suc count) ≤ suc count
least-step true next count least = omega (arith, least)
least-step false next count least = omega arith

-- there is no place behind the last one
pub next-least : (count : ℕ) (block : List ℕ) → next_among count block ≤ count
next-least zero block = omega arith
next-least (suc i) block = least-step (is_blank (slot i block)) (next_among i block) i (next-least i block)

-- where all are blank, the next place is the first
pub next-first : (count : ℕ) (block : List ℕ) → ((i : ℕ) → i < count → is_blank (slot i block) ≡ true) → next_among count block ≡ 0
next-first zero block blank = refl
next-first (suc i) block blank =
    ap (λ (b : Bool). if b then next_among i block else suc i) (blank i (omega arith)) ∙ next-first i block (λ j below. blank j (omega (arith, below)))

-- one more record has a place
pub record IsPlaced (block : List ℕ) : Type 0 where
  pub mark : has_mark2 block ≡ true
  pub below : next_slot block < slot_count

pub placed : (block : List ℕ) → has_place block ≡ true → IsPlaced block
placed block place =
    let parts = and_parts (has_mark2 block) (nat_lt (next_slot block) slot_count) place in
    record { mark = parts.0; below = grind (arith, leb_tells, parts.1) }
