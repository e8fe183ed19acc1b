-- What a record that is added to the stored protection leaves of it, also where its writing stops.
use Rattle.std.proofs.Common.{◌≡◌, refl, sym, ap, ◌∙◌, subst, ℕ, zero, suc, ◌+◌, ◌*◌, ◌-◌, ◌/◌, ◌≤◌, ◌<◌, Bool, true, false, ◌&&◌, ◌==◌, nat_lt, if◌then◌else◌, List, [], ◌∷◌, ◌++◌, take, drop, length, replicate, slice_range, arith, inl, inr, length-take, length-drop, append_assoc}
use Rattle.std.specs.Prelude.{slice_index, ◌⊎◌}
use Rattle.std.proofs.Math.Seq.{take-append_seam, drop-append_seam}
use Rattle.std.proofs.lemmas.List.{drop-drop, drop-replicate, length-replicate, take-replicate, take-append-le}
use Rattle.std.proofs.lemmas.Bool.Decides.{eqb_tells, leb_tells}
use Rattle.flash_dev.specs.Flash.{programmed, overwritten, and_bytes, Torn, block_size}
use Rattle.flash_dev.proofs.Overwriting.{torn-overwritten}
use Rattle.ec_types.specs.LittleEndian.{u32_at, u32_bytes}
use Rattle.ec_model.specs.Stored.{AtBoot, bits_of_word, word_of_bits, has_mark, has_mark1, has_mark2, slot_count, slot, is_counting, is_blank, bits_among, next_slot, has_place, stored_in, mark2_bytes, open_gate}
use Rattle.ec_model.specs.Operations.{Operation, Program, Erase, operation_range, operated_all, StopsAt}
use Rattle.ec_model.specs.ProtectRow.{record_operations, storing_at}
use Rattle.ec_model.proofs.GuardSteps.{and_parts}
use Rattle.ec_model.proofs.GuardLemmas.{length-anded, some-injective}
use Rattle.ec_model.proofs.StoredLemmas.{slots_end, take-drop-take, bits-same, bits-below, next-blank, next-first, mark-take, u32_at-take, placed, last-or}

-- a part below a range that was torn
torn-below : (m place at n : ℕ) (old new : List ℕ) → Torn at n old new → place + m ≤ at → take m (drop place new) ≡ take m (drop place old)
torn-below m place at n old new torn below =
    sym (take-drop-take m place at new below) ∙ ap (λ (xs : List ℕ). take m (drop place xs)) torn.before ∙ take-drop-take m place at old below

-- and one above it
torn-above : (m place at n : ℕ) (old new : List ℕ) → Torn at n old new → at + n ≤ place → take m (drop place new) ≡ take m (drop place old)
torn-above m place at n old new torn above =
    let split : place ≡ at + n + (place - (at + n)) = omega (arith, above) in
    let far : (xs : List ℕ) → drop place xs ≡ drop (place - (at + n)) (drop (at + n) xs) =
    λ xs. ap (λ (k : ℕ). drop k xs) split ∙ sym (drop-drop (place - (at + n)) (at + n) xs) in
    ap (take m) (far new ∙ ap (drop (place - (at + n))) torn.after ∙ sym (far old))

-- the mark of a block that begins below the range
mark-torn : (version p at n : ℕ) (old new : List ℕ) → Torn at n old new → p + 4 ≤ at → has_mark version (drop p new) ≡ has_mark version (drop p old)
mark-torn version p at n old new torn below =
    sym (mark-take version 4 (drop p new) (omega arith)) ∙ ap (has_mark version) (torn-below 4 p at n old new torn below) ∙ mark-take version 4 (drop p old) (omega arith)

-- a record's place, and the two halves of it, in a flash whose block begins at p
slot-at : (p i : ℕ) (flash : List ℕ) → slot i (drop p flash) ≡ take 8 (drop (p + 8 + 8 * i) flash)
slot-at p i flash = ap (take 8) (drop-drop (8 + 8 * i) p flash ∙ ap (λ (n : ℕ). drop n flash) (omega arith))

word-at : (p i : ℕ) (flash : List ℕ) → u32_at 0 (slot i (drop p flash)) ≡ u32_at 0 (take 4 (drop (p + 8 + 8 * i) flash))
word-at p i flash =
    let ys : List ℕ = drop (p + 8 + 8 * i) flash in
    ap (u32_at 0) (slot-at p i flash) ∙ u32_at-take 0 8 ys (omega arith) ∙ sym (u32_at-take 0 4 ys (omega arith))

gate-at : (p i : ℕ) (flash : List ℕ) → u32_at 4 (slot i (drop p flash)) ≡ u32_at 0 (take 4 (drop (p + 8 + 8 * i + 4) flash))
gate-at p i flash =
    let ys : List ℕ = drop (p + 8 + 8 * i) flash in
    ap (u32_at 4) (slot-at p i flash) ∙ u32_at-take 4 8 ys (omega arith)
    ∙ ap (u32_at 0) (drop-drop 4 (p + 8 + 8 * i) flash) ∙ sym (u32_at-take 0 4 (drop (p + 8 + 8 * i + 4) flash) (omega arith))

-- the other records are as they were where only a record's place was torn
others-same : (p i j at n : ℕ) (old new : List ℕ) → Torn at n old new → p + 8 + 8 * i ≤ at → at + n ≤ p + 16 + 8 * i → (j < i) ⊎ (i < j) → slot j (drop p new) ≡ slot j (drop p old)
others-same p i j at n old new torn from to other =
    slot-at p j new ∙ (elim other [
      | inl below ↦ torn-below 8 (p + 8 + 8 * j) at n old new torn (omega (arith, from, below))
      | inr above ↦ torn-above 8 (p + 8 + 8 * j) at n old new torn (omega (arith, to, above))
    ])
    ∙ sym (slot-at p j old)

-- bytes that are all blank
blank-is : (n : ℕ) (bytes : List ℕ) → length bytes ≡ n → is_blank bytes ≡ true → bytes ≡ replicate n 255
blank-is zero [] size blank = refl
blank-is zero (x ∷ bytes) size blank = absurd (omega (arith, size))
blank-is (suc n) [] size blank = absurd (omega (arith, size))
blank-is (suc n) (x ∷ bytes) size blank =
    let parts = and_parts (x == 255) (is_blank bytes) blank in
    let first : x ≡ 255 = grind (arith, eqb_tells, parts.0) in
    ap (λ (y : ℕ). y ∷ bytes) first ∙ ap (λ (ys : List ℕ). 255 ∷ ys) (blank-is n bytes (omega (arith, size)) parts.1)

-- a flash whose block, from p on, has place for one more record
pub record IsRoomy (p : ℕ) (flash : List ℕ) : Type 0 where
  pub inside : p + 1024 ≤ length flash
  pub place : has_place (drop p flash) ≡ true

slot-length : (p i : ℕ) (flash : List ℕ) → p + 16 + 8 * i ≤ length flash → length (slot i (drop p flash)) ≡ 8
slot-length p i flash inside = ap length (slot-at p i flash) ∙ length-take 8 (drop (p + 8 + 8 * i) flash) ∙ omega (arith, inside, length-drop (p + 8 + 8 * i) flash)

-- a place that was never written
blank-slot : (p i : ℕ) (flash : List ℕ) → p + 16 + 8 * i ≤ length flash → is_blank (slot i (drop p flash)) ≡ true → slot i (drop p flash) ≡ replicate 8 255
blank-slot p i flash inside blank = blank-is 8 (slot i (drop p flash)) (slot-length p i flash inside) blank

blank-counts : (bytes : List ℕ) → bytes ≡ replicate 8 255 → is_counting bytes ≡ false
blank-counts bytes same = ap is_counting same

-- no place from the next one on counts
later-none : (p : ℕ) (flash : List ℕ) (j : ℕ) → p + 1024 ≤ length flash → next_slot (drop p flash) ≤ j → j < slot_count → slot j (drop p flash) ≡ replicate 8 255
later-none p flash j inside least most =
    blank-slot p j flash (omega (arith, inside, most, slots_end)) (next-blank slot_count (drop p flash) j least most)

-- a block of version 2 says what its last record says that counts
and-false : (a b c d : Bool) → d ≡ false → (a && b && c && d) ≡ false
and-false a b c d wrong = by a b c d wrong where
  by : (a b c d : Bool) → d ≡ false → (a && b && c && d) ≡ false
  by false b c d wrong = ap (λ (t : Bool). false && b && c && t) wrong ∙ none b c where
    none : (b c : Bool) → (false && b && c && false) ≡ false
    none true true = refl
    none true false = refl
    none false true = refl
    none false false = refl
  by true b c d wrong = ap (λ (t : Bool). true && b && c && t) wrong ∙ none b c where
    none : (b c : Bool) → (true && b && c && false) ≡ false
    none true true = refl
    none true false = refl
    none false true = refl
    none false false = refl

other-mark : (block : List ℕ) → has_mark2 block ≡ true → has_mark1 block ≡ false
other-mark block mark =
    let four = and_parts ((slice_index block 0 == 0x50) && (slice_index block 1 == 0x53) && (slice_index block 2 == 0x54)) (slice_index block 3 == 0x32) mark in
    let last : slice_index block 3 ≡ 0x32 = grind (arith, eqb_tells, four.1) in
    and-false (slice_index block 0 == 0x50) (slice_index block 1 == 0x53) (slice_index block 2 == 0x54) (slice_index block 3 == 0x31) (ap (λ (n : ℕ). n == 0x31) last)

says-records : (block : List ℕ) → has_mark2 block ≡ true → stored_in block ≡ bits_among slot_count block
says-records block mark =
    ap (λ (b : Bool). if b then bits_of_word (u32_at 4 block) else (if has_mark2 block then bits_among slot_count block else record { ro = false; all = false })) (other-mark block mark)
    ∙ ap (λ (b : Bool). if b then bits_among slot_count block else record { ro = false; all = false }) mark

-- one of three orders
order : (a b : ℕ) → (a ≡ b) ⊎ ((a < b) ⊎ (b < a))
order a b = elim (last-or-above a b) [ inl most ↦ elim (last-or a b most) [ inl same ↦ inl same | inr less ↦ inr (inl less) ] | inr above ↦ inr (inr above) ] where
  last-or-above : (a b : ℕ) → (a < suc b) ⊎ (b < a)
  last-or-above a b = by (nat_lt b a) refl where
    by : (t : Bool) → nat_lt b a ≡ t → (a < suc b) ⊎ (b < a)
    by true e = inr (grind (arith, leb_tells, e))
    by false e = inl (grind (arith, leb_tells, e))

-- at most the place of the next record was written
pub record Adds (p : ℕ) (old new : List ℕ) : Type 0 where
  pub mark : has_mark2 (drop p new) ≡ true
  pub others : (j : ℕ) → (j < next_slot (drop p old)) ⊎ (next_slot (drop p old) < j) → slot j (drop p new) ≡ slot j (drop p old)

adds-torn : (p at n : ℕ) (old middle new : List ℕ) → Adds p old middle → Torn at n middle new → p + 8 + 8 * next_slot (drop p old) ≤ at → at + n ≤ p + 16 + 8 * next_slot (drop p old) → Adds p old new
adds-torn p at n old middle new adds torn from to =
    record {
      mark = mark-torn 0x32 p at n middle new torn (omega (arith, from)) ∙ adds.mark;
      others = λ j other. others-same p (next_slot (drop p old)) j at n middle new torn from to other ∙ adds.others j other;
    }

adds-self : (p : ℕ) (flash : List ℕ) → IsRoomy p flash → Adds p flash flash
adds-self p flash roomy = record { mark = (placed (drop p flash) roomy.place).mark; others = λ j other. refl }

-- where the new record does not count, the block says what it said
uncounted : (p : ℕ) (old new : List ℕ) → IsRoomy p old → Adds p old new → is_counting (slot (next_slot (drop p old)) (drop p new)) ≡ false → stored_in (drop p new) ≡ stored_in (drop p old)
uncounted p old new roomy adds none =
    let is = placed (drop p old) roomy.place in
    let next : ℕ = next_slot (drop p old) in
    let free : is_counting (slot next (drop p old)) ≡ false = blank-counts (slot next (drop p old)) (later-none p old next roomy.inside (omega arith) is.below) in
    says-records (drop p new) adds.mark
    ∙ bits-same slot_count (drop p new) (drop p old) (λ j below. elim (order j next) [
      | inl same ↦ inr (ap (λ (n : ℕ). is_counting (slot n (drop p new))) same ∙ none, ap (λ (n : ℕ). is_counting (slot n (drop p old))) same ∙ free)
      | inr other ↦ inl (adds.others j other)
    ])
    ∙ sym (says-records (drop p old) is.mark)

-- and where it counts, it says what that record says
counted : (p : ℕ) (old new : List ℕ) → IsRoomy p old → Adds p old new → is_counting (slot (next_slot (drop p old)) (drop p new)) ≡ true →
    stored_in (drop p new) ≡ bits_of_word (u32_at 0 (slot (next_slot (drop p old)) (drop p new)))
counted p old new roomy adds counts =
    let is = placed (drop p old) roomy.place in
    let next : ℕ = next_slot (drop p old) in
    says-records (drop p new) adds.mark
    ∙ bits-below (suc next) slot_count (drop p new) (omega (arith, is.below)) (λ j least most.
    blank-counts (slot j (drop p new)) (adds.others j (inr (omega (arith, least))) ∙ later-none p old j roomy.inside (omega (arith, least)) most))
    ∙ ap (λ (b : Bool). if b then bits_of_word (u32_at 0 (slot next (drop p new))) else bits_among next (drop p new)) counts

-- a program changes just its range
pub torn-programmed : (at n : ℕ) (bytes flash : List ℕ) → length bytes ≡ n → at + n ≤ length flash → Torn at n flash (programmed at bytes flash)
torn-programmed at n bytes flash size inside =
    torn-overwritten at n (and_bytes (slice_range flash at (at + length bytes)) bytes) flash (length-anded at bytes flash (omega (arith, size, inside)) ∙ size) inside

front-is : (n : ℕ) (xs ys : List ℕ) → length xs ≡ n → take n (xs ++ ys) ≡ xs
front-is n xs ys same = subst (λ (k : ℕ). take k (xs ++ ys) ≡ xs) same (take-append_seam xs ys)

-- what stands where bytes were written over others
behind-overwritten : (at : ℕ) (bytes flash : List ℕ) → at ≤ length flash → drop at (overwritten at bytes flash) ≡ bytes ++ drop (at + length bytes) flash
behind-overwritten at bytes flash inside =
    let front : length (take at flash) ≡ at = length-take at flash ∙ omega (arith, inside) in
    ap (drop at) (append_assoc (take at flash) bytes (drop (at + length bytes) flash))
    ∙ ap (λ (n : ℕ). drop n (take at flash ++ (bytes ++ drop (at + length bytes) flash))) (sym front)
    ∙ drop-append_seam (take at flash) (bytes ++ drop (at + length bytes) flash)

-- what stands in the range of a program
programmed-front : (at n : ℕ) (bytes flash : List ℕ) → length bytes ≡ n → at + n ≤ length flash → take n (drop at (programmed at bytes flash)) ≡ and_bytes (take n (drop at flash)) bytes
programmed-front at n bytes flash size inside =
    let made : List ℕ = and_bytes (slice_range flash at (at + length bytes)) bytes in
    let long : length made ≡ n = length-anded at bytes flash (omega (arith, size, inside)) ∙ size in
    let count : at + length bytes - at ≡ n = omega (arith, size) in
    ap (take n) (behind-overwritten at made flash (omega (arith, inside)))
    ∙ front-is n made (drop (at + length made) flash) long
    ∙ ap (λ (k : ℕ). and_bytes (take k (drop at flash)) bytes) count

-- the word of some bits, in a place that was never written
and-word : (bits : AtBoot) → and_bytes (replicate 4 255) (u32_bytes (word_of_bits bits)) ≡ u32_bytes (word_of_bits bits)
and-word bits = by bits.ro bits.all where
  by : (ro all : Bool) → and_bytes (replicate 4 255) (u32_bytes (word_of_bits (record { ro = ro; all = all }))) ≡ u32_bytes (word_of_bits (record { ro = ro; all = all }))
  by false false = refl
  by true false = refl
  by false true = refl
  by true true = refl

-- is read back
word-read : (bits : AtBoot) → bits_of_word (u32_at 0 (u32_bytes (word_of_bits bits))) ≡ bits
word-read bits = by bits.ro bits.all where
  by : (ro all : Bool) → bits_of_word (u32_at 0 (u32_bytes (word_of_bits (record { ro = ro; all = all })))) ≡ record { ro = ro; all = all }
  by false false = refl
  by true false = refl
  by false true = refl
  by true true = refl

-- the two halves of the next place are blank
pub record IsFree (q : ℕ) (flash : List ℕ) : Type 0 where
  pub inside : q + 8 ≤ length flash
  pub word : take 4 (drop q flash) ≡ replicate 4 255
  pub gate : take 4 (drop (q + 4) flash) ≡ replicate 4 255

-- the place of the next record, in a flash whose block begins at p
abbrev pub next_place : ℕ → List ℕ → ℕ
next_place p flash = p + 8 + 8 * next_slot (drop p flash)

free : (p : ℕ) (flash : List ℕ) → IsRoomy p flash → IsFree (next_place p flash) flash
free p flash roomy =
    let is = placed (drop p flash) roomy.place in
    let q : ℕ = next_place p flash in
    let whole : take 8 (drop q flash) ≡ replicate 8 255 = sym (slot-at p (next_slot (drop p flash)) flash) ∙ later-none p flash (next_slot (drop p flash)) roomy.inside (omega arith) is.below in
    record {
      inside = omega (arith, roomy.inside, is.below, slots_end);
      word = sym (take-drop-take 4 0 8 (drop q flash) (omega arith)) ∙ ap (take 4) whole;
      gate = ap (take 4) (sym (drop-drop 4 q flash)) ∙ sym (take-drop-take 4 4 8 (drop q flash) (omega arith)) ∙ ap (λ (xs : List ℕ). take 4 (drop 4 xs)) whole;
    }

-- a record whose gate alone may be torn
record IsWritten (p : ℕ) (bits : AtBoot) (old new : List ℕ) : Type 0 where
  adds : Adds p old new
  word : take 4 (drop (next_place p old) new) ≡ u32_bytes (word_of_bits bits)
  size : length new ≡ length old

written-says : (p : ℕ) (bits : AtBoot) (old new : List ℕ) → IsWritten p bits old new → bits_of_word (u32_at 0 (slot (next_slot (drop p old)) (drop p new))) ≡ bits
written-says p bits old new written =
    ap bits_of_word (word-at p (next_slot (drop p old)) new ∙ ap (u32_at 0) written.word) ∙ word-read bits

-- the word of a record was programmed
word-written : (p : ℕ) (bits : AtBoot) (flash : List ℕ) → IsRoomy p flash → IsWritten p bits flash (programmed (next_place p flash) (u32_bytes (word_of_bits bits)) flash)
word-written p bits flash roomy =
    let q : ℕ = next_place p flash in
    let is = free p flash roomy in
    let torn = torn-programmed q 4 (u32_bytes (word_of_bits bits)) flash refl (omega (arith, is.inside)) in
    record {
      adds = adds-torn p q 4 flash flash _ (adds-self p flash roomy) torn (omega arith) (omega arith);
      word = programmed-front q 4 (u32_bytes (word_of_bits bits)) flash refl (omega (arith, is.inside)) ∙ ap (λ (xs : List ℕ). and_bytes xs (u32_bytes (word_of_bits bits))) is.word ∙ and-word bits;
      size = torn.same_length;
    }

-- and whatever its gate holds
gate-torn : (p : ℕ) (bits : AtBoot) (old middle new : List ℕ) → IsWritten p bits old middle → Torn (next_place p old + 4) 4 middle new → IsWritten p bits old new
gate-torn p bits old middle new written torn =
    record {
      adds = adds-torn p (next_place p old + 4) 4 old middle new written.adds torn (omega arith) (omega arith);
      word = torn-below 4 (next_place p old) (next_place p old + 4) 4 middle new torn (omega arith) ∙ written.word;
      size = torn.same_length ∙ written.size;
    }

-- the bits are as they were, or as was wanted
abbrev pub AsWasOr : AtBoot → List ℕ → List ℕ → Type 0
AsWasOr bits old new = (stored_in new ≡ stored_in old) ⊎ (stored_in new ≡ bits)

either : (p : ℕ) (bits : AtBoot) (old new : List ℕ) → IsRoomy p old → IsWritten p bits old new → AsWasOr bits (drop p old) (drop p new)
either p bits old new roomy written = by (is_counting (slot (next_slot (drop p old)) (drop p new))) refl where
  by : (b : Bool) → is_counting (slot (next_slot (drop p old)) (drop p new)) ≡ b → AsWasOr bits (drop p old) (drop p new)
  by true counts = inr (counted p old new roomy written.adds counts ∙ written-says p bits old new written)
  by false none = inl (uncounted p old new roomy written.adds none)

-- where the word is torn, the record does not count
word-torn : (p : ℕ) (old new : List ℕ) → IsRoomy p old → Torn (next_place p old) 4 old new → stored_in (drop p new) ≡ stored_in (drop p old)
word-torn p old new roomy torn =
    let next : ℕ = next_slot (drop p old) in
    let q : ℕ = next_place p old in
    let gate : u32_at 4 (slot next (drop p new)) ≡ 4294967295 =
    gate-at p next new ∙ ap (u32_at 0) (torn-above 4 (q + 4) q 4 old new torn (omega arith) ∙ (free p old roomy).gate) in
    uncounted p old new roomy (adds-torn p q 4 old old new (adds-self p old roomy) torn (omega arith) (omega arith)) (ap (λ (n : ℕ). n == 0) gate)

-- a record that is not finished leaves the bits as they were, or as was wanted
pub record-stopped : (p k : ℕ) (bits : AtBoot) (old new : List ℕ) → IsRoomy p old → StopsAt k (record_operations (next_place p old) bits) old new → AsWasOr bits (drop p old) (drop p new)
record-stopped p zero bits old new roomy stops =
    let is : Program (next_place p old) (u32_bytes (word_of_bits bits)) ≡ stops.stopped = some-injective (Program (next_place p old) (u32_bytes (word_of_bits bits))) stops.stopped stops.is_there in
    let torn : Torn (next_place p old) 4 old new = subst (λ (o : Operation). Torn (operation_range o).at (operation_range o).size old new) (sym is) stops.torn in
    inl (word-torn p old new roomy torn)
record-stopped p (suc zero) bits old new roomy stops =
    let is : Program (next_place p old + 4) open_gate ≡ stops.stopped = some-injective (Program (next_place p old + 4) open_gate) stops.stopped stops.is_there in
    let middle : List ℕ = programmed (next_place p old) (u32_bytes (word_of_bits bits)) old in
    let torn : Torn (next_place p old + 4) 4 middle new = subst (λ (o : Operation). Torn (operation_range o).at (operation_range o).size middle new) (sym is) stops.torn in
    either p bits old new roomy (gate-torn p bits old middle new (word-written p bits old roomy) torn)
record-stopped p (suc (suc k)) bits old new roomy stops = cc

-- a record that is finished says what was wanted
pub record-done : (p : ℕ) (bits : AtBoot) (flash : List ℕ) → IsRoomy p flash → stored_in (drop p (operated_all (record_operations (next_place p flash) bits) flash)) ≡ bits
record-done p bits flash roomy =
    let q : ℕ = next_place p flash in
    let next : ℕ = next_slot (drop p flash) in
    let is = free p flash roomy in
    let middle : List ℕ = programmed q (u32_bytes (word_of_bits bits)) flash in
    let first = torn-programmed q 4 (u32_bytes (word_of_bits bits)) flash refl (omega (arith, is.inside)) in
    let fits : q + 4 + 4 ≤ length middle = omega (arith, is.inside, first.same_length) in
    let second = torn-programmed (q + 4) 4 open_gate middle refl fits in
    let done : List ℕ = programmed (q + 4) open_gate middle in
    let written = gate-torn p bits flash middle done (word-written p bits flash roomy) second in
    let gate : take 4 (drop (q + 4) done) ≡ and_bytes (replicate 4 255) open_gate =
    programmed-front (q + 4) 4 open_gate middle refl fits ∙ ap (λ (xs : List ℕ). and_bytes xs open_gate) (torn-above 4 (q + 4) q 4 flash middle first (omega arith) ∙ is.gate) in
    let counts : is_counting (slot next (drop p done)) ≡ true = ap (λ (n : ℕ). n == 0) (gate-at p next done ∙ ap (u32_at 0) gate) in
    counted p flash done roomy written.adds counts ∙ written-says p bits flash done written

slots_some : nat_lt 0 slot_count ≡ true
unfolding slot_count
slots_some = refl

-- a flash whose block is all blank but for the mark of version 2
record IsAnew (p : ℕ) (flash : List ℕ) : Type 0 where
  roomy : IsRoomy p flash
  first : next_slot (drop p flash) ≡ 0

-- a place in a block that was erased, and then got its mark
blank-anew : (n p j : ℕ) (flash : List ℕ) → 1024 ≤ n → p + n ≤ length flash → j < slot_count →
    slot j (drop p (programmed p mark2_bytes (overwritten p (replicate n 255) flash))) ≡ replicate 8 255
blank-anew n p j flash large inside below =
    let clean : List ℕ = overwritten p (replicate n 255) flash in
    let rest : List ℕ = drop (p + length (replicate {A = ℕ} n 255)) flash in
    let size : length clean ≡ length flash = (torn-overwritten p n (replicate n 255) flash (length-replicate n 255) inside).same_length in
    let torn = torn-programmed p 8 mark2_bytes clean refl (omega (arith, size, inside, large)) in
    let k : ℕ = 8 + 8 * j in
    let fits : k + 8 ≤ n = omega (arith, large, below, slots_end) in
    slot-at p j (programmed p mark2_bytes clean)
    ∙ torn-above 8 (p + 8 + 8 * j) p 8 clean (programmed p mark2_bytes clean) torn (omega arith)
    ∙ sym (slot-at p j clean)
    ∙ ap (slot j) (behind-overwritten p (replicate n 255) flash (omega (arith, inside)))
    ∙ sym (take-drop-take 8 k n (replicate n 255 ++ rest) fits)
    ∙ ap (λ (xs : List ℕ). take 8 (drop k xs)) (front-is n (replicate n 255) rest (length-replicate n 255))
    ∙ ap (take 8) (drop-replicate k n 255)
    ∙ take-replicate 8 (n - k) 255 (omega (arith, fits))

-- such a block has place for its first record
anew : (n p : ℕ) (flash : List ℕ) → 1024 ≤ n → p + n ≤ length flash → IsAnew p (programmed p mark2_bytes (overwritten p (replicate n 255) flash))
anew n p flash large inside =
    let clean : List ℕ = overwritten p (replicate n 255) flash in
    let made : List ℕ = programmed p mark2_bytes clean in
    let rest : List ℕ = drop (p + length (replicate {A = ℕ} n 255)) flash in
    let size : length clean ≡ length flash = (torn-overwritten p n (replicate n 255) flash (length-replicate n 255) inside).same_length in
    let fits : p + 8 ≤ length clean = omega (arith, size, inside, large) in
    let front : take 8 (drop p clean) ≡ replicate 8 255 =
    ap (take 8) (behind-overwritten p (replicate n 255) flash (omega (arith, inside)))
    ∙ take-append-le 8 (replicate n 255) rest (omega (arith, large, length-replicate {A = ℕ} n 255)) ∙ take-replicate 8 n 255 (omega (arith, large)) in
    let mark : has_mark2 (drop p made) ≡ true =
    sym (mark-take 0x32 8 (drop p made) (omega arith)) ∙ ap has_mark2 (programmed-front p 8 mark2_bytes clean refl fits ∙ ap (λ (xs : List ℕ). and_bytes xs mark2_bytes) front) in
    let first : next_slot (drop p made) ≡ 0 = next-first slot_count (drop p made) (λ j below. ap is_blank (blank-anew n p j flash large inside below)) in
    record {
      roomy = record {
        inside = omega (arith, inside, large, size, (torn-programmed p 8 mark2_bytes clean refl fits).same_length);
        place = ap (λ (b : Bool). b && nat_lt (next_slot (drop p made)) slot_count) mark ∙ ap (λ (k : ℕ). true && nat_lt k slot_count) first ∙ ap (λ (b : Bool). true && b) slots_some;
      };
      first = first;
    }

anew-says : (n p block : ℕ) (bits : AtBoot) (flash : List ℕ) → block ≡ p → 1024 ≤ n → p + n ≤ length flash →
    stored_in (drop p (operated_all (record_operations (p + 8) bits) (programmed p mark2_bytes (overwritten block (replicate n 255) flash)))) ≡ bits
anew-says n p block bits flash same large inside =
    let made : List ℕ = programmed p mark2_bytes (overwritten p (replicate n 255) flash) in
    let is = anew n p flash large inside in
    let place : p + 8 ≡ next_place p made = omega (arith, is.first) in
    ap (λ (k : ℕ). stored_in (drop p (operated_all (record_operations (p + 8) bits) (programmed p mark2_bytes (overwritten k (replicate n 255) flash))))) same
    ∙ ap (λ (q : ℕ). stored_in (drop p (operated_all (record_operations q bits) made))) place
    ∙ record-done p bits made is.roomy

-- what is wanted is stored once all operations are done
pub storing-done : (p : ℕ) (bits : AtBoot) (flash : List ℕ) → p / block_size * block_size ≡ p → p + block_size ≤ length flash →
    stored_in (drop p (operated_all (storing_at p (drop p flash) bits) flash)) ≡ bits
storing-done p bits flash whole inside = by (has_place (drop p flash)) refl where
  by : (b : Bool) → has_place (drop p flash) ≡ b →
      stored_in (drop p (operated_all (storing_at p (drop p flash) bits) flash)) ≡ bits
  by true place =
      ap (λ (b : Bool). stored_in (drop p (operated_all (if b then record_operations (next_place p flash) bits else Erase (p / block_size) ∷ Program p mark2_bytes ∷ record_operations (p + 8) bits) flash))) place
      ∙ record-done p bits flash (record { inside = omega (arith, inside); place = place })
  by false none =
      ap (λ (b : Bool). stored_in (drop p (operated_all (if b then record_operations (next_place p flash) bits else Erase (p / block_size) ∷ Program p mark2_bytes ∷ record_operations (p + 8) bits) flash))) none
      ∙ anew-says block_size p (p / block_size * block_size) bits flash whole (omega arith) inside
