-- Flash operations that drop no hash leave the bytes of its range.
use Rattle.std.proofs.Common.{◌≡◌, refl, sym, ap, ◌∙◌, ℕ, zero, suc, ◌+◌, ◌-◌, ◌*◌, ◌≤◌, ◌⊎◌, inl, inr, false, List, [], ◌∷◌, ◌++◌, length, take, drop, replicate, slice_range, arith, subst, Some, slice_get, unwrap_or, length-append, length-take}
use Rattle.std.proofs.lemmas.Bool.Decides.{leb_tells}
use Rattle.std.proofs.lemmas.List.{drop-drop, length-replicate}
use Rattle.std.proofs.lemmas.Slice.{drop-append-drop}
use Rattle.flash_dev.specs.Flash.{overwritten, and_bytes, block_size, Torn}
use Rattle.ec_model.specs.declared.live.HashView.{HashView}
use Rattle.ec_model.specs.declared.live.HashView.TheVariants.{Done}
use Rattle.ec_model.specs.Ranges.{Range, overlaps, part}
use Rattle.ec_model.specs.Table.{Core}
use Rattle.ec_model.specs.Hash.{touched, is_hash_over, without_hash, IsKeptDigest}
use Rattle.ec_model.specs.Operations.{Operation, Program, Erase, operated, operated_all, operation_range, touched_by}
use Rattle.ec_model.proofs.GuardLemmas.{IsAbove, AllAbove, length-operated, take-operated, length-anded}
use Rattle.ec_model.proofs.GuardSteps.{if_cases}
use Rattle.ec_model.proofs.StoredLemmas.{take-drop-take}

-- ranges that do not overlap: one ends where the other begins, or before
beside : (first second : Range) → overlaps first second ≡ false → (second.at + second.size ≤ first.at) ⊎ (first.at + first.size ≤ second.at)
beside first second apart = grind (arith, leb_tells)

-- a part of what is behind a place
drop-part : (place at size : ℕ) (bytes : List ℕ) → place ≤ at → take size (drop (at - place) (drop place bytes)) ≡ take size (drop at bytes)
drop-part place at size bytes behind =
    let same : place + (at - place) ≡ at = omega arith in
    ap (take size) (drop-drop (at - place) place bytes ∙ ap (λ (n : ℕ). drop n bytes) same)

-- the bytes of a range, without its end
part-take : (at size : ℕ) (bytes : List ℕ) → part (record { at = at; size = size }) bytes ≡ take size (drop at bytes)
part-take at size bytes = let same : at + size - at ≡ size = omega arith in ap (λ (n : ℕ). take n (drop at bytes)) same

-- two flashes that differ in one range alone have another range alike
torn-beside : (torn : Range) (at size : ℕ) (old new : List ℕ) → overlaps torn (record { at = at; size = size }) ≡ false → Torn torn.at torn.size old new → part (record { at = at; size = size }) new ≡ part (record { at = at; size = size }) old
torn-beside torn at size old new apart differ =
    part-take at size new ∙ by_side (beside torn (record { at = at; size = size }) apart) ∙ sym (part-take at size old) where
      by_side : (at + size ≤ torn.at) ⊎ (torn.at + torn.size ≤ at) → take size (drop at new) ≡ take size (drop at old)
      by_side (inl below) =
          sym (take-drop-take size at torn.at new below) ∙ ap (λ (bytes : List ℕ). take size (drop at bytes)) differ.before ∙ take-drop-take size at torn.at old below
      by_side (inr behind) =
          sym (drop-part (torn.at + torn.size) at size new behind) ∙ ap (λ (bytes : List ℕ). take size (drop (at - (torn.at + torn.size)) bytes)) differ.after
          ∙ drop-part (torn.at + torn.size) at size old behind

-- what is behind bytes that were written over others
drop-overwritten : (at : ℕ) (bytes flash : List ℕ) → at + length bytes ≤ length flash → drop (at + length bytes) (overwritten at bytes flash) ≡ drop (at + length bytes) flash
drop-overwritten at bytes flash inside =
    let front : length (take at flash ++ bytes) ≡ at + length bytes = grind (arith, length-append, length-take) in
    drop-append-drop (at + length bytes) flash (take at flash ++ bytes) (at + length bytes) (omega arith) front

-- an operation is made in its range
pub operated-torn : (operation : Operation) (flash : List ℕ) → IsAbove 0 (length flash) operation → Torn (operation_range operation).at (operation_range operation).size flash (operated operation flash)
operated-torn operation flash inside =
    record {
      same_length = length-operated 0 operation flash inside;
      before = take-operated (operation_range operation).at operation flash (record { above = omega arith; inside = inside.inside });
      after = behind operation inside;
    } where
      behind : (made : Operation) → IsAbove 0 (length flash) made → drop ((operation_range made).at + (operation_range made).size) (operated made flash) ≡ drop ((operation_range made).at + (operation_range made).size) flash
      behind (Program at bytes) inside =
          let anded = and_bytes (slice_range flash at (at + length bytes)) bytes in
          let same : length anded ≡ length bytes = length-anded at bytes flash inside.inside in
          subst (λ (n : ℕ). drop (at + n) (overwritten at anded flash) ≡ drop (at + n) flash) same
          (drop-overwritten at anded flash (rw same inside.inside))
      behind (Erase block) inside =
          let blank = replicate {A = ℕ} block_size 0xFF in
          let same : length blank ≡ block_size = length-replicate {A = ℕ} block_size 0xFF in
          subst (λ (n : ℕ). drop (block * block_size + n) (overwritten (block * block_size) blank flash) ≡ drop (block * block_size + n) flash) same
          (drop-overwritten (block * block_size) blank flash (rw same inside.inside))

-- a digest that is shown behind a touch was shown before, and its range is beside
touched-done : (range : Range) (core : Core) (at size : ℕ) (digest : List ℕ) → (touched range core).live.hash ≡ Done at size digest → (core.live.hash ≡ Done at size digest) × (overlaps range (record { at = at; size = size }) ≡ false)
touched-done range core at size digest =
    if_cases (λ (after : Core). after.live.hash ≡ Done at size digest → (core.live.hash ≡ Done at size digest) × (overlaps range (record { at = at; size = size }) ≡ false))
    (is_hash_over range core.live.hash) (without_hash core) core
    (λ over shown. cc)
    (λ apart shown. (shown, subst (λ (hash : HashView). is_hash_over range hash ≡ false) shown apart))

-- behind operations a digest that is shown was kept
pub touched_by-kept : (operations : List Operation) (core : Core) (flash : List ℕ) (length_ : ℕ) (at size : ℕ) (digest : List ℕ) → length flash ≡ length_ → AllAbove 0 length_ operations
    → (touched_by operations core).live.hash ≡ Done at size digest → IsKeptDigest core.live.hash flash (operated_all operations flash) at size digest
touched_by-kept [] core flash length_ at size digest same inside shown = record { shown = shown; bytes = refl }
touched_by-kept (operation ∷ operations) core flash length_ at size digest same inside shown =
    let here : IsAbove 0 (length flash) operation = rw same inside.0 in
    let rest = touched_by-kept operations (touched (operation_range operation) core) (operated operation flash) length_ at size digest (length-operated 0 operation flash here ∙ same) inside.1 shown in
    let first = touched-done (operation_range operation) core at size digest rest.shown in
    record { shown = first.0; bytes = rest.bytes ∙ torn-beside (operation_range operation) at size flash (operated operation flash) first.1 (operated-torn operation flash here) }

-- what is in two options of one value is one
some-injective : (a b : Operation) → Some a ≡ Some b → a ≡ b
some-injective a b same = ap (λ option. unwrap_or option a) same

-- and behind operations of which one did not end
pub stopped-kept : (k : ℕ) (operations : List Operation) (stopped : Operation) (core : Core) (old new : List ℕ) (length_ : ℕ) (at size : ℕ) (digest : List ℕ) → length old ≡ length_ → AllAbove 0 length_ operations
    → slice_get operations k ≡ Some stopped → Torn (operation_range stopped).at (operation_range stopped).size (operated_all (take k operations) old) new
    → (touched_by (take (suc k) operations) core).live.hash ≡ Done at size digest → IsKeptDigest core.live.hash old new at size digest
stopped-kept k [] stopped core old new length_ at size digest same inside found torn shown = cc
stopped-kept zero (operation ∷ operations) stopped core old new length_ at size digest same inside found torn shown =
    let it = some-injective operation stopped found in
    let first = touched-done (operation_range operation) core at size digest shown in
    record {
      shown = first.0;
      bytes = torn-beside (operation_range operation) at size old new first.1
          (subst (λ (made : Operation). Torn (operation_range made).at (operation_range made).size old new) (sym it) torn);
    }
stopped-kept (suc k) (operation ∷ operations) stopped core old new length_ at size digest same inside found torn shown =
    let here : IsAbove 0 (length old) operation = rw same inside.0 in
    let rest = stopped-kept k operations stopped (touched (operation_range operation) core) (operated operation old) new length_ at size digest (length-operated 0 operation old here ∙ same) inside.1 found torn shown in
    let first = touched-done (operation_range operation) core at size digest rest.shown in
    record { shown = first.0; bytes = rest.bytes ∙ torn-beside (operation_range operation) at size old (operated operation old) first.1 (operated-torn operation old here) }
