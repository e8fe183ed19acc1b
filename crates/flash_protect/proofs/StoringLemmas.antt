-- What storing the bits leaves.
use Rattle.std.proofs.Common.{◌≡◌, refl, sym, ap, ◌∙◌, ℕ, zero, suc, ◌+◌, ◌-◌, ◌*◌, ◌/◌, ◌≤◌, ◌<◌, Bool, true, false, ◌&&◌, nat_lt, if◌then◌else◌, List, take, drop, length, replicate, slice_range, get_or, arith, Option, Some, None}
use Rattle.std.specs.Prelude.{IfSome}
use Rattle.flash_dev.specs.Flash.{block_size}
use Rattle.flash_ctl.specs.Locks.{no_locks, lock_count, is_range_locked, HasLocked}
use Rattle.flash_ctl.proofs.LockLaws.{has-locked}
use Rattle.ec_model.specs.Stored.{stored, stored_in, stored_block, has_place, has_mark2, next_slot, slot_count}
use Rattle.std.proofs.lemmas.Bool.Decides.{leb_tells}
use Rattle.ec_model.proofs.StoredLemmas.{slots_end, stored_in-take, next_slot-take, mark-take}
use Rattle.flash_protect.specs.Setting.{record_place}

unset : (n k : ℕ) → get_or (replicate n false) k false ≡ false
unset zero k = refl
unset (suc n) zero = refl
unset (suc n) (suc k) = unset n k

-- where no block is locked, none of a range is
pub none-locked : (at size : ℕ) (locks : List Bool) → locks ≡ no_locks → HasLocked at size locks → ⊥
none-locked at size locks free has =
    let found : get_or locks has.0 false ≡ true = has.1 in
    let none : get_or locks has.0 false ≡ false = ap (λ (xs : List Bool). get_or xs has.0 false) free ∙ unset lock_count has.0 in
    grind (arith, found, none)

-- the same as a test
pub none-in-range : (at size : ℕ) (locks : List Bool) → locks ≡ no_locks → is_range_locked at size locks ≡ false
none-in-range at size locks free = by (is_range_locked at size locks) refl where
  by : (locked : Bool) → is_range_locked at size locks ≡ locked → locked ≡ false
  by true is = absurd (none-locked at size locks free (has-locked at size locks is))
  by false is = refl

-- the bytes that a read gives are the first of the block
read-block : (flash bytes : List ℕ) (size : ℕ) → length flash ≡ size → bytes ≡ slice_range flash (size / 2 - 4096) (size / 2 - 4096 + 1024) → bytes ≡ take 1024 (stored_block flash)
read-block flash bytes size sized read =
    let count : size / 2 - 4096 + 1024 - (size / 2 - 4096) ≡ 1024 = omega arith in
    read ∙ ap (λ (n : ℕ). take n (drop (size / 2 - 4096) flash)) count ∙ ap (λ (n : ℕ). take 1024 (drop (n / 2 - block_size) flash)) (sym sized)

-- the bits that they say
pub stored-told : (told : Option (List ℕ)) (bytes : List ℕ) (size : ℕ) → IfSome told (λ flash. length flash ≡ size) → IfSome told (λ flash. bytes ≡ slice_range flash (size / 2 - 4096) (size / 2 - 4096 + 1024)) →
    IfSome told (λ flash. stored flash ≡ stored_in bytes)
stored-told None bytes size sized read = tt
stored-told (Some flash) bytes size sized read =
    sym (ap stored_in (read-block flash bytes size sized read) ∙ stored_in-take 1024 (stored_block flash) (omega arith))

-- and the place of the next record
place-from : (flash bytes : List ℕ) (size : ℕ) → length flash ≡ size → bytes ≡ take 1024 (stored_block flash) →
    record_place flash ≡ (if has_place bytes then Some (size / 2 - 4096 + 8 + 8 * next_slot bytes) else None)
place-from flash bytes size sized same =
    let next : next_slot bytes ≡ next_slot (stored_block flash) = ap next_slot same ∙ next_slot-take 1024 (stored_block flash) (omega arith) in
    let mark : has_mark2 bytes ≡ has_mark2 (stored_block flash) = ap has_mark2 same ∙ mark-take 0x32 1024 (stored_block flash) (omega arith) in
    sym (ap (λ (b : Bool). let o : Option ℕ = if b && nat_lt (next_slot bytes) slot_count then Some (size / 2 - 4096 + 8 + 8 * next_slot bytes) else None in o) mark
    ∙ ap (λ (n : ℕ). let o : Option ℕ = if has_mark2 (stored_block flash) && nat_lt n slot_count then Some (size / 2 - 4096 + 8 + 8 * n) else None in o) next
    ∙ ap (λ (n : ℕ). let o : Option ℕ = if has_place (stored_block flash) then Some (n / 2 - 4096 + 8 + 8 * next_slot (stored_block flash)) else None in o) (sym sized))

pub place-told : (told : Option (List ℕ)) (bytes : List ℕ) (size : ℕ) → IfSome told (λ flash. length flash ≡ size) → IfSome told (λ flash. bytes ≡ slice_range flash (size / 2 - 4096) (size / 2 - 4096 + 1024)) →
    IfSome told (λ flash. record_place flash ≡ (if has_place bytes then Some (size / 2 - 4096 + 8 + 8 * next_slot bytes) else None))
place-told None bytes size sized read = tt
place-told (Some flash) bytes size sized read = place-from flash bytes size sized (read-block flash bytes size sized read)

-- a block of version 2 has a place for the next record, or none
pub place-found : (at next : ℕ) (block : List ℕ) → has_mark2 block ≡ true → next ≡ next_slot block → next < 127 → Some (at + 8 + 8 * next) ≡ (if has_place block then Some (at + 8 + 8 * next_slot block) else None)
place-found at next block mark is below =
    let roomy : nat_lt (next_slot block) slot_count ≡ true = grind (arith, leb_tells, is, below, slots_end) in
    ap (λ (n : ℕ). let o : Option ℕ = Some (at + 8 + 8 * n) in o) is
    ∙ sym (ap (λ (b : Bool). let o : Option ℕ = if b && nat_lt (next_slot block) slot_count then Some (at + 8 + 8 * next_slot block) else None in o) mark
    ∙ ap (λ (b : Bool). let o : Option ℕ = if true && b then Some (at + 8 + 8 * next_slot block) else None in o) roomy)

pub place-none : (at next : ℕ) (block : List ℕ) → has_mark2 block ≡ true → next ≡ next_slot block → 127 ≤ next → None ≡ (if has_place block then Some (at + 8 + 8 * next_slot block) else None)
place-none at next block mark is above =
    let full : nat_lt (next_slot block) slot_count ≡ false = grind (arith, leb_tells, is, above, slots_end) in
    sym (ap (λ (b : Bool). let o : Option ℕ = if b && nat_lt (next_slot block) slot_count then Some (at + 8 + 8 * next_slot block) else None in o) mark
    ∙ ap (λ (b : Bool). let o : Option ℕ = if true && b then Some (at + 8 + 8 * next_slot block) else None in o) full)
