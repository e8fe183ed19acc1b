-- A part of the locks has a set one exactly where a locked block has a byte in the range.
use Rattle.std.proofs.Common.{◌≡◌, refl, ℕ, zero, suc, ◌+◌, ◌-◌, ◌/◌, ◌<◌, ◌≤◌, Bool, true, false, List, [], ◌∷◌, take, drop, get_or, arith}
use Rattle.std.specs.List.{list_any}
use Rattle.flash_ctl.specs.Locks.{is_range_locked, HasLocked}

-- a part that has a set lock has one at a place
set_at : (a n : ℕ) (xs : List Bool) → list_any (λ (set : Bool). set) (take n (drop a xs)) ≡ true → (k : ℕ) × (a ≤ k) × (k < a + n) × (get_or xs k false ≡ true)
set_at a zero xs e = absurd (grind (arith, e))
set_at zero (suc n) [] e = absurd (grind (arith, e))
set_at (suc a) (suc n) [] e = absurd (grind (arith, e))
set_at zero (suc n) (true ∷ xs) e = (0, omega arith, omega arith, refl)
set_at zero (suc n) (false ∷ xs) e =
    let r = set_at zero n xs e in (suc r.0, omega arith, omega (arith, r.2), r.3)
set_at (suc a) (suc n) (x ∷ xs) e =
    let r = set_at a (suc n) xs e in (suc r.0, omega (arith, r.1), omega (arith, r.2), r.3)

-- a set lock at a place of a part is one of the part
at_set : (a n k : ℕ) (xs : List Bool) → a ≤ k → k < a + n → get_or xs k false ≡ true → list_any (λ (set : Bool). set) (take n (drop a xs)) ≡ true
at_set a n k [] from to set = absurd (grind (arith, set))
at_set a zero k (x ∷ xs) from to set = absurd (omega (arith, from, to))
at_set zero (suc n) zero (true ∷ xs) from to set = refl
at_set zero (suc n) zero (false ∷ xs) from to set = absurd (grind (arith, set))
at_set zero (suc n) (suc k) (true ∷ xs) from to set = refl
at_set zero (suc n) (suc k) (false ∷ xs) from to set = at_set zero n k xs (omega arith) (omega (arith, to)) set
at_set (suc a) (suc n) zero (x ∷ xs) from to set = absurd (omega (arith, from))
at_set (suc a) (suc n) (suc k) (x ∷ xs) from to set = at_set a (suc n) k xs (omega (arith, from)) (omega (arith, to)) set

-- where a lock of the range is set, a locked block has a byte in it
pub has-locked : (at size : ℕ) (locks : List Bool) → is_range_locked at size locks ≡ true → HasLocked at size locks
has-locked at size locks e =
    let r = set_at (at / 4096) ((at + size + 4095) / 4096 - at / 4096) locks e in (r.0, r.3, omega (arith, r.1, r.2), omega (arith, r.1, r.2))

-- where none is, no locked block has
pub has-no-locked : (at size : ℕ) (locks : List Bool) → is_range_locked at size locks ≡ false → HasLocked at size locks → ⊥
has-no-locked at size locks e has =
    let found : is_range_locked at size locks ≡ true = at_set (at / 4096) ((at + size + 4095) / 4096 - at / 4096) has.0 locks (omega (arith, has.2, has.3)) (omega (arith, has.2, has.3)) has.1 in
    grind (arith, e, found)
