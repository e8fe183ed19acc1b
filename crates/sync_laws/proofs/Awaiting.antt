-- The hash of RW, taken by ticks that nothing disturbs, and awaited by looks.
use Rattle.std.proofs.Common.{◌≡◌, refl, ap, ◌∙◌, ℕ, zero, suc, ◌-◌, ◌<◌, ◌≤◌, Bool, true, false, nat_le, if◌then◌else◌, List, [], ◌++◌, length, Option, None, arith}
use Rattle.std.proofs.lemmas.Bool.Decides.{leb_tells}
use Rattle.sha2.specs.Sha256.{sha256}
use Rattle.ec_model.specs.declared.live.EraseJob.{EraseJob}
use Rattle.ec_model.specs.declared.live.HashView.TheVariants.{Busy, Done}
use Rattle.ec_model.specs.Hash.{with_hash, hash_ticked}
use Rattle.ec_model.specs.Ranges.{rw_range, part}
use Rattle.ec_model.specs.Table.{Core}
use Rattle.command_laws.specs.Idle.{ticked_by, ticked, after_ticks}

-- the digest of RW as it is
abbrev pub rw_digest : Core → List ℕ
rw_digest core = sha256 ([] ++ part (rw_range (length core.flash)) core.flash)

-- a hash of RW that has so many ticks to come, and one that is finished
abbrev pub hashing : ℕ → Core → Core
hashing left core = with_hash (Busy (rw_range (length core.flash)).at (rw_range (length core.flash)).size left) [] core

abbrev pub hashed : Core → Core
hashed core = with_hash (Done (rw_range (length core.flash)).at (rw_range (length core.flash)).size (rw_digest core)) [] core

-- a tick where no erase is pending
free-tick : (core : Core) → core.live.erase ≡ None → ticked core ≡ hash_ticked core.live.hash core
free-tick core none = ap (λ (erase : Option EraseJob). ticked_by erase core) none

-- the last tick, and any before it
last-by : (left : ℕ) (core : Core) (last : Bool) → nat_le left 1 ≡ last → (last ≡ true → hash_ticked (hashing left core).live.hash (hashing left core) ≡ hashed core) × (last ≡ false → hash_ticked (hashing left core).live.hash (hashing left core) ≡ hashing (left - 1) core)
last-by left core true is = (λ yes. ap (λ (b : Bool). if b then hashed core else hashing (left - 1) core) is, λ never. absurd (cc))
last-by left core false is = (λ never. absurd (cc), λ yes. ap (λ (b : Bool). if b then hashed core else hashing (left - 1) core) is)

last-tick : (core : Core) → core.live.erase ≡ None → ticked (hashing 1 core) ≡ hashed core
last-tick core none = free-tick (hashing 1 core) none

early-tick : (left : ℕ) (core : Core) → core.live.erase ≡ None → 1 < left → ticked (hashing left core) ≡ hashing (left - 1) core
early-tick left core none more =
    let test : nat_le left 1 ≡ false = grind (arith, leb_tells, more) in
    free-tick (hashing left core) none ∙ (last-by left core false test).1 refl

-- ticks of a finished hash
pub ticks-hashed : (count : ℕ) (core : Core) → core.live.erase ≡ None → after_ticks count (hashed core) ≡ hashed core
ticks-hashed zero core none = refl
ticks-hashed (suc count) core none = ap (after_ticks count) (free-tick (hashed core) none) ∙ ticks-hashed count core none

-- fewer ticks than are to come
pub ticks-before : (count left : ℕ) (core : Core) → core.live.erase ≡ None → count < left → after_ticks count (hashing left core) ≡ hashing (left - count) core
ticks-before zero left core none few = ap (λ (n : ℕ). hashing n core) (omega arith)
ticks-before (suc count) left core none few =
    ap (after_ticks count) (early-tick left core none (omega (arith, few))) ∙ ticks-before count (left - 1) core none (omega (arith, few)) ∙ ap (λ (n : ℕ). hashing n core) (omega (arith, few))

-- as many as are to come, or more
enough-by : (count left : ℕ) (core : Core) → core.live.erase ≡ None → left ≤ suc count → 1 ≤ left → (last : Bool) → nat_le left 1 ≡ last → ((core.live.erase ≡ None → left - 1 ≤ count → 1 ≤ left - 1 → after_ticks count (hashing (left - 1) core) ≡ hashed core)) → after_ticks (suc count) (hashing left core) ≡ hashed core
enough-by count left core none few some true is more =
    let one : left ≡ 1 = grind (arith, leb_tells, is, some) in
    ap (λ (n : ℕ). after_ticks (suc count) (hashing n core)) one ∙ ap (after_ticks count) (last-tick core none) ∙ ticks-hashed count core none
enough-by count left core none few some false is more =
    let many : 1 < left = grind (arith, leb_tells, is) in
    ap (after_ticks count) (early-tick left core none many) ∙ more none (omega (arith, few)) (omega (arith, many))

pub ticks-enough : (count left : ℕ) (core : Core) → core.live.erase ≡ None → left ≤ count → 1 ≤ left → after_ticks count (hashing left core) ≡ hashed core
ticks-enough zero left core none few some = absurd (omega (arith, few, some))
ticks-enough (suc count) left core none few some = enough-by count left core none few some (nat_le left 1) refl (λ free less more. ticks-enough count (left - 1) core free less more)
