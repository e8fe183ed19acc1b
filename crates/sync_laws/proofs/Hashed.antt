-- The hash of RW that nothing disturbs: it is started, awaited, and told.
use Rattle.std.proofs.Common.{◌≡◌, refl, sym, subst, ℕ, zero, suc, ◌+◌, ◌-◌, ◌*◌, ◌/◌, ◌<◌, ◌≤◌, ◌^◌, Bool, true, false, nat_le, length, Some, None, Ok, arith}
use Rattle.std.proofs.lemmas.Bool.Decides.{leb_tells}
use Rattle.ec_model.specs.Asks.{Setting}
use Rattle.ec_model.specs.Ranges.{rw_range}
use Rattle.ec_model.specs.Table.{Core, ticks_of}
use Rattle.command_laws.specs.Idle.{after_ticks}
use Rattle.sync_rules.specs.declared.ending.Aim.{Aim}
use Rattle.sync_rules.specs.Parts.{Gives, Waits}
use Rattle.sync_rules.specs.Replies.{given_if}
use Rattle.sync_rules.specs.Steps.{StartsHash, AsksHash, Looks, LooksOn, LooksUpTo, Hashes, Checks}
use Rattle.sync_laws.specs.Calm.{Reaches}
use Rattle.sync_laws.proofs.Awaiting.{hashing, hashed, ticks-before, ticks-enough}
use Rattle.sync_laws.proofs.Calmly.{then-reaches, gives-reaches, waits-reach}
use Rattle.sync_laws.proofs.Looked.{more-reaches, start-reaches, busy-reaches, is_aimed, done-reaches}

-- what a hash of RW is asked of
pub record IsFree (aim : Aim) (core : Core) : Type 0 where
  pub none : core.live.erase ≡ None
  pub geometry : aim.geometry ≡ length core.flash
  pub small : length core.flash < 2 ^ 32

-- the waits before a look
waits-to : (setting : Setting) (core after : Core) → after_ticks 64 core ≡ after → Reaches setting (Waits 64 setting) core (Ok tt) after 64
waits-to setting core after same = subst (λ (c : Core). Reaches setting (Waits 64 setting) core (Ok tt) c 64) same (waits-reach 64 setting core)

-- a look that shows that the hash is not finished
early-look : (setting : Setting) (aim : Aim) (core : Core) (left : ℕ) → IsFree aim core → 64 < left → Reaches setting (Looks setting aim) (hashing left core) (Ok None) (hashing (left - 64) core) 238
early-look setting aim core left free more =
    then-reaches setting (Waits 64 setting) (λ waited. AsksHash setting aim) (hashing left core) (hashing (left - 64) core) (hashing (left - 64) core) tt (Ok None) 64 174
    (waits-to setting (hashing left core) (hashing (left - 64) core) (ticks-before 64 left core free.none more)) (busy-reaches setting aim core (left - 64) free.none)

-- one that shows that it is
last-look : (setting : Setting) (aim : Aim) (core : Core) (left : ℕ) → IsFree aim core → 1 ≤ left → left ≤ 64 → Reaches setting (Looks setting aim) (hashing left core) (Ok (Some (is_aimed aim core))) (hashed core) 238
last-look setting aim core left free some few =
    then-reaches setting (Waits 64 setting) (λ waited. AsksHash setting aim) (hashing left core) (hashed core) (hashed core) tt (Ok (Some (is_aimed aim core))) 64 174
    (waits-to setting (hashing left core) (hashed core) (ticks-enough 64 left core free.none few some)) (done-reaches setting aim core free.none free.geometry free.small)

-- the looks, of which so many are enough
abbrev LooksReach : ℕ → Setting → Aim → Core → ℕ → ℕ → Type 0
LooksReach looks setting aim core left count = Reaches setting (LooksUpTo looks setting aim) (hashing left core) (Ok (is_aimed aim core)) (hashed core) (count * 238)

by-last : (looks : ℕ) (setting : Setting) (aim : Aim) (core : Core) (left count : ℕ) → IsFree aim core → 1 ≤ left → left ≤ count * 64 → count ≤ suc looks → (last : Bool) → nat_le left 64 ≡ last →
    (left ≤ 64 → LooksReach (suc looks) setting aim core left 1) → (64 < left → LooksReach looks setting aim core (left - 64) (count - 1)) → LooksReach (suc looks) setting aim core left count
by-last looks setting aim core left count free some many few true is one more =
    let within : left ≤ 64 = grind (arith, leb_tells, is) in
    more-reaches setting (LooksUpTo (suc looks) setting aim) (hashing left core) (Ok (is_aimed aim core)) (hashed core) (1 * 238) (count * 238) (omega (arith, some, many)) (one within)
by-last looks setting aim core left count free some many few false is one more =
    let behind : 64 < left = grind (arith, leb_tells, is) in
    more-reaches setting (LooksUpTo (suc looks) setting aim) (hashing left core) (Ok (is_aimed aim core)) (hashed core) (238 + (count - 1) * 238) (count * 238) (omega (arith, behind, many))
    (then-reaches setting (Looks setting aim) (λ shown. LooksOn shown (LooksUpTo looks setting aim)) (hashing left core) (hashing (left - 64) core) (hashed core) None (Ok (is_aimed aim core)) 238 ((count - 1) * 238)
    (early-look setting aim core left free behind) (more behind))

looks-reach : (looks : ℕ) (setting : Setting) (aim : Aim) (core : Core) (left count : ℕ) → IsFree aim core → 1 ≤ left → left ≤ count * 64 → count ≤ looks → LooksReach looks setting aim core left count
looks-reach zero setting aim core left count free some many few = absurd (omega (arith, some, many, few))
looks-reach (suc looks) setting aim core left count free some many few =
    by-last looks setting aim core left count free some many few (nat_le left 64) refl
    (λ within. then-reaches setting (Looks setting aim) (λ shown. LooksOn shown (LooksUpTo looks setting aim)) (hashing left core) (hashed core) (hashed core) (Some (is_aimed aim core)) (Ok (is_aimed aim core)) 238 0
    (last-look setting aim core left free some within) (gives-reaches setting (Ok (is_aimed aim core)) (hashed core)))
    (λ behind. looks-reach looks setting aim core (left - 64) (count - 1) free (omega (arith, behind)) (omega (arith, behind, many)) (omega (arith, behind, many, few)))

-- how many looks a hash of RW takes at most
abbrev pub looks_of : ℕ → ℕ
looks_of size = (rw_range size).size / 65536 + 1

-- a hash of RW
pub hashes-reach : (setting : Setting) (aim : Aim) (core : Core) → IsFree aim core → 65536 ≤ length core.flash → length core.flash ≤ 4194304 →
    Reaches setting (Hashes setting aim) core (Ok (is_aimed aim core)) (hashed core) (174 + looks_of (length core.flash) * 238)
hashes-reach setting aim core free least most =
    let left = ticks_of (rw_range (length core.flash)).size in
    then-reaches setting (StartsHash setting) (λ started. LooksUpTo 40 setting aim) core (hashing left core) (hashed core) tt (Ok (is_aimed aim core)) 174 (looks_of (length core.flash) * 238)
    (start-reaches setting core free.none)
    (looks-reach 40 setting aim core left (looks_of (length core.flash)) free (omega (arith, least)) (omega arith) (omega (arith, most)))

-- one that has to be what is aimed at, and is
pub checks-reach : (setting : Setting) (aim : Aim) (core : Core) → IsFree aim core → 65536 ≤ length core.flash → length core.flash ≤ 4194304 → is_aimed aim core ≡ true →
    Reaches setting (Checks setting aim) core (Ok tt) (hashed core) (174 + looks_of (length core.flash) * 238 + 0)
checks-reach setting aim core free least most same =
    then-reaches setting (Hashes setting aim) (λ told. Gives (given_if told tt)) core (hashed core) (hashed core) (is_aimed aim core) (Ok tt) (174 + looks_of (length core.flash) * 238) 0
    (hashes-reach setting aim core free least most)
    (subst (λ (told : Bool). Reaches setting (Gives (given_if told tt)) (hashed core) (Ok tt) (hashed core) 0) (sym same) (gives-reaches setting (Ok tt) (hashed core)))
