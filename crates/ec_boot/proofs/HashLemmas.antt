-- What operations on the flash leave of a hash.
use Rattle.std.proofs.Common.{◌≡◌, refl, sym, ap, ◌∙◌, subst, ℕ, zero, suc, ◌+◌, ◌*◌, ◌/◌, ◌-◌, ◌≤◌, min, max, Bool, true, false, ◌||◌, if◌then◌else◌, List, [], ◌∷◌, length, take, arith, Option, Some, None}
use Rattle.std.specs.Prelude.{IfSome, unwrap_or, ⊤}
use Rattle.std.proofs.lemmas.Bool.Decides.{nat_tests}
use Rattle.flash_dev.specs.Flash.{Torn}
use Rattle.flash_dev.specs.Told.{Changes}
use Rattle.ec_model.specs.declared.live.AtBoot.{AtBoot}
use Rattle.ec_model.specs.declared.live.HashView.{HashView}
use Rattle.ec_model.specs.declared.live.HashView.TheVariants.{Idle, Busy, Done}
use Rattle.ec_model.specs.Ranges.{Range, pstate_range, is_flash_size}
use Rattle.ec_model.specs.Stored.{has_place, next_slot, mark2_bytes, stored, stored_block, same_bits}
use Rattle.ec_model.specs.Table.{Core, IsHashable}
use Rattle.ec_model.specs.Hash.{touched, is_hash_over, without_hash}
use Rattle.ec_model.specs.Operations.{Operation, Program, Erase, StopsAt, operation_range, operated, operated_all, touched_by}
use Rattle.ec_model.specs.ProtectRow.{protect_operations, storing_at, storing_operations, record_operations, wanted}
use Rattle.ec_model.proofs.GuardLemmas.{IsAbove, AllAbove, length-operated}
use Rattle.ec_model.proofs.GuardSteps.{if_cases}
use Rattle.ec_model.proofs.DigestLemmas.{operated-torn}
use Rattle.flash_protect.specs.Setting.{covering, joined, joined_all}
use Rattle.vboot_hash.specs.Hashing.{HashState, IsHashing, Stands, IsNoHash}
use Rattle.vboot_hash.proofs.Standing.{stands-beside}
use Rattle.ec_boot.proofs.LockLemmas.{sized}
use Rattle.ec_boot.specs.Shared.{IsMeant, Touches, is_over_some}

-- a core with this hash
abbrev pub with_state : HashState → Core → Core
with_state hash core = record core { live = record core.live { hash = hash.shown }; nonce = hash.nonce }

-- a touch does not look at the flash
pub touched-flash : (range : Range) (core : Core) (flash : List ℕ) → touched range (record core { flash = flash }) ≡ record (touched range core) { flash = flash }
touched-flash range core flash = by (is_hash_over range core.live.hash) where
  by : (over : Bool) → (if over then without_hash (record core { flash = flash }) else record core { flash = flash }) ≡ record (if over then without_hash core else core) { flash = flash }
  by true = refl
  by false = refl

-- the hash behind an operation is the core's behind a touch
pub touched-state : (range : Range) (core : Core) (old new : HashState) → Touches range old new → with_state new core ≡ touched range (with_state old core)
touched-state range core old new touches = by (is_hash_over range old.shown) refl where
  gone : IsNoHash new → with_state new core ≡ without_hash (with_state old core)
  gone none =
      ap (λ (hash : HashView). with_state (record new { shown = hash }) core) none.idle
      ∙ ap (λ (nonce : List ℕ). with_state (record new { shown = Idle; nonce = nonce }) core) none.no_nonce

  by : (over : Bool) → is_hash_over range old.shown ≡ over → with_state new core ≡ (if over then without_hash (with_state old core) else with_state old core)
  by true is = gone (touches.over is)
  by false is = ap (λ (hash : HashState). with_state hash core) (touches.beside is)

-- a hash that was valid is so behind an operation
pub touched-hashable : (size : ℕ) (range : Range) (old new : HashState) → Touches range old new → IsHashable size old.shown old.nonce → IsHashable size new.shown new.nonce
touched-hashable size range old new touches valid = by (is_hash_over range old.shown) refl where
  gone : IsNoHash new → IsHashable size new.shown new.nonce
  gone none = subst (λ (hash : HashView). IsHashable size hash new.nonce) (sym none.idle) none.no_nonce

  by : (over : Bool) → is_hash_over range old.shown ≡ over → IsHashable size new.shown new.nonce
  by true is = gone (touches.over is)
  by false is = subst (λ (hash : HashState). IsHashable size hash.shown hash.nonce) (sym (touches.beside is)) valid

-- and it stands for the flash behind it
pub touched-meant : (range : Range) (old new : HashState) (o p : Option (List ℕ)) → Touches range old new → Changes (Torn range.at range.size) o p → IfSome o (IsMeant old) → IfSome p (IsMeant new)
touched-meant range old new None None touches torn meant = tt
touched-meant range old new None (Some g) touches torn meant = absurd torn
touched-meant range old new (Some f) None touches torn meant = absurd torn
touched-meant range old new (Some f) (Some g) touches torn meant = (meant.0, touches.stands meant.0 f g torn meant.1)

-- whether a hash is over the range of some operation
abbrev pub over_any : List Operation → HashView → Bool
over_any [] hash = false
over_any (operation ∷ operations) hash = is_hash_over (operation_range operation) hash || over_any operations hash

-- operations do not touch what is no hash
pub untouched_by : (operations : List Operation) (core : Core) → touched_by operations (without_hash core) ≡ without_hash core
untouched_by [] core = refl
untouched_by (operation ∷ operations) core = untouched_by operations core

-- operations touch a hash that is over one of their ranges
pub touched_by-any : (operations : List Operation) (core : Core) → touched_by operations core ≡ (if over_any operations core.live.hash then without_hash core else core)
touched_by-any [] core = refl
touched_by-any (operation ∷ operations) core = by (is_hash_over (operation_range operation) core.live.hash) (touched_by-any operations core) where
  by : (over : Bool) → touched_by operations core ≡ (if over_any operations core.live.hash then without_hash core else core) →
      touched_by operations (if over then without_hash core else core) ≡ (if over || over_any operations core.live.hash then without_hash core else core)
  by true rest = untouched_by operations core
  by false rest = rest

-- a hash that is shown has some bytes
abbrev pub HasSome : HashView → Type 0
HasSome Idle = ⊤
HasSome (Busy at size left) = 1 ≤ size
HasSome (Done at size digest) = 1 ≤ size

pub some-bytes : (size : ℕ) (hash : HashView) (nonce : List ℕ) → IsHashable size hash nonce → HasSome hash
some-bytes size Idle nonce valid = tt
some-bytes size (Busy at count left) nonce valid = valid.0
some-bytes size (Done at count digest) nonce valid = valid.0

-- operations in one range
abbrev AllWithin : Range → List Operation → Type 0
AllWithin range [] = ⊤
AllWithin range (operation ∷ operations) =
    (range.at ≤ (operation_range operation).at) × ((operation_range operation).at + (operation_range operation).size ≤ range.at + range.size)
    × AllWithin range operations

-- a range that one within it is joined to
joined-within : (range other : Range) → range.at ≤ other.at → other.at + other.size ≤ range.at + range.size → joined range other ≡ range
joined-within range other above below =
    let start : min range.at other.at ≡ range.at = omega (arith, above) in
    let count : max (range.at + range.size) (other.at + other.size) - min range.at other.at ≡ range.size = omega (arith, above, below) in
    ap (λ (n : ℕ). let r : Range = record { at = n; size = max (range.at + range.size) (other.at + other.size) - min range.at other.at } in r) start
    ∙ ap (λ (n : ℕ). let r : Range = record { at = range.at; size = n } in r) count

joined_all-within : (range : Range) (operations : List Operation) → AllWithin range operations → joined_all range operations ≡ range
joined_all-within range [] within = refl
joined_all-within range (operation ∷ operations) within =
    ap (λ (r : Range). joined_all r operations) (joined-within range (operation_range operation) within.0 within.1) ∙ joined_all-within range operations within.2

-- a hash beside a range is beside each that is within it
beside-within : (range other : Range) (hash : HashView) → range.at ≤ other.at → other.at + other.size ≤ range.at + range.size → is_hash_over range hash ≡ false → is_hash_over other hash ≡ false
beside-within range other Idle above below apart = refl
beside-within range other (Busy at size left) above below apart = grind (arith, nat_tests)
beside-within range other (Done at size digest) above below apart = grind (arith, nat_tests)

none-within : (range : Range) (operations : List Operation) (hash : HashView) → AllWithin range operations → is_hash_over range hash ≡ false → over_any operations hash ≡ false
none-within range [] hash within apart = refl
none-within range (operation ∷ operations) hash within apart =
    ap (λ (over : Bool). over || over_any operations hash) (beside-within range (operation_range operation) hash within.0 within.1 apart) ∙ none-within range operations hash within.2 apart

-- a range, and operations within it
over-whole : (range : Range) (operations : List Operation) (hash : HashView) → AllWithin range operations → (is_hash_over range hash || over_any operations hash) ≡ is_hash_over range hash
over-whole range operations hash within = by (is_hash_over range hash) refl where
  by : (over : Bool) → is_hash_over range hash ≡ over → (over || over_any operations hash) ≡ over
  by true is = refl
  by false is = none-within range operations hash within is

-- the first of them are within it, too
take-within : (n : ℕ) (range : Range) (operations : List Operation) → AllWithin range operations → AllWithin range (take n operations)
take-within zero range operations within = tt
take-within (suc n) range [] within = tt
take-within (suc n) range (operation ∷ operations) within = (within.0, within.1, take-within n range operations within.2)

-- the ranges of a record's word and its gate, one behind the other
over-record : (place : ℕ) (hash : HashView) → HasSome hash →
    (is_hash_over (record { at = place; size = 4 }) hash || (is_hash_over (record { at = place + 4; size = 4 }) hash || false))
    ≡ is_hash_over (record { at = min place (place + 4); size = max (place + 4) (place + 4 + 4) - min place (place + 4) }) hash
over-record place Idle some = refl
over-record place (Busy at size left) some = grind (arith, nat_tests)
over-record place (Done at size digest) some = grind (arith, nat_tests)

or-false : (a : Bool) → (a || false) ≡ a
or-false true = refl
or-false false = refl

-- the first operations of a record touch what their range does
record-over : (n place : ℕ) (bits : AtBoot) (hash : HashView) → HasSome hash → over_any (take n (record_operations place bits)) hash ≡ is_over_some (covering (take n (record_operations place bits))) hash
record-over zero place bits hash some = refl
record-over (suc zero) place bits hash some = or-false (is_hash_over (record { at = place; size = 4 }) hash)
record-over (suc (suc zero)) place bits hash some = over-record place hash some
record-over (suc (suc (suc n))) place bits hash some = over-record place hash some

-- and so do those that begin with the erase of a block that has all of them
erase-over : (n block : ℕ) (operations : List Operation) (hash : HashView) → AllWithin (operation_range (Erase block)) operations → over_any (take n (Erase block ∷ operations)) hash ≡ is_over_some (covering (take n (Erase block ∷ operations))) hash
erase-over zero block operations hash within = refl
erase-over (suc n) block operations hash within =
    let range : Range = operation_range (Erase block) in
    let here = take-within n range operations within in
    over-whole range (take n operations) hash here
    ∙ ap (λ (r : Range). is_hash_over r hash) (sym (joined_all-within range (take n operations) here))

-- the first operations that store bits touch what their range does
storing-over : (n at : ℕ) (block : List ℕ) (bits : AtBoot) (hash : HashView) → at / 4096 * 4096 ≡ at → HasSome hash → over_any (take n (storing_at at block bits)) hash ≡ is_over_some (covering (take n (storing_at at block bits))) hash
storing-over n at block bits hash whole some =
    if_cases (λ (operations : List Operation). over_any (take n operations) hash ≡ is_over_some (covering (take n operations)) hash) (has_place block) _ _
    (λ placed. record-over n (at + 8 + 8 * next_slot block) bits hash some)
    (λ anew. erase-over n (at / 4096) (Program at mark2_bytes ∷ record_operations (at + 8) bits) hash
    (omega (arith, whole), omega (arith, whole), (omega (arith, whole), omega (arith, whole), (omega (arith, whole), omega (arith, whole), tt))))

-- the first operations of a FLASH_PROTECT touch what their range does
pub protect-over : (n mask flags : ℕ) (core : Core) (hash : HashView) → is_flash_size (length core.flash) ≡ true → HasSome hash →
    over_any (take n (protect_operations core mask flags)) hash ≡ is_over_some (covering (take n (protect_operations core mask flags))) hash
protect-over n mask flags core hash allowed some =
    let old : AtBoot = stored core.flash in
    let bits : AtBoot = wanted mask flags old in
    if_cases (λ (operations : List Operation). over_any (take n operations) hash ≡ is_over_some (covering (take n operations)) hash) (same_bits bits old || core.live.ro_now) [] (storing_operations core.flash bits)
    (λ same. none n) (λ other. storing-over n (pstate_range (length core.flash)).at (stored_block core.flash) bits hash (pstate-whole (length core.flash) allowed) some) where
      none : (n : ℕ) → over_any (take n []) hash ≡ is_over_some (covering (take n [])) hash
      none zero = refl
      none (suc n) = refl

      pstate-whole : (size : ℕ) → is_flash_size size ≡ true → (size / 2 - 4096) / 4096 * 4096 ≡ size / 2 - 4096
      pstate-whole size is = omega (arith, sized size is)

-- parts of a test that fails
both-false : (a b : Bool) → (a || b) ≡ false → (a ≡ false) × (b ≡ false)
both-false true b none = cc
both-false false b none = (refl, none)

-- a hash beside all operations stands for the flash behind them
pub stands-operated : (operations : List Operation) (hash : HashState) (nonce flash : List ℕ) (size : ℕ) → length flash ≡ size → AllAbove 0 size operations → IsHashing hash.shown hash.nonce → over_any operations hash.shown ≡ false →
    Stands hash nonce flash → Stands hash nonce (operated_all operations flash)
stands-operated [] hash nonce flash size same inside hashing apart stands = stands
stands-operated (operation ∷ operations) hash nonce flash size same inside hashing apart stands =
    let parts = both-false (is_hash_over (operation_range operation) hash.shown) (over_any operations hash.shown) apart in
    let here : IsAbove 0 (length flash) operation = rw same inside.0 in
    stands-operated operations hash nonce (operated operation flash) size (length-operated 0 operation flash here ∙ same) inside.1 hashing parts.1
    (stands-beside (operation_range operation).at (operation_range operation).size hash.shown hash nonce flash (operated operation flash) parts.0 hashing (operated-torn operation flash here) stands)

some-is : (a b : Operation) → Some a ≡ Some b → b ≡ a
some-is a b same = sym (ap (λ option. unwrap_or option a) same)

-- and behind those up to one that did not end
pub stands-stopped : (k : ℕ) (operations : List Operation) (hash : HashState) (nonce old new : List ℕ) (size : ℕ) → length old ≡ size → AllAbove 0 size operations → IsHashing hash.shown hash.nonce → over_any (take (suc k) operations) hash.shown ≡ false →
    StopsAt k operations old new → Stands hash nonce old → Stands hash nonce new
stands-stopped k [] hash nonce old new size same inside hashing apart stops stands = cc (stops.is_there)
stands-stopped zero (operation ∷ operations) hash nonce old new size same inside hashing apart stops stands =
    let parts = both-false (is_hash_over (operation_range operation) hash.shown) false apart in
    let it = some-is operation stops.stopped stops.is_there in
    stands-beside (operation_range operation).at (operation_range operation).size hash.shown hash nonce old new parts.0 hashing
    (subst (λ (made : Operation). Torn (operation_range made).at (operation_range made).size old new) it stops.torn) stands
stands-stopped (suc k) (operation ∷ operations) hash nonce old new size same inside hashing apart stops stands =
    let parts = both-false (is_hash_over (operation_range operation) hash.shown) (over_any (take (suc k) operations) hash.shown) apart in
    let here : IsAbove 0 (length old) operation = rw same inside.0 in
    stands-stopped k operations hash nonce (operated operation old) new size (length-operated 0 operation old here ∙ same) inside.1 hashing parts.1
    (record { stopped = stops.stopped; is_there = stops.is_there; torn = stops.torn })
    (stands-beside (operation_range operation).at (operation_range operation).size hash.shown hash nonce old (operated operation old) parts.0 hashing (operated-torn operation old here) stands)
