-- When RW may be written, and what a command of the flash is not refused for.
use Rattle.std.proofs.Common.{◌≡◌, refl, ap, ◌∙◌, ℕ, ◌+◌, ◌-◌, ◌/◌, ◌%◌, ◌≤◌, ◌||◌, ◌&&◌, ◌==◌, Bool, true, false, not, nat_lt, nat_le, if◌then◌else◌, List, [], length, Option, Some, None, Result, Ok, arith}
use Rattle.std.proofs.lemmas.Bool.Decides.{leb_tells, eqb_tells}
use Rattle.ec_types.specs.declared.image.ImageCopy.{ImageCopy}
use Rattle.ec_types.specs.declared.image.ImageCopy.TheVariants.{Ro}
use Rattle.flash_dev.specs.Flash.{block_size}
use Rattle.ec_model.specs.Answer.{Answered, unless_refused}
use Rattle.ec_model.specs.FlashRows.{is_whole_units}
use Rattle.ec_model.specs.Ranges.{Range, copy_range, wp_ro_range, overlaps, is_flash_size}
use Rattle.ec_model.specs.Table.{Core, is_blocked}
use Rattle.ec_model.specs.declared.event.Entry.{Entry}
use Rattle.ec_model.specs.Asks.{Setting}
use Rattle.ec_model.specs.HostCalls.{HostView}
use Rattle.sync_rules.specs.declared.ending.Stop.{Stop}
use Rattle.sync_laws.specs.Calm.{Reaches}
use Rattle.sync_laws.proofs.Clearing.{Stays, Becomes}
use Rattle.sync_laws.proofs.Proper.{HasLength}

-- RW may be written: RO runs, the whole flash is not locked, and nothing is pending
pub record IsReady (core : Core) : Type 0 where
  pub none : core.live.erase ≡ None
  pub runs : core.live.copy ≡ Ro
  pub open_ : core.live.all_now ≡ false

-- so is a controller that differs in its flash alone
pub ready-stays : (old new : Core) → Stays old new → new.live.erase ≡ None → IsReady old → IsReady new
ready-stays old new stays none ready = record { none = none; runs = stays.copy_is ∙ ready.runs; open_ = stays.all_is ∙ ready.open_ }

-- a part that makes this the flash
pub record Makes (setting : Setting) (part : HostView → List Entry → Result (Unit {0}) Stop → Type 0) (core : Core) (flash : List ℕ) (room : ℕ) : Type 0 where
  pub after : Core
  pub becomes : Becomes core flash after
  pub reaches : Reaches {A = Unit {0}} setting part core (Ok tt) after room

-- a range behind RO is not blocked
ro-apart : (size : ℕ) (copy : ImageCopy) (range : Range) → copy ≡ Ro → size / 2 ≤ range.at → overlaps range (copy_range copy size) ≡ false
ro-apart size copy range is behind = ap (λ (c : ImageCopy). overlaps range (copy_range c size)) is ∙ apart where
  apart : (nat_lt range.at (0 + (size / 2 - block_size)) && nat_lt 0 (range.at + range.size)) ≡ false
  apart = let above : nat_lt range.at (0 + (size / 2 - block_size)) ≡ false = grind (arith, leb_tells, behind) in rw above refl

wp-apart : (size : ℕ) (range : Range) → size / 2 ≤ range.at → overlaps range (wp_ro_range size) ≡ false
wp-apart size range behind = let above : nat_lt range.at (0 + size / 2) ≡ false = grind (arith, leb_tells, behind) in rw above refl

none-blocked : (locked one two three : Bool) → one ≡ false → two ≡ false → three ≡ false → (one || (locked && two) || three) ≡ false
none-blocked true false false false a b c = refl
none-blocked false false false false a b c = refl
none-blocked locked true two three a b c = absurd (cc)
none-blocked locked one true three a b c = absurd (cc)
none-blocked locked one two true a b c = absurd (cc)

pub not-blocked : (core : Core) (range : Range) → IsReady core → length core.flash / 2 ≤ range.at → is_blocked (length core.flash) core.live range ≡ false
not-blocked core range ready behind =
    none-blocked core.live.ro_now (overlaps range (copy_range core.live.copy (length core.flash))) (overlaps range (wp_ro_range (length core.flash))) core.live.all_now
    (ro-apart (length core.flash) core.live.copy range ready.runs behind) (wp-apart (length core.flash) range behind) ready.open_

-- a range is whole units
pub whole-units : (unit : ℕ) (core : Core) (range : Range) → 1 ≤ range.size → range.at % unit ≡ 0 → range.size % unit ≡ 0 → range.at + range.size ≤ length core.flash → is_whole_units unit core range ≡ true
whole-units unit core range some at long inside =
    let filled : (range.size == 0) ≡ false = grind (arith, eqb_tells, some) in
    let ends : nat_le (range.at + range.size) (length core.flash) ≡ true = grind (arith, leb_tells, inside) in
    rw (filled, at, long, ends) refl

-- no refusal
pub no-refusal : (whole blocked : Bool) → whole ≡ true → blocked ≡ false → ◌≡◌ {A = Option ℕ} (if not whole then Some 3 else if blocked then Some 4 else None) None
no-refusal true false is free = refl
no-refusal false blocked is free = absurd (cc)
no-refusal true true is free = absurd (cc)

-- the half of a flash
pub record IsHalved (size : ℕ) : Type 0 where
  pub blocks : size / 2 % 4096 ≡ 0
  pub both : size / 2 + size / 2 ≡ size
  pub least : 32768 ≤ size / 2
  pub most : size / 2 ≤ 2097152

pub halved : (size : ℕ) → is_flash_size size ≡ true → IsHalved size
halved size is = record { blocks = grind (arith, eqb_tells); both = grind (arith, eqb_tells); least = grind (arith, eqb_tells); most = grind (arith, eqb_tells) }

-- an answer with no body, or a refusal
pub bare-length : (refusal : Option ℕ) (core after : Core) (status : ℕ) → HasLength 0 (unless_refused refusal core (Answered after status []))
bare-length None core after status last body same = let none : body ≡ [] = cc in ap (λ (bytes : List ℕ). length bytes) none
bare-length (Some why) core after status last body same = let none : body ≡ [] = cc in ap (λ (bytes : List ℕ). length bytes) none
