-- What FLASH_PROTECT leaves.
use Rattle.std.proofs.Common.{◌≡◌, refl, sym, ap, ◌∙◌, subst, ℕ, zero, suc, ◌+◌, ◌-◌, ◌*◌, ◌/◌, ◌≤◌, min, max, Bool, true, false, ◌||◌, if◌then◌else◌, List, [], ◌∷◌, take, drop, length, arith, lit<, inl, inr, Option, Some, None, Result, Ok, Err}
use Rattle.std.specs.Prelude.{IfSome, IsTrue, ◌⊎◌}
use Rattle.std.proofs.lemmas.List.{take_all}
use Rattle.std.proofs.lemmas.Bool.Decides.{eqb_tells}
use Rattle.flash_dev.specs.Flash.{block_size}
use Rattle.flash_dev.specs.Told.{Changes}
use Rattle.flash_dev.specs.Ranges.{is_flash_size}
use Rattle.flash_dev.specs.Operations.{Operation, Program, Erase, operated_all, StopsAt}
use Rattle.flash_dev.specs.View.{DeviceView}
use Rattle.flash_dev.specs.Costs.{Account, HasBegun, hurt_by}
use Rattle.flash_dev.specs.declared.hurt.Hurt.{Hurt}
use Rattle.flash_dev.specs.declared.hurt.Hurt.TheVariants.{Whole, Failed}
use Rattle.flash_dev.proofs.Accounting.{account-none, account-same, account-behind}
use Rattle.flash_dev.specs.declared.device.DevErr.{DevErr}
use Rattle.flash_dev.specs.declared.device.DevErr.TheVariants.{Failed as FailedErr}
use Rattle.ec_model.specs.declared.live.AtBoot.{AtBoot}
use Rattle.ec_model.specs.declared.live.ProtectView.{ProtectView}
use Rattle.ec_model.specs.Stored.{stored, stored_in, stored_block, has_place, next_slot, mark2_bytes, same_bits}
use Rattle.ec_model.specs.Table.{Core}
use Rattle.ec_model.specs.Operations.{touched_by, after_operations}
use Rattle.ec_model.specs.ProtectRow.{record_operations, storing_at, storing_operations, protect_operations, protected, wanted, locks_set, protect_view}
use Rattle.ec_model.specs.Appending.{AddsRecord}
use Rattle.ec_model.proofs.GuardLemmas.{leaves-operated_all}
use Rattle.ec_model.proofs.ValidRows.{IsCoreValid, storing-inside}
use Rattle.ec_model.proofs.RecordLemmas.{storing-done}
use Rattle.ec_model.proofs.AppendLaws.{stopped-keeps, done-keeps, same-flash}
use Rattle.flash_protect.specs.declared.protect.Protect.{Protect}
use Rattle.flash_protect.specs.Setting.{Sets, IsLookedAt, record_place, operations_at, core_with, covering}

-- what a flash of an allowed size has
pub record IsSized (size : ℕ) : Type 0 where
  pub large : 65536 ≤ size
  pub small : size ≤ 4194304
  pub whole : (size / 2 - 4096) / 4096 * 4096 ≡ size / 2 - 4096

pub sized : (size : ℕ) → is_flash_size size ≡ true → IsSized size
sized size allowed = record { large = grind (arith, eqb_tells); small = grind (arith, eqb_tells); whole = grind (arith, eqb_tells) }

-- the operations that store bits, by where the next record goes
place-cases : (at : ℕ) (block : List ℕ) (bits : AtBoot) → storing_at at block bits ≡ operations_at at (if has_place block then Some (at + 8 + 8 * next_slot block) else None) bits
place-cases at block bits = by (has_place block) where
  by : (b : Bool) → (if b then record_operations (at + 8 + 8 * next_slot block) bits else Erase (at / block_size) ∷ Program at mark2_bytes ∷ record_operations (at + 8) bits)
      ≡ operations_at at (if b then Some (at + 8 + 8 * next_slot block) else None) bits
  by true = refl
  by false = refl

storing-are : (size : ℕ) (flash : List ℕ) (place : Option ℕ) (bits : AtBoot) → length flash ≡ size → record_place flash ≡ place → storing_operations flash bits ≡ operations_at (size / 2 - 4096) place bits
storing-are size flash place bits sized_is place_is =
    place-cases (length flash / 2 - 4096) (stored_block flash) bits
    ∙ ap (λ (o : Option ℕ). operations_at (length flash / 2 - 4096) o bits) place_is ∙ ap (λ (n : ℕ). operations_at (n / 2 - 4096) place bits) sized_is

-- the operations of a change of the stored bits
ops-are : (mask flags : ℕ) (pin : Bool) (old : Protect) (f : List ℕ) (bits wish : AtBoot) → stored f ≡ bits → wish ≡ wanted mask flags bits → same_bits wish bits ≡ false → old.ro_now ≡ false →
    protect_operations (core_with old pin f) mask flags ≡ storing_operations f wish
ops-are mask flags pin old f bits wish stored_is wish_is differ open_now =
    ap (λ (b : AtBoot). if same_bits (wanted mask flags b) b || old.ro_now then [] else storing_operations f (wanted mask flags b)) stored_is
    ∙ ap (λ (w : AtBoot). if same_bits w bits || old.ro_now then [] else storing_operations f w) (sym wish_is)
    ∙ ap (λ (s : Bool). if s || old.ro_now then [] else storing_operations f wish) differ
    ∙ ap (λ (s : Bool). let ops : List Operation = if false || s then [] else storing_operations f wish in ops) open_now

pair-is : (x y u v : ℕ) → x ≡ u → y ≡ v → ◌≡◌ {A = Option (ℕ × ℕ)} (Some (x, y)) (Some (u, v))
pair-is x y u v first second = ap (λ (n : ℕ). let o : Option (ℕ × ℕ) = Some (n, y) in o) first ∙ ap (λ (n : ℕ). let o : Option (ℕ × ℕ) = Some (u, n) in o) second

-- the range of the operations of a record that were begun
pub covers-record : (at place begun : ℕ) (bits : AtBoot) → 1 ≤ begun → begun ≤ 2 → Some (place, 4 * begun) ≡ covering (take begun (operations_at at (Some place) bits))
covers-record at place zero bits some few = absurd (omega (arith, some))
covers-record at place (suc zero) bits some few = refl
covers-record at place (suc (suc zero)) bits some few = pair-is place 8 (min place (place + 4)) (max (place + 4) (place + 4 + 4) - min place (place + 4)) (omega arith) (omega arith)
covers-record at place (suc (suc (suc n))) bits some few = absurd (omega (arith, few))

-- and of those that begin the block anew
pub covers-anew : (at begun : ℕ) (bits : AtBoot) → at / 4096 * 4096 ≡ at → 1 ≤ begun → begun ≤ 4 → Some (at, 4096) ≡ covering (take begun (operations_at at None bits))
covers-anew at zero bits whole some few = absurd (omega (arith, some))
covers-anew at (suc zero) bits whole some few = pair-is at 4096 (at / 4096 * 4096) 4096 (sym whole) refl
covers-anew at (suc (suc zero)) bits whole some few =
    let block : ℕ = at / 4096 * 4096 in
    pair-is at 4096 (min block at) (max (block + 4096) (at + 8) - min block at) (omega (arith, whole)) (omega (arith, whole))
covers-anew at (suc (suc (suc zero))) bits whole some few = by (at / 4096 * 4096) whole where
  by : (block : ℕ) → block ≡ at → Some (at, 4096) ≡ (let start : ℕ = min block at in let size : ℕ = max (block + 4096) (at + 8) - start in
      let begin : ℕ = min start (at + 8) in let o : Option (ℕ × ℕ) = Some (begin, max (start + size) (at + 8 + 4) - begin) in o)
  by block whole =
      let start : ℕ = min block at in
      let size : ℕ = max (block + 4096) (at + 8) - start in
      let begin : ℕ = min start (at + 8) in
      pair-is at 4096 begin (max (start + size) (at + 8 + 4) - begin) (omega (arith, whole)) (omega (arith, whole))
covers-anew at (suc (suc (suc (suc zero)))) bits whole some few = by (at / 4096 * 4096) whole where
  by : (block : ℕ) → block ≡ at → Some (at, 4096) ≡ (let start : ℕ = min block at in let size : ℕ = max (block + 4096) (at + 8) - start in
      let begin : ℕ = min start (at + 8) in let more : ℕ = max (start + size) (at + 8 + 4) - begin in let first : ℕ = min begin (at + 8 + 4) in
      let o : Option (ℕ × ℕ) = Some (first, max (begin + more) (at + 8 + 4 + 4) - first) in o)
  by block whole =
      let start : ℕ = min block at in
      let size : ℕ = max (block + 4096) (at + 8) - start in
      let begin : ℕ = min start (at + 8) in
      let more : ℕ = max (start + size) (at + 8 + 4) - begin in
      let first : ℕ = min begin (at + 8 + 4) in
      pair-is at 4096 first (max (begin + more) (at + 8 + 4 + 4) - first) (omega (arith, whole)) (omega (arith, whole))
covers-anew at (suc (suc (suc (suc (suc n))))) bits whole some few = absurd (omega (arith, few))

-- where RO is not locked and other bits are wanted, nothing was read wrong
pub record IsChanging (mask flags : ℕ) (old : Protect) (told : Option (List ℕ)) (size : ℕ) (place : Option ℕ) (bits wish : AtBoot) : Type 0 where
  pub allowed : is_flash_size size ≡ true
  pub size_is : IfSome told (λ flash. length flash ≡ size)
  pub bits_are : IfSome told (λ flash. stored flash ≡ bits)
  pub place_is : IfSome told (λ flash. record_place flash ≡ place)
  pub wish_is : wish ≡ wanted mask flags bits
  pub differ : same_bits wish bits ≡ false
  pub open_now : old.ro_now ≡ false

-- the operations that were begun, on a flash that is told
here-are : (mask flags : ℕ) (pin : Bool) (old : Protect) (size : ℕ) (place : Option ℕ) (bits wish : AtBoot) (f : List ℕ) → IsChanging mask flags old (Some f) size place bits wish →
    protect_operations (core_with old pin f) mask flags ≡ operations_at (size / 2 - 4096) place wish
here-are mask flags pin old size place bits wish f is =
    ops-are mask flags pin old f bits wish is.bits_are is.wish_is is.differ is.open_now ∙ storing-are size f place wish is.size_is is.place_is

-- the account of these operations, told of those that are asked for
here-account : (mask flags : ℕ) (pin : Bool) (old : Protect) (size : ℕ) (place : Option ℕ) (bits wish : AtBoot) (begun : ℕ) (hurt : Hurt) (device changed : DeviceView) (f g : List ℕ)
    → IsChanging mask flags old (Some f) size place bits wish → Account begun hurt (operations_at (size / 2 - 4096) place wish) device changed f g
    → Account begun hurt (protect_operations (core_with old pin f) mask flags) device changed f g
here-account mask flags pin old size place bits wish begun hurt device changed f g is account =
    subst (λ (list : List Operation). Account begun hurt list device changed f g) (sym (here-are mask flags pin old size place bits wish f is)) account

-- the bits could not be stored
pub set-stopped : (mask flags : ℕ) (pin : Bool) (device changed : DeviceView) (old : Protect) (o p : Option (List ℕ)) (size : ℕ) (place : Option ℕ) (bits wish : AtBoot) (begun : ℕ) (range : ℕ × ℕ) (error : DevErr) → IsChanging mask flags old o size place bits wish →
    Changes (HasBegun {T = Unit {0}} begun (operations_at (size / 2 - 4096) place wish) device changed (Err error)) o p → Some range ≡ covering (take begun (operations_at (size / 2 - 4096) place wish)) →
    Changes (λ before after. Sets mask flags pin device changed old before old after (Some range) (Err error)) o p
set-stopped mask flags pin device changed old None None size place bits wish begun range error is began covers = tt
set-stopped mask flags pin device changed old None (Some g) size place bits wish begun range error is began covers = began
set-stopped mask flags pin device changed old (Some f) None size place bits wish begun range error is began covers = began
set-stopped mask flags pin device changed old (Some f) (Some g) size place bits wish begun range error is has covers =
    let here = here-are mask flags pin old size place bits wish f is in
    let began = has.began in
    record {
      place = began.0;
      stops = subst (λ (list : List Operation). StopsAt began.0 list f g) (sym here) began.2;
      account = subst (λ (n : ℕ). Account n (hurt_by error) (protect_operations (core_with old pin f) mask flags) device changed f g) began.1
          (here-account mask flags pin old size place bits wish begun (hurt_by error) device changed f g is has.account);
      begun = covers ∙ ap (λ (n : ℕ). covering (take n (operations_at (size / 2 - 4096) place wish))) began.1 ∙ ap (λ (list : List Operation). covering (take (suc began.0) list)) (sym here);
      same = refl;
    }

-- what is stored once all operations were done
stored-after : (size : ℕ) (bits : AtBoot) (flash after : List ℕ) → IsSized size → length flash ≡ size → after ≡ operated_all (storing_operations flash bits) flash → stored after ≡ bits
stored-after size bits flash after is sized_is done =
    let p : ℕ = length flash / 2 - block_size in
    let long : length after ≡ length flash =
    ap (λ (xs : List ℕ). length xs) done ∙ (leaves-operated_all 0 (length flash) (storing_operations flash bits) flash refl (storing-inside (length flash) (stored_block flash) bits (omega (arith, is.large, sized_is)))).size in
    let whole : p / block_size * block_size ≡ p = subst (λ (n : ℕ). (n / 2 - 4096) / 4096 * 4096 ≡ n / 2 - 4096) (sym sized_is) is.whole in
    ap (λ (n : ℕ). stored_in (drop (n / 2 - block_size) after)) long ∙ ap (λ (xs : List ℕ). stored_in (drop p xs)) done
    ∙ storing-done p bits flash whole (omega (arith, is.large, sized_is))

-- no hash is touched where none is
untouched : (protect : Protect) (pin : Bool) (f : List ℕ) (operations : List Operation) → touched_by operations (core_with protect pin f) ≡ core_with protect pin f
untouched protect pin f [] = refl
untouched protect pin f (operation ∷ operations) = untouched protect pin f operations

with-touched : (mask flags : ℕ) (pin : Bool) (old : Protect) (f : List ℕ) (operations : List Operation) →
    locks_set mask flags (core_with old pin (operated_all operations f)) ≡ locks_set mask flags (after_operations operations (core_with old pin f))
with-touched mask flags pin old f operations = ap (λ (c : Core). locks_set mask flags (record c { flash = operated_all operations f })) (sym (untouched old pin f operations))

-- the bits were stored
pub set-done : (mask flags : ℕ) (pin : Bool) (device changed : DeviceView) (old new : Protect) (o p : Option (List ℕ)) (size : ℕ) (place : Option ℕ) (bits wish : AtBoot) (begun : ℕ) (range : ℕ × ℕ) (x : Unit {0}) (view : ProtectView) →
    IsChanging mask flags old o size place bits wish → Changes (HasBegun {T = Unit {0}} begun (operations_at (size / 2 - 4096) place wish) device changed (Ok x)) o p →
    Some range ≡ covering (take begun (operations_at (size / 2 - 4096) place wish)) →
    ((flash : List ℕ) → stored flash ≡ wish → core_with new pin flash ≡ locks_set mask flags (core_with old pin flash)) →
    ((flash : List ℕ) → stored flash ≡ wish → view ≡ protect_view (core_with new pin flash)) →
    Changes (λ before after. Sets mask flags pin device changed old before new after (Some range) (Ok view)) o p
set-done mask flags pin device changed old new None None size place bits wish begun range x view is began covers done shown = tt
set-done mask flags pin device changed old new None (Some g) size place bits wish begun range x view is began covers done shown = began
set-done mask flags pin device changed old new (Some f) None size place bits wish begun range x view is began covers done shown = began
set-done mask flags pin device changed old new (Some f) (Some g) size place bits wish begun range x view is has covers done shown =
    let at : ℕ = size / 2 - 4096 in
    let began = has.began in
    let here = here-are mask flags pin old size place bits wish f is in
    let made : g ≡ operated_all (protect_operations (core_with old pin f) mask flags) f = began.1 ∙ ap (λ (list : List Operation). operated_all list f) (sym here) in
    let kept : stored g ≡ wish =
    stored-after size wish f g (sized size is.allowed) is.size_is (made ∙ ap (λ (list : List Operation). operated_all list f) (ops-are mask flags pin old f bits wish is.bits_are is.wish_is is.differ is.open_now)) in
    let all : begun ≡ length (protect_operations (core_with old pin f) mask flags) = began.0 ∙ ap (λ (list : List Operation). length list) (sym here) in (
      record {
        done = done g kept ∙ ap (λ (flash : List ℕ). locks_set mask flags (core_with old pin flash)) made
            ∙ with-touched mask flags pin old f (protect_operations (core_with old pin f) mask flags);
        shown = shown g kept;
        begun = covers ∙ ap (λ (n : ℕ). covering (take n (operations_at at place wish))) began.0
            ∙ ap covering (take_all (length (operations_at at place wish)) (operations_at at place wish) (omega arith)) ∙ ap covering (sym here);
      },
      subst (λ (n : ℕ). Account n Whole (protect_operations (core_with old pin f) mask flags) device changed f g) all
          (here-account mask flags pin old size place bits wish begun Whole device changed f g is has.account),
    )

-- where other bits are not wanted, or RO is locked, there are no operations
idle-none : (mask flags : ℕ) (pin : Bool) (old : Protect) (f : List ℕ) (bits wish : AtBoot) → stored f ≡ bits → wish ≡ wanted mask flags bits → (same_bits wish bits ≡ true) ⊎ (old.ro_now ≡ true) →
    protect_operations (core_with old pin f) mask flags ≡ []
idle-none mask flags pin old f bits wish stored_is wish_is idle =
    ap (λ (b : AtBoot). if same_bits (wanted mask flags b) b || old.ro_now then [] else storing_operations f (wanted mask flags b)) stored_is
    ∙ ap (λ (w : AtBoot). if same_bits w bits || old.ro_now then [] else storing_operations f w) (sym wish_is)
    ∙ by idle where
      by : (same_bits wish bits ≡ true) ⊎ (old.ro_now ≡ true) → (if same_bits wish bits || old.ro_now then [] else storing_operations f wish) ≡ []
      by (inl same) = ap (λ (s : Bool). let ops : List Operation = if s || old.ro_now then [] else storing_operations f wish in ops) same
      by (inr locked) = ap (λ (s : Bool). let ops : List Operation = if same_bits wish bits || s then [] else storing_operations f wish in ops) locked ∙ either (same_bits wish bits) where
        either : (b : Bool) → (if b || true then [] else storing_operations f wish) ≡ []
        either true = refl
        either false = refl

-- nothing was stored, since nothing else is wanted, or RO is locked
pub set-idle : (mask flags : ℕ) (pin : Bool) (device changed : DeviceView) (old new : Protect) (o p : Option (List ℕ)) (bits wish : AtBoot) (view : ProtectView) → changed ≡ device → o ≡ p →
    IfSome o (λ flash. stored flash ≡ bits) → wish ≡ wanted mask flags bits → (same_bits wish bits ≡ true) ⊎ (old.ro_now ≡ true) →
    ((flash : List ℕ) → stored flash ≡ bits → core_with new pin flash ≡ locks_set mask flags (core_with old pin flash)) →
    ((flash : List ℕ) → stored flash ≡ bits → view ≡ protect_view (core_with new pin flash)) →
    Changes (λ before after. Sets mask flags pin device changed old before new after None (Ok view)) o p
set-idle mask flags pin device changed old new None None bits wish view same held bits_are wish_is idle done shown = tt
set-idle mask flags pin device changed old new None (Some g) bits wish view same held bits_are wish_is idle done shown = cc
set-idle mask flags pin device changed old new (Some f) None bits wish view same held bits_are wish_is idle done shown = cc
set-idle mask flags pin device changed old new (Some f) (Some g) bits wish view same held bits_are wish_is idle done shown =
    let none = idle-none mask flags pin old f bits wish bits_are wish_is idle in
    let flash : f ≡ g = some f g held in (
      record {
        done = subst (λ (xs : List ℕ). core_with new pin xs ≡ protected mask flags (core_with old pin f)) flash
            (done f bits_are ∙ ap (λ (list : List Operation). locks_set mask flags (after_operations list (core_with old pin f))) (sym none));
        shown = subst (λ (xs : List ℕ). view ≡ protect_view (core_with new pin xs)) flash (shown f bits_are);
        begun = ap covering (sym none);
      },
      subst (λ (list : List Operation). Account (length list) Whole list device changed f g) (sym none) (account-same [] device changed f g same),
    ) where
      some : (x y : List ℕ) → Some x ≡ Some y → x ≡ y
      some x y is = cc

-- the stored bits could not be read
pub set-unread : (mask flags : ℕ) (pin : Bool) (device changed : DeviceView) (old : Protect) (o p : Option (List ℕ)) → p ≡ o → IsLookedAt true device changed →
    Changes (λ before after. Sets mask flags pin device changed old before old after None (Err FailedErr)) o p
set-unread mask flags pin device changed old None None held looked = tt
set-unread mask flags pin device changed old None (Some g) held looked = cc
set-unread mask flags pin device changed old (Some f) None held looked = cc
set-unread mask flags pin device changed old (Some f) (Some g) held looked =
    (refl, some g f held, refl, account-none Failed (protect_operations (core_with old pin f) mask flags) device changed f g looked.begun looked.armed looked.wear (looked.failed refl)) where
      some : (x y : List ℕ) → Some x ≡ Some y → x ≡ y
      some x y is = cc

-- what was done once the stored bits were read
pub set-behind : (mask flags : ℕ) (pin : Bool) (device middle changed : DeviceView) (old new : Protect) (o p : Option (List ℕ)) (range : Option (ℕ × ℕ)) (result : Result ProtectView DevErr) → IsLookedAt false device middle →
    Changes (λ before after. Sets mask flags pin middle changed old before new after range result) o p → Changes (λ before after. Sets mask flags pin device changed old before new after range result) o p
set-behind mask flags pin device middle changed old new None None range result looked sets = tt
set-behind mask flags pin device middle changed old new None (Some g) range result looked sets = sets
set-behind mask flags pin device middle changed old new (Some f) None range result looked sets = sets
set-behind mask flags pin device middle changed old new (Some f) (Some g) range (Ok view) looked sets =
    let operations : List Operation = protect_operations (core_with old pin f) mask flags in
    (sets.0, account-behind (length operations) Whole operations device middle changed f g looked.faults looked.own_cuts looked.begun looked.armed looked.wear sets.1)
set-behind mask flags pin device middle changed old new (Some f) (Some g) None (Err error) looked sets =
    (sets.0, sets.1, sets.2, account-behind 0 Failed (protect_operations (core_with old pin f) mask flags) device middle changed f g looked.faults looked.own_cuts looked.begun looked.armed looked.wear sets.3)
set-behind mask flags pin device middle changed old new (Some f) (Some g) (Some range) (Err error) looked sets =
    record {
      place = sets.place;
      stops = sets.stops;
      account = account-behind (suc sets.place) (hurt_by error) (protect_operations (core_with old pin f) mask flags) device middle changed f g looked.faults looked.own_cuts looked.begun looked.armed looked.wear sets.account;
      begun = sets.begun;
      same = sets.same;
    }

-- a controller of which nothing else is asked is valid
bare-valid : (size : ℕ) (protect : Protect) (pin : Bool) (flash : List ℕ) → is_flash_size size ≡ true → length flash ≡ size → (IsTrue protect.all_now → IsTrue protect.ro_now) → IsCoreValid (core_with protect pin flash)
bare-valid size protect pin flash allowed sized_is ordered =
    record { size = ap is_flash_size sized_is ∙ allowed; all_with_ro = ordered; jumped = λ runs. cc; erase = tt; hash = refl; saved = lit< tt }

-- where a record has its place, it is added whole
pub adds-told : (size mask flags : ℕ) (pin : Bool) (device changed : DeviceView) (old new : Protect) (o p : Option (List ℕ)) (range : Option (ℕ × ℕ)) (result : Result ProtectView DevErr) → is_flash_size size ≡ true → IfSome o (λ flash. length flash ≡ size) →
    (IsTrue old.all_now → IsTrue old.ro_now) → Changes (λ before after. Sets mask flags pin device changed old before new after range result) o p → Changes (AddsRecord mask flags) o p
adds-told size mask flags pin device changed old new None None range result allowed size_is ordered sets = tt
adds-told size mask flags pin device changed old new None (Some g) range result allowed size_is ordered sets = sets
adds-told size mask flags pin device changed old new (Some f) None range result allowed size_is ordered sets = sets
adds-told size mask flags pin device changed old new (Some f) (Some g) range (Ok view) allowed size_is ordered sets = λ place.
    let valid = bare-valid size old pin f allowed size_is ordered in
    let core : Core = core_with old pin f in
    let same : operated_all (protect_operations core mask flags) f ≡ g = sym (same-flash mask flags (after_operations (protect_operations core mask flags) core)) ∙ sym (ap (λ (c : Core). c.flash) sets.0.done) in
    subst (λ (after : List ℕ). (stored after ≡ stored f) ⊎ (stored after ≡ wanted mask flags (stored f))) same (done-keeps core mask flags valid place)
adds-told size mask flags pin device changed old new (Some f) (Some g) None (Err error) allowed size_is ordered sets = λ place. inl (ap stored sets.1)
adds-told size mask flags pin device changed old new (Some f) (Some g) (Some range) (Err error) allowed size_is ordered sets = λ place.
    stopped-keeps (core_with old pin f) mask flags sets.place g (bare-valid size old pin f allowed size_is ordered) place sets.stops
