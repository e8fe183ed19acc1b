-- Making RW free to be written, where nothing disturbs it: RO runs then, and the whole flash is not locked.
use Rattle.std.proofs.Common.{◌≡◌, refl, ap, ◌∙◌, subst, ℕ, ◌+◌, ◌≤◌, ◌||◌, Bool, true, false, if◌then◌else◌, List, [], None, Result, Ok, arith}
use Rattle.ec_types.specs.LittleEndian.{has_bit, bit_if}
use Rattle.ec_types.specs.Tables.{packet_limit}
use Rattle.ec_types.specs.declared.image.ImageCopy.{ImageCopy}
use Rattle.ec_types.specs.declared.image.ImageCopy.TheVariants.{Ro, Rw}
use Rattle.ec_types.specs.declared.reset.ResetCause.TheVariants.{Cold as ColdReset}
use Rattle.ec_model.specs.Asks.{Setting}
use Rattle.ec_model.specs.Bodies.{flash_protect_say}
use Rattle.ec_model.specs.Boot.{booted, boots_all_locked}
use Rattle.ec_model.specs.Operations.{Operation, after_operations}
use Rattle.ec_model.specs.ProtectRow.{protect_operations, storing_operations, locks_set, can_lock, protected, protect_view}
use Rattle.ec_model.specs.Stored.{stored}
use Rattle.ec_model.specs.Table.{Core}
use Rattle.sync_rules.specs.declared.ending.Stop.{Stop}
use Rattle.sync_rules.specs.Parts.{Gives, Then, When, Colds}
use Rattle.sync_rules.specs.Replies.{flags_told, is_locked, unlocked_told}
use Rattle.sync_rules.specs.Requests.{protect_request}
use Rattle.sync_rules.specs.Steps.{Protects, AsksCopy, Unlocks, Frees}
use Rattle.sync_laws.specs.Calm.{Reaches}
use Rattle.sync_laws.proofs.Calmly.{then-reaches, gives-reaches, when-reaches}
use Rattle.sync_laws.proofs.Jumping.{cold-reaches}
use Rattle.sync_laws.proofs.KeptSteps.{copy-quick}
use Rattle.sync_laws.proofs.Looked.{more-reaches}
use Rattle.sync_laws.proofs.Proper.{protect-proper}
use Rattle.sync_laws.proofs.Rows.{protect-row}
use Rattle.sync_laws.proofs.Sealing.{quick-reaches, any-room, same-self, flags-are, flags-small}
use Rattle.sync_laws.proofs.Surveying.{runs_rw}

-- no bit of the mask: nothing is stored, and no lock is set
nothing-asked : (core : Core) → protect_operations core 0 0 ≡ []
nothing-asked core = ap (λ (same : Bool). if same || core.live.ro_now then [] else storing_operations core.flash (stored core.flash)) (same-self (stored core.flash))

or-none : (test : Bool) → (test || false) ≡ test
or-none true = refl
or-none false = refl

no-locks : (core : Core) → locks_set 0 0 core ≡ core
no-locks core = by (can_lock core) where
  same : (ro all : Bool) → ro ≡ core.live.ro_now → all ≡ core.live.all_now → record core { live = record core.live { ro_now = ro; all_now = all } } ≡ core
  same ro all one two = rw (one, two) refl

  by : (locks : Bool) → (if locks then record core { live = record core.live { ro_now = (core.live.ro_now || false) || false; all_now = core.live.all_now || false } } else core) ≡ core
  by true = same ((core.live.ro_now || false) || false) (core.live.all_now || false) (or-none (core.live.ro_now || false) ∙ or-none core.live.ro_now) (or-none core.live.all_now)
  by false = refl

pub only-shown : (core : Core) → protected 0 0 core ≡ core
only-shown core = ap (λ (operations : List Operation). locks_set 0 0 (after_operations operations core)) (nothing-asked core) ∙ no-locks core

-- the protection is shown
pub shows-reach : (setting : Setting) (core : Core) → core.live.erase ≡ None → Reaches setting (Protects setting 0) core (Ok (protect_view core).flags) core 42
shows-reach setting core none =
    subst (λ (after : Core). Reaches setting (Protects setting 0) core (Ok (protect_view after).flags) after 42) (only-shown core)
    (quick-reaches setting (protect_request 0) 12 flags_told core (protected 0 0 core) (flash_protect_say (protect_view (protected 0 0 core)).flags (protect_view (protected 0 0 core)).valid (protect_view (protected 0 0 core)).writable)
    (Ok (protect_view (protected 0 0 core)).flags) 42 (protect-proper setting.bus 0) none (protect-row core (packet_limit setting.bus) 0)
    (flags-are (protect_view (protected 0 0 core)).flags (protect_view (protected 0 0 core)).valid (protect_view (protected 0 0 core)).writable (flags-small (protected 0 0 core))) (omega (arith, any-room setting.bus 16 20)))

-- the lock of the whole flash, among the bits
lock-shown : (ro ro_now all_now pin bad all : Bool) → has_bit 0x04 (bit_if 0x01 ro + bit_if 0x02 ro_now + bit_if 0x04 all_now + bit_if 0x08 pin + bit_if 0x20 bad + bit_if 0x40 all) ≡ all_now
lock-shown true true true true true true = refl
lock-shown true true true true true false = refl
lock-shown true true true true false true = refl
lock-shown true true true true false false = refl
lock-shown true true true false true true = refl
lock-shown true true true false true false = refl
lock-shown true true true false false true = refl
lock-shown true true true false false false = refl
lock-shown true true false true true true = refl
lock-shown true true false true true false = refl
lock-shown true true false true false true = refl
lock-shown true true false true false false = refl
lock-shown true true false false true true = refl
lock-shown true true false false true false = refl
lock-shown true true false false false true = refl
lock-shown true true false false false false = refl
lock-shown true false true true true true = refl
lock-shown true false true true true false = refl
lock-shown true false true true false true = refl
lock-shown true false true true false false = refl
lock-shown true false true false true true = refl
lock-shown true false true false true false = refl
lock-shown true false true false false true = refl
lock-shown true false true false false false = refl
lock-shown true false false true true true = refl
lock-shown true false false true true false = refl
lock-shown true false false true false true = refl
lock-shown true false false true false false = refl
lock-shown true false false false true true = refl
lock-shown true false false false true false = refl
lock-shown true false false false false true = refl
lock-shown true false false false false false = refl
lock-shown false true true true true true = refl
lock-shown false true true true true false = refl
lock-shown false true true true false true = refl
lock-shown false true true true false false = refl
lock-shown false true true false true true = refl
lock-shown false true true false true false = refl
lock-shown false true true false false true = refl
lock-shown false true true false false false = refl
lock-shown false true false true true true = refl
lock-shown false true false true true false = refl
lock-shown false true false true false true = refl
lock-shown false true false true false false = refl
lock-shown false true false false true true = refl
lock-shown false true false false true false = refl
lock-shown false true false false false true = refl
lock-shown false true false false false false = refl
lock-shown false false true true true true = refl
lock-shown false false true true true false = refl
lock-shown false false true true false true = refl
lock-shown false false true true false false = refl
lock-shown false false true false true true = refl
lock-shown false false true false true false = refl
lock-shown false false true false false true = refl
lock-shown false false true false false false = refl
lock-shown false false false true true true = refl
lock-shown false false false true true false = refl
lock-shown false false false true false true = refl
lock-shown false false false true false false = refl
lock-shown false false false false true true = refl
lock-shown false false false false true false = refl
lock-shown false false false false false true = refl
lock-shown false false false false false false = refl

pub locked-shown : (core : Core) → is_locked (protect_view core).flags ≡ core.live.all_now
locked-shown core = lock-shown (stored core.flash).ro core.live.ro_now core.live.all_now core.pin core.live.pstate_bad (stored core.flash).all

-- RW is free to be written
pub record IsWritable (core after : Core) : Type 0 where
  pub flash_is : after.flash ≡ core.flash
  pub pin_is : after.pin ≡ core.pin
  pub none : after.live.erase ≡ None
  pub runs : after.live.copy ≡ Ro
  pub open_ : after.live.all_now ≡ false

pub record CanFree (setting : Setting) (core : Core) : Type 0 where
  pub after : Core
  pub writable : IsWritable core after
  pub frees : Reaches setting (Frees setting) core (Ok tt) after 247

-- a restart, behind which the whole flash is open
unlock-by : (flags : ℕ) (locked : Bool) → is_locked flags ≡ locked → locked ≡ false → unlocked_told flags ≡ Ok tt
unlock-by flags true is free = absurd (cc)
unlock-by flags false is free = rw is refl

unlocks-reach : (setting : Setting) (core : Core) → core.live.erase ≡ None → (booted core.flash core.pin ColdReset false).live.all_now ≡ false → Reaches setting (Unlocks setting) core (Ok tt) (booted core.flash core.pin ColdReset false) (41 + (42 + 0))
unlocks-reach setting core none free =
    let boot = booted core.flash core.pin ColdReset false in
    let flags = (protect_view boot).flags in
    then-reaches setting (Colds setting) (λ reset. Then (Protects setting 0) (λ told. Gives (unlocked_told told))) core boot boot tt (Ok tt) 41 (42 + 0) (cold-reaches setting core none)
    (then-reaches setting (Protects setting 0) (λ told. Gives (unlocked_told told)) boot boot boot flags (Ok tt) 42 0 (shows-reach setting boot refl)
    (subst (λ (result : Result (Unit {0}) Stop). Reaches setting (Gives (unlocked_told flags)) boot result boot 0) (unlock-by flags boot.live.all_now (locked-shown boot) free) (gives-reaches setting (unlocked_told flags) boot)))

free-with : (setting : Setting) (core after : Core) (needs : Bool) (room : ℕ) → core.live.erase ≡ None → (runs_rw core.live.copy || is_locked (protect_view core).flags) ≡ needs → room ≤ 83 → Reaches setting (When needs (Unlocks setting) (Gives (Ok tt))) core (Ok tt) after room →
    Reaches setting (Frees setting) core (Ok tt) after 247
free-with setting core after needs room none is few goes =
    let flags = (protect_view core).flags in
    more-reaches setting (Frees setting) core (Ok tt) after (42 + (122 + room)) 247 (omega (arith, few))
    (then-reaches setting (Protects setting 0) (λ told. Then (AsksCopy setting) (λ runs. When (runs || is_locked told) (Unlocks setting) (Gives (Ok tt)))) core core after flags (Ok tt) 42 (122 + room) (shows-reach setting core none)
    (then-reaches setting (AsksCopy setting) (λ runs. When (runs || is_locked flags) (Unlocks setting) (Gives (Ok tt))) core core after (runs_rw core.live.copy) (Ok tt) 122 room (copy-quick setting core none)
    (when-reaches setting (runs_rw core.live.copy || is_locked flags) needs (Unlocks setting) (Gives (Ok tt)) core (Ok tt) after room is goes)))

free-by : (setting : Setting) (core : Core) (copy : ImageCopy) (locked : Bool) → core.live.copy ≡ copy → core.live.all_now ≡ locked → core.live.erase ≡ None → (booted core.flash core.pin ColdReset false).live.all_now ≡ false → CanFree setting core
free-by setting core Ro false copy_is locked_is none free = record {
  after = core;
  writable = record { flash_is = refl; pin_is = refl; none = none; runs = copy_is; open_ = locked_is };
  frees = free-with setting core core false 0 none (ap (λ (copy : ImageCopy). runs_rw copy || is_locked (protect_view core).flags) copy_is ∙ locked-shown core ∙ locked_is) (omega arith) (gives-reaches setting (Ok tt) core);
}
free-by setting core Ro true copy_is locked_is none free = record {
  after = booted core.flash core.pin ColdReset false;
  writable = record { flash_is = refl; pin_is = refl; none = refl; runs = refl; open_ = free };
  frees = free-with setting core (booted core.flash core.pin ColdReset false) true (41 + (42 + 0)) none (ap (λ (copy : ImageCopy). runs_rw copy || is_locked (protect_view core).flags) copy_is ∙ locked-shown core ∙ locked_is) (omega arith) (unlocks-reach setting core none free);
}
free-by setting core Rw locked copy_is locked_is none free = record {
  after = booted core.flash core.pin ColdReset false;
  writable = record { flash_is = refl; pin_is = refl; none = refl; runs = refl; open_ = free };
  frees = free-with setting core (booted core.flash core.pin ColdReset false) true (41 + (42 + 0)) none (ap (λ (copy : ImageCopy). runs_rw copy || is_locked (protect_view core).flags) copy_is) (omega arith) (unlocks-reach setting core none free);
}

-- from every controller without a pending erase, where the lock is not stored under an asserted pin
pub can-free : (setting : Setting) (core : Core) → core.live.erase ≡ None → boots_all_locked core.flash core.pin false ≡ false → CanFree setting core
can-free setting core none free = free-by setting core core.live.copy core.live.all_now refl refl none free
