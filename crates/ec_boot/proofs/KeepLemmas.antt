-- What each call keeps of guarded RO.
use Rattle.std.proofs.Common.{◌≡◌, refl, sym, ap, ◌∙◌, subst, ℕ, suc, ◌/◌, ◌≤◌, Bool, true, false, ◌&&◌, ◌||◌, List, length, take, arith, inl, inr, Option, Some, None, Result, Ok, Err}
use Rattle.std.specs.Prelude.{option_map, IfSome, IsFalse}
use Rattle.std.proofs.lemmas.List.{take-take}
use Rattle.std.proofs.lemmas.Bool.Decides.{nat_tests}
use Rattle.flash_dev.specs.Flash.{Torn}
use Rattle.flash_dev.specs.Told.{Changes}
use Rattle.flash_dev.specs.declared.device.DevErr.{DevErr}
use Rattle.flash_dev.specs.declared.device.DevErr.TheVariants.{Failed as FailedErr, PowerLost}
use Rattle.flash_dev.specs.declared.hurt.Hurt.{Hurt}
use Rattle.flash_dev.specs.declared.hurt.Hurt.TheVariants.{Failed, Cut}
use Rattle.flash_dev.specs.View.{DeviceView}
use Rattle.flash_ctl.specs.declared.CtlErr.{CtlErr}
use Rattle.flash_ctl.specs.declared.CtlErr.TheVariants.{Locked, Device}
use Rattle.ec_types.specs.declared.bus.BusKind.TheVariants.{Lpc}
use Rattle.ec_types.specs.declared.reset.ResetCause.{ResetCause}
use Rattle.ec_model.specs.declared.live.AtBoot.{AtBoot}
use Rattle.ec_model.specs.declared.live.ProtectView.{ProtectView}
use Rattle.ec_model.specs.Ranges.{is_flash_size, overlaps, wp_ro_range}
use Rattle.ec_model.specs.Guarded.{guarded_bytes}
use Rattle.ec_model.specs.Stored.{stored}
use Rattle.ec_model.specs.Bus.{fresh_bus}
use Rattle.ec_model.specs.Table.{Core}
use Rattle.ec_model.specs.Hash.{touched}
use Rattle.ec_model.specs.Boot.{booted}
use Rattle.ec_model.specs.Operations.{Operation, operation_range}
use Rattle.ec_model.specs.ProtectRow.{protect_operations}
use Rattle.ec_model.proofs.GuardLemmas.{Leaves, AllAbove, leaves-stopped}
use Rattle.ec_model.proofs.GuardRows.{Keeps, keeps-self, same-touched, same-touched_by, protect-keeps}
use Rattle.ec_model.proofs.GuardStep.{size_bound, stored-leaves}
use Rattle.ec_model.proofs.GuardWork.{protect-above}
use Rattle.ec_model.proofs.RunLaws.{guarded_bytes-leaves}
use Rattle.ec_boot.specs.States.{RunView, OffView, core_at, told_core, Follows, IsDone, IsOperated, is_lock_blocked}
use Rattle.ec_boot.specs.Ran.{IsStopped, IsProtected}
use Rattle.ec_boot.specs.Guarding.{KeepsGuard, RaisesGuard, LowersGuard}

-- the guard stays where the pin, the lock and the guarded bytes do
pub keeps-guard : (before after : Core) → is_flash_size (length before.flash) ≡ true → Keeps before after → KeepsGuard before after
keeps-guard before after allowed keeps =
    record {
      guarded = λ guarded bus.
          let was = guarded bus in
          record {
            pin = keeps.pin ∙ was.pin;
            stored = ap (λ (bits : AtBoot). bits.ro) (stored-leaves before.flash after.flash (size_bound (length before.flash) allowed) (keeps.flash was.locked)) ∙ was.stored;
            locked = keeps.locked was.locked;
          };
      bytes = λ guarded. guarded_bytes-leaves before.flash after.flash (keeps.flash (guarded (fresh_bus Lpc)).locked);
    }

-- an operation that did not end keeps them, where all operations are above them while RO is locked
pub stopped-keeps : (hurt : Hurt) (operations : List Operation) (device changed : DeviceView) (before after : Core) → (before.live.ro_now ≡ true → AllAbove (length before.flash / 2) (length before.flash) operations) →
    IsStopped hurt operations device changed before after → Keeps before after
stopped-keeps hurt operations device changed before after above stopped =
    let same = same-touched_by (take (suc stopped.place) operations) before in
    record {
      pin = ap (λ (c : Core). c.pin) stopped.leaves ∙ same.pin;
      locked = λ locked. ap (λ (c : Core). c.live.ro_now) stopped.leaves ∙ same.ro_now ∙ locked;
      flash = λ locked. leaves-stopped (length before.flash / 2) stopped.place operations before.flash after.flash (above locked) stopped.stops;
    }

-- FLASH_PROTECT
protected-keeps : (mask flags : ℕ) (device changed : DeviceView) (before after : Core) (result : Result ProtectView DevErr) → IsProtected mask flags device changed before after result → Keeps before after
protected-keeps mask flags device changed before after (Ok view) done = rw done.0 (protect-keeps before mask flags)
protected-keeps mask flags device changed before after (Err FailedErr) (inl same) = rw same.0 (keeps-self before)
protected-keeps mask flags device changed before after (Err FailedErr) (inr stopped) =
    stopped-keeps Failed (protect_operations before mask flags) device changed before after (protect-above before mask flags) stopped
protected-keeps mask flags device changed before after (Err PowerLost) stopped =
    stopped-keeps Cut (protect_operations before mask flags) device changed before after (protect-above before mask flags) stopped

-- a range that no lock covers, while RO is locked, is above what is guarded
free-above : (size at n : ℕ) (all : Bool) → 1 ≤ n → ((true && overlaps (record { at = at; size = n }) (wp_ro_range size)) || all) ≡ false → size / 2 ≤ at
free-above size at n false some free = grind (arith, nat_tests)
free-above size at n true some free = grind (arith, nat_tests)

-- a change of such a range
done-keeps : (at n : ℕ) (before after : Core) (flash : List ℕ) → 1 ≤ n → Torn at n before.flash flash → after ≡ touched (record { at = at; size = n }) (record before { flash = flash }) →
    IsFalse (((before.live.ro_now && overlaps (record { at = at; size = n }) (wp_ro_range (length before.flash))) || before.live.all_now)) → Keeps before after
done-keeps at n before after flash some torn same free =
    let was = same-touched (record { at = at; size = n }) (record before { flash = flash }) in
    record {
      pin = ap (λ (c : Core). c.pin) same ∙ was.pin;
      locked = λ locked. ap (λ (c : Core). c.live.ro_now) same ∙ was.ro_now ∙ locked;
      flash = λ locked.
          let half : ℕ = length before.flash / 2 in
          let above : half ≤ at = free-above (length before.flash) at n before.live.all_now some
          (subst (λ (ro : Bool). ((ro && overlaps (record { at = at; size = n }) (wp_ro_range (length before.flash))) || before.live.all_now) ≡ false) locked free) in
          subst (λ (xs : List ℕ). Leaves half before.flash xs) (sym (ap (λ (c : Core). c.flash) same ∙ was.flash))
          (record { bytes = sym (take-take half at flash above) ∙ ap (take half) torn.before ∙ take-take half at before.flash above; size = torn.same_length });
    }

-- from a relation that is told to the guard
pub guard-told : (size : ℕ) (R : Core → Core → Type 0) (old new : RunView) → is_flash_size size ≡ true → IfSome old.device.held (λ flash. length flash ≡ size) →
    ((before after : Core) → R before after → Keeps before after) → Changes R (told_core old) (told_core new) → Changes KeepsGuard (told_core old) (told_core new)
guard-told size R old new allowed sized keeps told = by old.device.held new.device.held sized told where
  by : (o p : Option (List ℕ)) → IfSome o (λ flash. length flash ≡ size) → Changes R (option_map (core_at old) o) (option_map (core_at new) p) → Changes KeepsGuard (option_map (core_at old) o) (option_map (core_at new) p)
  by None None here told = tt
  by None (Some g) here told = told
  by (Some f) None here told = told
  by (Some f) (Some g) here told = keeps-guard (core_at old f) (core_at new g) (rw here allowed) (keeps (core_at old f) (core_at new g) told)

pub protect-guard : (size mask flags : ℕ) (old new : RunView) (result : Result ProtectView DevErr) → is_flash_size size ≡ true → IfSome old.device.held (λ flash. length flash ≡ size) →
    Changes (λ before after. IsProtected mask flags old.device new.device before after result) (told_core old) (told_core new) → Changes KeepsGuard (told_core old) (told_core new)
protect-guard size mask flags old new result allowed sized told =
    guard-told size (λ before after. IsProtected mask flags old.device new.device before after result) old new allowed sized
    (λ before after done. protected-keeps mask flags old.device new.device before after result done) told

-- nothing changed but counts
pub guard-same : (old new : RunView) → told_core new ≡ told_core old → Changes KeepsGuard (told_core old) (told_core new)
guard-same old new same = rw same (by (told_core old)) where
  by : (o : Option Core) → Changes KeepsGuard o o
  by None = tt
  by (Some core) = record { guarded = λ guarded. guarded; bytes = λ guarded. refl }

operated-guard : {T : Type 0} (operation : Operation) (size : ℕ) (old new : RunView) (result : Result T DevErr) → is_flash_size size ≡ true → size ≡ old.device.extent → IfSome old.device.held (λ flash. length flash ≡ size) → 1 ≤ (operation_range operation).size →
    IsFalse (is_lock_blocked old.device.extent old.live (operation_range operation)) → IsDone operation old new result → Changes KeepsGuard (told_core old) (told_core new)
operated-guard {T} operation size old new result allowed same sized some free done = by old.device.held new.device.held sized done.change.outside where
  by : (o p : Option (List ℕ)) → IfSome o (λ flash. length flash ≡ size) → Changes (Torn (operation_range operation).at (operation_range operation).size) o p → Changes KeepsGuard (option_map (core_at old) o) (option_map (core_at new) p)
  by None None here torn = tt
  by None (Some g) here torn = torn
  by (Some f) None here torn = torn
  by (Some f) (Some g) here torn =
      keeps-guard (core_at old f) (core_at new g) (rw here allowed)
      (done-keeps (operation_range operation).at (operation_range operation).size (core_at old f) (core_at new g) g some torn (done.rest g) (rw (here ∙ same) free))

-- an operation, refused or not
pub change-guard : {T : Type 0} (operation : Operation) (size : ℕ) (old new : RunView) (result : Result T CtlErr) → is_flash_size size ≡ true → size ≡ old.device.extent → IfSome old.device.held (λ flash. length flash ≡ size) → 1 ≤ (operation_range operation).size →
    IsOperated operation old new result → Changes KeepsGuard (told_core old) (told_core new)
change-guard {T} operation size old new (Ok x) allowed same sized some operated = operated-guard {T = T} operation size old new (Ok x) allowed same sized some operated.0 operated.1
change-guard operation size old new (Err Locked) allowed same sized some operated = guard-same old new (ap told_core operated.1)
change-guard {T} operation size old new (Err (Device error)) allowed same sized some operated = operated-guard {T = T} operation size old new (Err error) allowed same sized some operated.0 operated.1

or-true : (a b : Bool) → a ≡ true → (a || b) ≡ true
or-true a b holds = rw holds refl

both-true : (pin ro bad : Bool) → pin ≡ true → ro ≡ true → (pin && (ro || bad)) ≡ true
both-true pin ro bad first second = rw first (or-true ro bad second)

same-core : (a b : Core) (o : Option Core) → o ≡ Some a → o ≡ Some b → a ≡ b
same-core a b o first second = cc

-- a boot locks what was guarded
pub reset-guard : (cause : ResetCause) (bad : Bool) (old new : RunView) → told_core new ≡ option_map (λ flash. booted flash old.pin cause bad) old.device.held → Changes KeepsGuard (told_core old) (told_core new)
reset-guard cause bad old new same = by old.device.held (told_core new) same where
  by : (o : Option (List ℕ)) (c : Option Core) → c ≡ option_map (λ flash. booted flash old.pin cause bad) o → Changes KeepsGuard (option_map (core_at old) o) c
  by None None same = tt
  by None (Some core) same = cc
  by (Some f) None same = cc
  by (Some f) (Some core) same =
      subst (KeepsGuard (core_at old f)) (sym (same-core core (booted f old.pin cause bad) (Some core) refl same))
      (record {
        guarded = λ guarded bus. let was = guarded bus in record { pin = was.pin; stored = was.stored; locked = both-true old.pin (stored f).ro bad was.pin was.stored };
        bytes = λ guarded. refl;
      })

pub power-guard : (cause : ResetCause) (bad pin : Bool) (held : Option (List ℕ)) (new : RunView) → told_core new ≡ option_map (λ flash. booted flash pin cause bad) held → Follows (RaisesGuard pin) held (told_core new)
power-guard cause bad pin held new same = by held (told_core new) same where
  by : (o : Option (List ℕ)) (c : Option Core) → c ≡ option_map (λ flash. booted flash pin cause bad) o → Follows (RaisesGuard pin) o c
  by None None same = tt
  by None (Some core) same = cc
  by (Some f) None same = cc
  by (Some f) (Some core) same =
      subst (RaisesGuard pin f) (sym (same-core core (booted f pin cause bad) (Some core) refl same))
      (record {
        guarded = λ guarded bus. let was = guarded Lpc in record { pin = was.pin; stored = was.stored; locked = both-true pin (stored f).ro bad was.pin was.stored };
        bytes = refl;
      })

-- power goes
pub cut-guard : (run : RunView) (off : OffView) → off.device ≡ run.device → Follows LowersGuard (told_core run) off.device.held
cut-guard run off same = rw same (by run.device.held) where
  by : (o : Option (List ℕ)) → Follows LowersGuard (option_map (core_at run) o) o
  by None = tt
  by (Some f) =
      record {
        guarded = λ guarded kind. let was = guarded (fresh_bus kind) in record { pin = was.pin; stored = was.stored; locked = refl };
        bytes = λ guarded. refl;
      }

-- the pin comes
pub pin-guard : (old new : RunView) (on : Bool) → on ≡ true → new ≡ record old { pin = on } → Changes KeepsGuard (told_core old) (told_core new)
pin-guard old new on asserted same = rw same (by old.device.held) where
  by : (o : Option (List ℕ)) → Changes KeepsGuard (option_map (core_at old) o) (option_map (core_at (record old { pin = on })) o)
  by None = tt
  by (Some f) =
      record {
        guarded = λ guarded bus. let was = guarded bus in record { pin = asserted; stored = was.stored; locked = was.locked };
        bytes = λ guarded. refl;
      }

-- neither the flash, nor the pin, nor RO's lock changed
pub guard-kept : (old new : RunView) → new.device.held ≡ old.device.held → new.pin ≡ old.pin → new.live.ro_now ≡ old.live.ro_now → Changes KeepsGuard (told_core old) (told_core new)
guard-kept old new held pin locked = by old.device.held new.device.held held where
  by : (o p : Option (List ℕ)) → p ≡ o → Changes KeepsGuard (option_map (core_at old) o) (option_map (core_at new) p)
  by None None same = tt
  by None (Some g) same = cc
  by (Some f) None same = cc
  by (Some f) (Some g) same =
      let flash : g ≡ f = cc in
      record {
        guarded = λ guarded bus. let was = guarded bus in record { pin = pin ∙ was.pin; stored = ap (λ (bytes : List ℕ). (stored bytes).ro) flash ∙ was.stored; locked = locked ∙ was.locked };
        bytes = λ guarded. ap guarded_bytes flash;
      }
