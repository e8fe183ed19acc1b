-- What a tick does to an erase that is pending.
use Rattle.std.proofs.Common.{◌≡◌, refl, ap, ◌∙◌, subst, ℕ, ◌+◌, ◌*◌, ◌≤◌, ◌<◌, Bool, true, false, ◌&&◌, ◌||◌, nat_le, List, [], ◌∷◌, length, arith, Option, Some, None, Result, Ok, Err}
use Rattle.std.specs.Prelude.{option_map, IfSome}
use Rattle.std.proofs.lemmas.Bool.Decides.{nat_tests}
use Rattle.flash_dev.specs.Flash.{block_size, Torn}
use Rattle.flash_dev.specs.Told.{Changes}
use Rattle.flash_dev.specs.declared.device.DevErr.{DevErr}
use Rattle.flash_ctl.specs.Locks.{CtlView, is_range_locked, IsControlled}
use Rattle.flash_ctl.specs.declared.CtlErr.{CtlErr}
use Rattle.ec_model.specs.declared.live.Live.{Live}
use Rattle.ec_model.specs.declared.live.EraseJob.{EraseJob}
use Rattle.ec_model.specs.Ranges.{overlaps, copy_range, wp_ro_range, blocks_range, block_range}
use Rattle.ec_model.specs.Table.{Core, IsErasable}
use Rattle.ec_model.specs.Operations.{Erase, operated}
use Rattle.ec_model.specs.Work.{EraseNext}
use Rattle.flash_dev.specs.Counts.{Rose}
use Rattle.flash_dev.specs.Cuts.{CutFalls}
use Rattle.flash_dev.specs.Costs.{hurt_by}
use Rattle.flash_dev.specs.Device.{IsChange}
use Rattle.flash_dev.specs.declared.hurt.Hurt.TheVariants.{Whole}
use Rattle.flash_dev.proofs.Accounting.{account-change}
use Rattle.ec_model.specs.Erasing.{with_job, job_left, saved_after}
use Rattle.ec_model.specs.Hash.{touched}
use Rattle.ec_model.proofs.ValidEvents.{left-erasable}
use Rattle.vboot_hash.specs.Hashing.{HashState}
use Rattle.ec_boot.specs.declared.lasting.Lasting.{Lasting}
use Rattle.ec_boot.specs.States.{RunView, core_at, told_core}
use Rattle.ec_boot.specs.Shared.{live_of, run_by, IsOn, Touches, IsTouchedBy}
use Rattle.ec_boot.specs.Ticked.{IsTicked}
use Rattle.ec_boot.specs.Guarding.{KeepsGuard}
use Rattle.ec_boot.proofs.HashLemmas.{touched-state}
use Rattle.ec_boot.proofs.OperatedLemmas.{blocked-same, operated as is-operated, on-operated}
use Rattle.ec_boot.proofs.KeepLemmas.{change-guard}
use Rattle.ec_model.proofs.GuardSteps.{if_cases}

-- a part of a range that is free is free
part-free : (size at n part_at m : ℕ) (ro all : Bool) → at ≤ part_at → part_at + m ≤ at + n →
    ((ro && overlaps (record { at = at; size = n }) (wp_ro_range size)) || all) ≡ false →
    ((ro && overlaps (record { at = part_at; size = m }) (wp_ro_range size)) || all) ≡ false
part-free size at n part_at m true false above below free = grind (arith, nat_tests)
part-free size at n part_at m true true above below free = grind (arith, nat_tests)
part-free size at n part_at m false all above below free = free

-- what is not blocked is not locked
lock-free : (copied ro over all : Bool) → (copied || (ro && over) || all) ≡ false → ((ro && over) || all) ≡ false
lock-free true true over all free = cc
lock-free true false over all free = cc
lock-free false ro over all free = free

-- the erase that is pending may go on
pending-erasable : (ctl : CtlView) (pin : Bool) (lasting : Lasting) (hash : HashState) (job : EraseJob) → IsOn ctl pin lasting hash → lasting.erase ≡ Some job → IsErasable ctl.device.extent (live_of lasting hash.shown) (Some job)
pending-erasable ctl pin lasting hash job is pending = subst (IsErasable ctl.device.extent (live_of lasting hash.shown)) pending is.valid.erase

-- its next block exists
pub next-inside : (ctl : CtlView) (pin : Bool) (lasting : Lasting) (hash : HashState) (job : EraseJob) → IsOn ctl pin lasting hash → lasting.erase ≡ Some job → job.next * block_size + block_size ≤ ctl.device.extent
next-inside ctl pin lasting hash job is pending =
    let erasable = pending-erasable ctl pin lasting hash job is pending in
    let some : 1 ≤ job.left = erasable.0 in
    let inside : (job.next + job.left) * 4096 ≤ ctl.device.extent = erasable.1 in
    omega arith

-- its next block is not locked
pub next-unlocked : (ctl : CtlView) (pin : Bool) (lasting : Lasting) (hash : HashState) (job : EraseJob) → IsOn ctl pin lasting hash → lasting.erase ≡ Some job → is_range_locked (job.next * block_size) block_size ctl.locks ≡ false
next-unlocked ctl pin lasting hash job is pending =
    let live : Live = live_of lasting hash.shown in
    let erasable = pending-erasable ctl pin lasting hash job is pending in
    let some : 1 ≤ job.left = erasable.0 in
    let inside : (job.next + job.left) * 4096 ≤ ctl.device.extent = erasable.1 in
    let whole = lock-free (overlaps (blocks_range job.next job.left) (copy_range live.copy ctl.device.extent)) live.ro_now (overlaps (blocks_range job.next job.left) (wp_ro_range ctl.device.extent)) live.all_now erasable.2 in
    blocked-same (job.next * 4096) 4096 ctl pin lasting hash is (omega arith) (omega arith)
    ∙ part-free ctl.device.extent (job.next * 4096) (job.left * 4096) (job.next * 4096) 4096 live.ro_now live.all_now (omega arith) (omega arith) whole

-- what lasts, with another erase and saved status
abbrev pub job_lasting : Option EraseJob → ℕ → Lasting → Lasting
job_lasting job saved lasting = record lasting { erase = job; saved = saved }

-- another erase that may go on is valid
pub job-on : (ctl : CtlView) (pin : Bool) (lasting : Lasting) (hash : HashState) (job : Option EraseJob) (saved : ℕ) → IsOn ctl pin lasting hash → IsErasable ctl.device.extent (live_of lasting hash.shown) job → saved < 65536 → IsOn ctl pin (job_lasting job saved lasting) hash
job-on ctl pin lasting hash job saved is erasable small =
    record {
      size = is.size;
      valid = record { locks = is.valid.locks; all_with_ro = is.valid.all_with_ro; jumped = is.valid.jumped; erase = same job erasable; hash = is.valid.hash; saved = small };
      meant = is.meant;
    } where
      same : (job : Option EraseJob) → IsErasable ctl.device.extent (live_of lasting hash.shown) job → IsErasable ctl.device.extent (live_of (job_lasting job saved lasting) hash.shown) job
      same None erasable = tt
      same (Some other) erasable = erasable

-- what is left of an erase may go on
pub left-on : (ctl : CtlView) (pin : Bool) (lasting : Lasting) (hash : HashState) (job : EraseJob) → IsOn ctl pin lasting hash → lasting.erase ≡ Some job → IsErasable ctl.device.extent (live_of lasting hash.shown) (job_left job)
left-on ctl pin lasting hash job is pending = left-erasable ctl.device.extent (live_of lasting hash.shown) job (pending-erasable ctl pin lasting hash job is pending)

-- the next block was done
pub done-told : (T : Type 0) (x : T) (job : EraseJob) (ctl after : CtlView) (pin : Bool) (lasting : Lasting) (hash later : HashState) → Touches (block_range job.next) hash later → IsChange {T = T} (Erase job.next) ctl.device after.device (Ok x) →
    Changes (λ before behind. IsTicked {T = T} (EraseNext job) ctl.device after.device before behind (Ok x)) (told_core (run_by ctl pin lasting hash)) (told_core (run_by after pin (job_lasting (job_left job) (saved_after job lasting.saved) lasting) later))
done-told T x job ctl after pin lasting hash later touches change = by ctl.device.held after.device.held change.done change.falls where
  by : (o p : Option (List ℕ)) → Changes (λ before behind. behind ≡ operated (Erase job.next) before) o p → Changes (CutFalls (Rose ctl.device.faults after.device.faults) ctl.device.armed 1 Whole (Erase job.next ∷ [])) o p →
      Changes (λ before behind. IsTicked {T = T} (EraseNext job) ctl.device after.device before behind (Ok x)) (option_map (core_at (run_by ctl pin lasting hash)) o) (option_map (core_at (run_by after pin (job_lasting (job_left job) (saved_after job lasting.saved) lasting) later)) p)
  by None None here falls = tt
  by None (Some g) here falls = here
  by (Some f) None here falls = here
  by (Some f) (Some g) here falls =
      let before : Core = core_at (run_by ctl pin lasting hash) f in (
        ap (λ (core : Core). with_job (job_left job) (saved_after job lasting.saved) (record core { flash = g })) (touched-state (block_range job.next) before hash later touches)
            ∙ ap (λ (flash : List ℕ). with_job (job_left job) (saved_after job lasting.saved) (record (touched (block_range job.next) before) { flash = flash })) here,
        account-change (Erase job.next) ctl.device after.device (Ok x) f g change falls,
      )

-- it failed, or was cut
pub failed-told : (T : Type 0) (error : DevErr) (job : EraseJob) (ctl after : CtlView) (pin : Bool) (lasting : Lasting) (hash later : HashState) → Touches (block_range job.next) hash later → IsChange {T = T} (Erase job.next) ctl.device after.device (Err error) →
    Changes (λ before behind. IsTicked {T = T} (EraseNext job) ctl.device after.device before behind (Err error)) (told_core (run_by ctl pin lasting hash)) (told_core (run_by after pin (job_lasting None 2 lasting) later))
failed-told T error job ctl after pin lasting hash later touches change = by ctl.device.held after.device.held change.outside change.falls where
  by : (o p : Option (List ℕ)) → Changes (Torn (job.next * block_size) block_size) o p → Changes (CutFalls (Rose ctl.device.faults after.device.faults) ctl.device.armed 1 (hurt_by error) (Erase job.next ∷ [])) o p →
      Changes (λ before behind. IsTicked {T = T} (EraseNext job) ctl.device after.device before behind (Err error)) (option_map (core_at (run_by ctl pin lasting hash)) o) (option_map (core_at (run_by after pin (job_lasting None 2 lasting) later)) p)
  by None None here falls = tt
  by None (Some g) here falls = here
  by (Some f) None here falls = here
  by (Some f) (Some g) here falls =
      let before : Core = core_at (run_by ctl pin lasting hash) f in (
        record { stopped = Erase job.next; is_there = refl; torn = here },
        ap (λ (core : Core). with_job None 2 (record core { flash = g })) (touched-state (block_range job.next) before hash later touches),
        account-change {T = T} (Erase job.next) ctl.device after.device (Err error) f g change falls,
      )

-- what holds of each controller holds behind the next block
pub erased-on : {T : Type 0} (job : EraseJob) (ctl after : CtlView) (pin : Bool) (lasting : Lasting) (hash later : HashState) (result : Result T CtlErr) (left : Option EraseJob) (saved : ℕ) → IsOn ctl pin lasting hash → lasting.erase ≡ Some job →
    IsControlled (Erase job.next) ctl after result → IsTouchedBy result (block_range job.next) hash later → left ≡ job_left job → saved ≡ saved_after job lasting.saved → IsOn after pin (job_lasting left saved lasting) later
erased-on job ctl after pin lasting hash later result left saved is pending controlled touches left_is saved_is =
    let middle = on-operated (Erase job.next) ctl after pin lasting hash later result is controlled touches in
    job-on after pin lasting later left saved middle (rw left_is (left-on after pin lasting later job middle pending))
    (rw saved_is (if_cases (λ (status : ℕ). status < 65536) (nat_le job.left 1) 0 lasting.saved (λ last. omega arith) (λ more. is.valid.saved)))

pub failed-on : {T : Type 0} (job : EraseJob) (ctl after : CtlView) (pin : Bool) (lasting : Lasting) (hash later : HashState) (result : Result T CtlErr) → IsOn ctl pin lasting hash →
    IsControlled (Erase job.next) ctl after result → IsTouchedBy result (block_range job.next) hash later → IsOn after pin (job_lasting None 2 lasting) later
failed-on job ctl after pin lasting hash later result is controlled touches =
    job-on after pin lasting later None 2 (on-operated (Erase job.next) ctl after pin lasting hash later result is controlled touches) tt (omega arith)

-- such a change of a controller keeps the guard
guard-job : (old middle : RunView) (job : Option EraseJob) (saved : ℕ) → Changes KeepsGuard (told_core old) (told_core middle) →
    Changes KeepsGuard (told_core old) (told_core (record middle { live = record middle.live { erase = job; saved = saved } }))
guard-job old middle job saved kept = by (told_core old) middle.device.held kept where
  after : RunView
  after = record middle { live = record middle.live { erase = job; saved = saved } }

  by : (o : Option Core) (p : Option (List ℕ)) → Changes KeepsGuard o (option_map (core_at middle) p) → Changes KeepsGuard o (option_map (core_at after) p)
  by None None here = tt
  by None (Some g) here = here
  by (Some core) None here = here
  by (Some core) (Some g) here =
      record {
        guarded = λ guarded bus. let is = here.guarded guarded bus in record { pin = is.pin; stored = is.stored; locked = is.locked };
        bytes = here.bytes;
      }

-- the next block of an erase leaves guarded RO as it is
pub erase-guard : {T : Type 0} (job : EraseJob) (ctl after : CtlView) (pin : Bool) (lasting : Lasting) (hash later : HashState) (result : Result T CtlErr) (left : Option EraseJob) (saved : ℕ) → IsOn ctl pin lasting hash → lasting.erase ≡ Some job →
    IfSome ctl.device.held (λ flash. length flash ≡ ctl.device.extent) → IsControlled (Erase job.next) ctl after result → IsTouchedBy result (block_range job.next) hash later →
    Changes KeepsGuard (told_core (run_by ctl pin lasting hash)) (told_core (run_by after pin (job_lasting left saved lasting) later))
erase-guard job ctl after pin lasting hash later result left saved is pending sized controlled touches =
    let old : RunView = run_by ctl pin lasting hash in
    let middle : RunView = run_by after pin lasting later in
    guard-job old middle left saved
    (change-guard (Erase job.next) ctl.device.extent old middle result is.size refl sized (omega arith)
    (is-operated (Erase job.next) ctl after pin lasting hash later result is (omega arith) (next-inside ctl pin lasting hash job is pending) controlled touches))
