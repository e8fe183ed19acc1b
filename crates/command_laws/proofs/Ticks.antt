-- The erase that ticks carry out while no request is served.
use Rattle.std.proofs.Common.{◌≡◌, refl, sym, ap, ◌∙◌, subst, ℕ, zero, suc, ◌+◌, ◌-◌, ◌<◌, ◌≤◌, arith, true, false, nat_le, Option, Some, None}
use Rattle.std.proofs.lemmas.Bool.Decides.{leb_tells}
use Rattle.ec_model.specs.declared.live.EraseJob.{EraseJob}
use Rattle.ec_model.specs.declared.live.HashView.{HashView}
use Rattle.ec_model.specs.declared.live.HashView.TheVariants.{Idle, Busy, Done}
use Rattle.ec_model.specs.Hash.{hash_ticked}
use Rattle.ec_model.specs.Erasing.{job_left, saved_after, block_erased}
use Rattle.ec_model.specs.Table.{Core}
use Rattle.ec_model.proofs.GuardSteps.{if_cases}
use Rattle.command_laws.specs.Idle.{ticked_by, ticked, after_ticks, poll_waits, idled}

-- no erase is pending, and this status is saved
abbrev pub IsIdle : ℕ → Core → Type 0
IsIdle saved core = (core.live.erase ≡ None) × (core.live.saved ≡ saved)

-- a tick of the hash begins no erase and saves no status
pub hash-idle : (hash : HashView) (core : Core) → core.live.erase ≡ None → IsIdle core.live.saved (hash_ticked hash core)
hash-idle Idle core none = (none, refl)
hash-idle (Busy at size left) core none = if_cases (IsIdle core.live.saved) (nat_le left 1) _ _ (λ last. (none, refl)) (λ more. (none, refl))
hash-idle (Done at size digest) core none = (none, refl)

-- a tick where an erase is pending
ticked-job : (core : Core) (job : EraseJob) → core.live.erase ≡ Some job → ticked core ≡ block_erased job core
ticked-job core job pending = ap (λ (erase : Option EraseJob). ticked_by erase core) pending

-- the last block of an erase
pub last-left : (job : EraseJob) → job.left ≡ 1 → job_left job ≡ None
last-left job last = let one : nat_le job.left 1 ≡ true = grind (arith, leb_tells) in rw one refl

-- success is saved at it
last-saved : (job : EraseJob) (saved : ℕ) → job.left ≡ 1 → saved_after job saved ≡ 0
last-saved job saved last = let one : nat_le job.left 1 ≡ true = grind (arith, leb_tells) in rw one refl

-- any other block of an erase
pub more-left : (job : EraseJob) → 1 < job.left → job_left job ≡ Some (record { next = job.next + 1; left = job.left - 1 })
more-left job more = let many : nat_le job.left 1 ≡ false = grind (arith, leb_tells) in rw many refl

-- a tick leaves what is left of the erase
pub ticked-erase : (core : Core) (job : EraseJob) → core.live.erase ≡ Some job → (ticked core).live.erase ≡ job_left job
ticked-erase core job pending = ap (λ (after : Core). after.live.erase) (ticked-job core job pending)

-- a tick saves what its block leaves
ticked-saved : (core : Core) (job : EraseJob) → core.live.erase ≡ Some job → (ticked core).live.saved ≡ saved_after job core.live.saved
ticked-saved core job pending = ap (λ (after : Core). after.live.saved) (ticked-job core job pending)

-- as many ticks as an erase has blocks end it
ticks-over : (ticks : ℕ) (core : Core) (job : EraseJob) → core.live.erase ≡ Some job → job.left ≡ suc ticks → IsIdle 0 (after_ticks (suc ticks) core)
ticks-over zero core job pending last =
    (ticked-erase core job pending ∙ last-left job last, ticked-saved core job pending ∙ last-saved job core.live.saved last)
ticks-over (suc ticks) core job pending many =
    ticks-over ticks (ticked core) (record { next = job.next + 1; left = job.left - 1 }) (ticked-erase core job pending ∙ more-left job (omega (arith, many))) (omega (arith, many))

-- an erase of so many blocks is over behind as many ticks
blocks-over : (left : ℕ) (core : Core) (job : EraseJob) → core.live.erase ≡ Some job → job.left ≡ left → 1 ≤ left → IsIdle 0 (after_ticks left core)
blocks-over zero core job pending same some = absurd (omega (arith, some))
blocks-over (suc ticks) core job pending same some = ticks-over ticks core job pending same

-- what a poll leaves where an erase of some blocks is pending: none is pending, and success is saved
pub idled-erase : (core : Core) (job : EraseJob) → core.live.erase ≡ Some job → 1 ≤ job.left → ((idled core).live.erase ≡ None) × ((idled core).live.saved ≡ 0)
idled-erase core job pending some =
    subst (λ (erase : Option EraseJob). IsIdle 0 (after_ticks (poll_waits erase) core)) (sym pending) (blocks-over job.left core job pending refl some)

-- what a poll leaves where none is pending: still none is, and the saved status stays
pub idled-none : (core : Core) → core.live.erase ≡ None → ((idled core).live.erase ≡ None) × ((idled core).live.saved ≡ core.live.saved)
idled-none core none =
    let waited : IsIdle core.live.saved (ticked core) = subst (λ (erase : Option EraseJob). IsIdle core.live.saved (ticked_by erase core)) (sym none) (hash-idle core.live.hash core none) in
    subst (λ (erase : Option EraseJob). IsIdle core.live.saved (after_ticks (poll_waits erase) core)) (sym none) waited

-- behind fewer ticks than it has blocks, an erase of the other blocks is pending
pub ticks-pending : (ticks : ℕ) (core : Core) (job : EraseJob) → core.live.erase ≡ Some job → ticks < job.left → (later : EraseJob) × ((after_ticks ticks core).live.erase ≡ Some later) × (later.left + ticks ≡ job.left)
ticks-pending zero core job pending fewer = (job, pending, omega arith)
ticks-pending (suc ticks) core job pending fewer =
    let rest = ticks-pending ticks (ticked core) (record { next = job.next + 1; left = job.left - 1 }) (ticked-erase core job pending ∙ more-left job (omega (arith, fewer))) (omega (arith, fewer)) in
    (rest.0, rest.1, omega (arith, rest.2, fewer))
