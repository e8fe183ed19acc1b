-- The ticks of an erase of the blocks at the flash's end, and what a flash operation keeps of the controller.
use Rattle.std.proofs.Common.{◌≡◌, refl, sym, ap, ◌∙◌, subst, ℕ, zero, suc, ◌+◌, ◌-◌, ◌*◌, ◌≤◌, List, [], ◌∷◌, ◌++◌, length, drop, replicate, Option, Some, None, append_assoc, append-nil, arith}
use Rattle.std.proofs.lemmas.List.{length-append, length-drop, length-replicate, replicate-append-replicate}
use Rattle.std.proofs.Math.Seq.{take-append_seam, drop-append-add}
use Rattle.flash_dev.specs.Flash.{block_size, overwritten, erased}
use Rattle.ec_model.specs.declared.live.EraseJob.{EraseJob}
use Rattle.ec_model.specs.Erasing.{block_erased}
use Rattle.ec_model.specs.Hash.{is_hash_over, without_hash, touched}
use Rattle.ec_model.specs.Ranges.{Range, block_range}
use Rattle.ec_model.specs.Table.{Core}
use Rattle.ec_model.proofs.GuardSteps.{if_cases}
use Rattle.command_laws.specs.Idle.{ticked_by, ticked, after_ticks}
use Rattle.command_laws.proofs.Ticks.{ticked-erase, last-left, more-left}

-- the pin, the image that runs, the locks and the jumps are as they were
pub record Stays (old new : Core) : Type 0 where
  pub pin_is : new.pin ≡ old.pin
  pub copy_is : new.live.copy ≡ old.live.copy
  pub ro_is : new.live.ro_now ≡ old.live.ro_now
  pub all_is : new.live.all_now ≡ old.live.all_now
  pub off_is : new.live.jump_off ≡ old.live.jump_off

pub stays-then : (one two three : Core) → Stays one two → Stays two three → Stays one three
stays-then one two three first second = record {
  pin_is = second.pin_is ∙ first.pin_is;
  copy_is = second.copy_is ∙ first.copy_is;
  ro_is = second.ro_is ∙ first.ro_is;
  all_is = second.all_is ∙ first.all_is;
  off_is = second.off_is ∙ first.off_is;
}

-- an operation on the flash drops a hash over it, and no more
pub record IsTouched (old new : Core) : Type 0 where
  pub stays : Stays old new
  pub erase_is : new.live.erase ≡ old.live.erase

pub touched-is : (range : Range) (core : Core) → IsTouched core (touched range core)
touched-is range core =
    if_cases (IsTouched core) (is_hash_over range core.live.hash) (without_hash core) core
    (λ over. record { stays = record { pin_is = refl; copy_is = refl; ro_is = refl; all_is = refl; off_is = refl }; erase_is = refl })
    (λ apart. record { stays = record { pin_is = refl; copy_is = refl; ro_is = refl; all_is = refl; off_is = refl }; erase_is = refl })

-- a tick of an erase
block-stays : (job : EraseJob) (core : Core) → Stays core (block_erased job core)
block-stays job core =
    let same = (touched-is (block_range job.next) core).stays in
    record { pin_is = same.pin_is; copy_is = same.copy_is; ro_is = same.ro_is; all_is = same.all_is; off_is = same.off_is }

pub ticked-job : (core : Core) (job : EraseJob) → core.live.erase ≡ Some job → ticked core ≡ block_erased job core
ticked-job core job pending = ap (λ (erase : Option EraseJob). ticked_by erase core) pending

-- bytes at the begin of what is behind others are overwritten
blank-front : (front rest : List ℕ) (count : ℕ) → overwritten (length front) (replicate count 0xFF) (front ++ rest) ≡ (front ++ replicate count 0xFF) ++ drop count rest
blank-front front rest count =
    let blank = replicate {A = ℕ} count 0xFF in
    ap (λ (xs : List ℕ). xs ++ blank ++ drop (length front + length blank) (front ++ rest)) (take-append_seam front rest)
    ∙ ap (λ (xs : List ℕ). front ++ blank ++ xs) (ap (λ (n : ℕ). drop (length front + n) (front ++ rest)) (length-replicate count 0xFF) ∙ drop-append-add front rest count)

pub blank-at : (place count : ℕ) (front rest : List ℕ) → length front ≡ place → overwritten place (replicate count 0xFF) (front ++ rest) ≡ (front ++ replicate count 0xFF) ++ drop count rest
blank-at place count front rest is = subst (λ (n : ℕ). overwritten n (replicate count 0xFF) (front ++ rest) ≡ (front ++ replicate count 0xFF) ++ drop count rest) is (blank-front front rest count)

-- a block is erased
block-blank : (count next : ℕ) (front rest : List ℕ) → count ≡ block_size → length front ≡ next * count → erased next (front ++ rest) ≡ (front ++ replicate count 0xFF) ++ drop count rest
block-blank count next front rest is long = subst (λ (n : ℕ). overwritten (next * n) (replicate n 0xFF) (front ++ rest) ≡ (front ++ replicate count 0xFF) ++ drop count rest) is (blank-at (next * count) count front rest long)

-- nothing is behind the last block
none-behind : (count : ℕ) (rest : List ℕ) → length rest ≡ count → drop count rest ≡ []
none-behind count rest long = by (drop count rest) (length-drop count rest ∙ omega (arith, long)) where
  by : (xs : List ℕ) → length xs ≡ 0 → xs ≡ []
  by [] none = refl
  by (x ∷ xs) none = absurd (omega (arith, none))

-- the flash becomes this; nothing is pending, and the pin, the image that runs, the locks and the jumps stay
pub record Becomes (core : Core) (flash : List ℕ) (after : Core) : Type 0 where
  pub stays : Stays core after
  pub none : after.live.erase ≡ None
  pub flash_is : after.flash ≡ flash

-- the last block, and any before it
last-block : (count : ℕ) (core : Core) (job : EraseJob) (front rest : List ℕ) → count ≡ block_size → core.live.erase ≡ Some job → job.left ≡ 1 → length front ≡ job.next * count → length rest ≡ count → core.flash ≡ front ++ rest →
    Becomes core (front ++ replicate count 0xFF) (ticked core)
last-block count core job front rest size pending last at long is =
    let same = ticked-job core job pending in
    record {
      stays = subst (λ (c : Core). Stays core c) (sym same) (block-stays job core);
      none = ticked-erase core job pending ∙ last-left job last;
      flash_is = ap (λ (c : Core). c.flash) same ∙ ap (λ (bytes : List ℕ). erased job.next bytes) is ∙ block-blank count job.next front rest size at ∙ ap (λ (xs : List ℕ). (front ++ replicate count 0xFF) ++ xs) (none-behind count rest long) ∙ append-nil (front ++ replicate count 0xFF);
    }

-- so many blocks, which end the flash
blocks-cleared : (more count : ℕ) (core : Core) (job : EraseJob) (front rest : List ℕ) → count ≡ block_size → core.live.erase ≡ Some job → job.left ≡ suc more → length front ≡ job.next * count → length rest ≡ suc more * count → core.flash ≡ front ++ rest →
    Becomes core (front ++ replicate (suc more * count) 0xFF) (after_ticks (suc more) core)
blocks-cleared zero count core job front rest size pending left at long is =
    let one : 1 * count ≡ count = omega arith in
    subst (λ (n : ℕ). Becomes core (front ++ replicate n 0xFF) (ticked core)) (sym one) (last-block count core job front rest size pending left at (long ∙ one) is)
blocks-cleared (suc more) count core job front rest size pending left at long is =
    let same = ticked-job core job pending in
    let next : EraseJob = record { next = job.next + 1; left = job.left - 1 } in
    let before = front ++ replicate count 0xFF in
    let flash = ap (λ (c : Core). c.flash) same ∙ ap (λ (bytes : List ℕ). erased job.next bytes) is ∙ block-blank count job.next front rest size at in
    let placed : length before ≡ (job.next + 1) * count = length-append front (replicate count 0xFF) ∙ grind (arith, at, length-replicate {A = ℕ} count 0xFF) in
    let behind : length (drop count rest) ≡ suc more * count = length-drop count rest ∙ grind (arith, long) in
    let later = blocks-cleared more count (ticked core) next before (drop count rest) size (ticked-erase core job pending ∙ more-left job (omega (arith, left))) (omega (arith, left)) placed behind flash in
    let joined : before ++ replicate (suc more * count) 0xFF ≡ front ++ replicate (suc (suc more) * count) 0xFF =
    append_assoc front (replicate count 0xFF) (replicate (suc more * count) 0xFF)
    ∙ ap (λ (xs : List ℕ). front ++ xs) (replicate-append-replicate count (suc more * count) 0xFF ∙ ap (λ (n : ℕ). replicate n 0xFF) (grind arith)) in
    record {
      stays = stays-then core (ticked core) (after_ticks (suc more) (ticked core)) (subst (λ (c : Core). Stays core c) (sym same) (block-stays job core)) later.stays;
      none = later.none;
      flash_is = later.flash_is ∙ joined;
    }

-- an erase of the flash's end
pub cleared : (core : Core) (job : EraseJob) (front rest : List ℕ) (left : ℕ) → core.live.erase ≡ Some job → job.left ≡ left → 1 ≤ left → length front ≡ job.next * 4096 → length rest ≡ left * 4096 → core.flash ≡ front ++ rest →
    Becomes core (front ++ replicate (length rest) 0xFF) (after_ticks left core)
cleared core job front rest zero pending is some at long flash = absurd (omega (arith, some))
cleared core job front rest (suc more) pending is some at long flash =
    subst (λ (n : ℕ). Becomes core (front ++ replicate n 0xFF) (after_ticks (suc more) core)) (sym long) (blocks-cleared more 4096 core job front rest refl pending is at long flash)
