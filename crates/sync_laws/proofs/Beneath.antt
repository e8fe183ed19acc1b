-- What a pending erase leaves of a flash: RW, where it has no block there, and no lock of the whole flash, where none was stored.
use Rattle.std.proofs.Common.{◌≡◌, refl, sym, ap, ◌∙◌, subst, ℕ, zero, suc, ◌+◌, ◌-◌, ◌*◌, ◌/◌, ◌<◌, ◌≤◌, Bool, true, false, nat_le, if◌then◌else◌, List, ◌++◌, length, take, drop, replicate, Option, Some, None, append_assoc, arith}
use Rattle.std.specs.Prelude.{⊤}
use Rattle.std.proofs.lemmas.Bool.Decides.{leb_tells}
use Rattle.std.proofs.lemmas.List.{length-replicate, length-take-le, take-append-drop, drop-drop, drop_at}
use Rattle.flash_dev.specs.Flash.{block_size, overwritten, erased, Torn}
use Rattle.flash_dev.proofs.Overwriting.{torn-overwritten}
use Rattle.ec_model.specs.declared.live.EraseJob.{EraseJob}
use Rattle.ec_model.specs.declared.live.HashView.{HashView}
use Rattle.ec_model.specs.declared.live.HashView.TheVariants.{Idle, Busy, Done}
use Rattle.ec_model.specs.Hash.{hash_ticked}
use Rattle.ec_model.specs.Stored.{no_bits, stored_in, stored}
use Rattle.ec_model.specs.Table.{Core, IsErasable}
use Rattle.ec_model.proofs.GuardSteps.{if_cases}
use Rattle.ec_model.proofs.StoredLemmas.{take-drop-take}
use Rattle.ec_model.proofs.ValidRows.{IsCoreValid}
use Rattle.command_laws.specs.Idle.{ticked_by, ticked, after_ticks}
use Rattle.command_laws.proofs.Ticks.{hash-idle, ticked-erase}
use Rattle.sync_laws.proofs.Clearing.{blank-at, ticked-job}
use Rattle.sync_laws.proofs.Pending.{ticks-valid}
use Rattle.sync_laws.proofs.Rounding.{stored-before}
use Rattle.sync_laws.proofs.Writable.{IsHalved, halved}

-- an erase changes its block alone
block-torn : (count next : ℕ) (flash : List ℕ) → count ≡ block_size → next * count + count ≤ length flash → Torn (next * count) count flash (erased next flash)
block-torn count next flash is inside =
    subst (λ (n : ℕ). Torn (next * count) count flash (overwritten (next * n) (replicate n 0xFF) flash)) is (torn-overwritten (next * count) count (replicate count 0xFF) flash (length-replicate count 0xFF) inside)

-- what is behind the block, and before it
behind-same : (at count place : ℕ) (old new : List ℕ) → Torn at count old new → at + count ≤ place → drop place new ≡ drop place old
behind-same at count place old new torn before =
    let split : at + count + (place - (at + count)) ≡ place = omega (arith, before) in
    let more = place - (at + count) in
    sym (ap (λ (n : ℕ). drop n new) split) ∙ sym (drop-drop more (at + count) new) ∙ ap (drop more) torn.after ∙ drop-drop more (at + count) old ∙ ap (λ (n : ℕ). drop n old) split

before-same : (at count place : ℕ) (old new : List ℕ) → Torn at count old new → place ≤ at → take place new ≡ take place old
before-same at count place old new torn behind =
    sym (take-drop-take place 0 at new (omega (arith, behind))) ∙ ap (take place) torn.before ∙ take-drop-take place 0 at old (omega (arith, behind))

-- a block that is all blank stores nothing
blank-stored : (more : ℕ) (rest : List ℕ) → stored_in (replicate (suc more) 0xFF ++ rest) ≡ no_bits
blank-stored more rest = refl

blank-block : (count at : ℕ) (flash : List ℕ) → 1 ≤ count → at ≤ length flash → stored_in (drop at (overwritten at (replicate count 0xFF) flash)) ≡ no_bits
blank-block zero at flash some inside = absurd (omega (arith, some))
blank-block (suc more) at flash some inside =
    let front = take at flash in
    let rest = drop at flash in
    let long : length front ≡ at = length-take-le at flash inside in
    let blank = replicate {A = ℕ} (suc more) 0xFF in
    ap (λ (old : List ℕ). stored_in (drop at (overwritten at blank old))) (sym (take-append-drop at flash))
    ∙ ap (λ (xs : List ℕ). stored_in (drop at xs)) (blank-at at (suc more) front rest long ∙ append_assoc front blank (drop (suc more) rest))
    ∙ ap stored_in (drop_at front (blank ++ drop (suc more) rest) at long)
    ∙ blank-stored more (drop (suc more) rest)

-- a block below the stored protection, above it, and its own
below-stored : (count next : ℕ) (old new : List ℕ) → Torn (next * count) count old new → next * count + count ≤ length old / 2 - 4096 → stored new ≡ stored old
below-stored count next old new torn below =
    ap (λ (n : ℕ). stored_in (drop (n / 2 - 4096) new)) torn.same_length ∙ ap stored_in (behind-same (next * count) count (length old / 2 - 4096) old new torn below)

above-stored : (count next : ℕ) (old new : List ℕ) → Torn (next * count) count old new → 4096 ≤ length old / 2 → length old / 2 ≤ next * count → stored new ≡ stored old
above-stored count next old new torn least above = stored-before new old torn.same_length least (before-same (next * count) count (length old / 2) old new torn above)

own-stored : (count next : ℕ) (flash : List ℕ) → count ≡ block_size → next * count + count ≤ length flash → next * count ≡ length flash / 2 - 4096 → stored (erased next flash) ≡ no_bits
own-stored count next flash is inside own =
    let torn = block-torn count next flash is inside in
    ap (λ (n : ℕ). stored_in (drop (n / 2 - 4096) (erased next flash))) torn.same_length
    ∙ ap (λ (n : ℕ). stored_in (drop n (erased next flash))) (sym own)
    ∙ subst (λ (n : ℕ). stored_in (drop (next * count) (overwritten (next * n) (replicate n 0xFF) flash)) ≡ no_bits) is (blank-block count (next * count) flash (omega (arith, is)) (omega (arith, inside)))

-- the lock of the whole flash is not stored by an erase
block-unlocked : (next : ℕ) (flash : List ℕ) (below above : Bool) → nat_le (next * 4096 + 4096) (length flash / 2 - 4096) ≡ below → nat_le (length flash / 2) (next * 4096) ≡ above → next * 4096 + 4096 ≤ length flash → IsHalved (length flash) →
    (stored flash).all ≡ false → (stored (erased next flash)).all ≡ false
block-unlocked next flash true above is other inside half free =
    ap (λ bits. bits.all) (below-stored 4096 next flash (erased next flash) (block-torn 4096 next flash refl inside) (grind (arith, leb_tells, is))) ∙ free
block-unlocked next flash false true is other inside half free =
    ap (λ bits. bits.all) (above-stored 4096 next flash (erased next flash) (block-torn 4096 next flash refl inside) (omega (arith, half.least)) (grind (arith, leb_tells, other))) ∙ free
block-unlocked next flash false false is other inside half free =
    let later : length flash / 2 - 4096 < next * 4096 + 4096 = grind (arith, leb_tells, is) in
    let sooner : next * 4096 < length flash / 2 = grind (arith, leb_tells, other) in
    ap (λ bits. bits.all) (own-stored 4096 next flash refl inside (omega (arith, later, sooner, half.blocks, half.least)))

-- a tick without an erase leaves the flash
hash-flash : (hash : HashView) (core : Core) → (hash_ticked hash core).flash ≡ core.flash
hash-flash Idle core = refl
hash-flash (Busy at size left) core = if_cases (λ (c : Core). c.flash ≡ core.flash) (nat_le left 1) _ _ (λ last. refl) (λ more. refl)
hash-flash (Done at size digest) core = refl

pub free-tick : (core : Core) → core.live.erase ≡ None → ticked core ≡ hash_ticked core.live.hash core
free-tick core none = ap (λ (erase : Option EraseJob). ticked_by erase core) none

tick-unlocked : (core : Core) (erase : Option EraseJob) → core.live.erase ≡ erase → IsErasable (length core.flash) core.live erase → IsHalved (length core.flash) → (stored core.flash).all ≡ false → (stored (ticked core).flash).all ≡ false
tick-unlocked core None is erasable half free = ap (λ (c : Core). (stored c.flash).all) (free-tick core is) ∙ ap (λ (flash : List ℕ). (stored flash).all) (hash-flash core.live.hash core) ∙ free
tick-unlocked core (Some job) is erasable half free =
    ap (λ (c : Core). (stored c.flash).all) (ticked-job core job is)
    ∙ block-unlocked job.next core.flash (nat_le (job.next * 4096 + 4096) (length core.flash / 2 - 4096)) (nat_le (length core.flash / 2) (job.next * 4096)) refl refl (omega (arith, erasable.0, erasable.1)) half free

pub ticks-unlocked : (ticks : ℕ) (core : Core) → IsCoreValid core → (stored core.flash).all ≡ false → (stored (after_ticks ticks core).flash).all ≡ false
ticks-unlocked zero core valid free = free
ticks-unlocked (suc ticks) core valid free = ticks-unlocked ticks (ticked core) (ticks-valid 1 core valid) (tick-unlocked core core.live.erase refl valid.erase (halved (length core.flash) valid.size) free)

-- a pending erase has its blocks below RW
abbrev pub IsBelow : ℕ → Option EraseJob → Type 0
IsBelow half None = ⊤
IsBelow half (Some job) = (job.next + job.left) * 4096 ≤ half

-- RW and the size of the flash are as they were
pub record IsSpared (old new : List ℕ) : Type 0 where
  pub long : length new ≡ length old
  pub same : drop (length old / 2) new ≡ drop (length old / 2) old

spared-then : (one two three : List ℕ) → IsSpared one two → IsSpared two three → IsSpared one three
spared-then one two three first second = record {
  long = second.long ∙ first.long;
  same = subst (λ (n : ℕ). drop (n / 2) three ≡ drop (n / 2) two) first.long second.same ∙ first.same;
}

below-left : (half : ℕ) (job : EraseJob) (last : Bool) → nat_le job.left 1 ≡ last → 1 ≤ job.left → IsBelow half (Some job) → IsBelow half (if last then None else Some (record { next = job.next + 1; left = job.left - 1 }))
below-left half job true is some below = tt
below-left half job false is some below = omega (arith, below, some)

-- a tick of such an erase
pub record TickSpares (half : ℕ) (core : Core) : Type 0 where
  pub spared : IsSpared core.flash (ticked core).flash
  pub below : IsBelow half (ticked core).live.erase

tick-spares : (core : Core) (erase : Option EraseJob) → core.live.erase ≡ erase → IsErasable (length core.flash) core.live erase → IsHalved (length core.flash) → IsBelow (length core.flash / 2) erase → TickSpares (length core.flash / 2) core
tick-spares core None is erasable half below =
    let same = ap (λ (c : Core). c.flash) (free-tick core is) ∙ hash-flash core.live.hash core in
    record {
      spared = record { long = ap (λ (flash : List ℕ). length flash) same; same = ap (drop (length core.flash / 2)) same };
      below = subst (λ (e : Option EraseJob). IsBelow (length core.flash / 2) e) (sym (ap (λ (c : Core). c.live.erase) (free-tick core is) ∙ (hash-idle core.live.hash core is).0)) tt;
    }
tick-spares core (Some job) is erasable half below =
    let torn = block-torn 4096 job.next core.flash refl (omega (arith, erasable.0, erasable.1)) in
    let flash = ap (λ (c : Core). c.flash) (ticked-job core job is) in
    record {
      spared = subst (λ (new : List ℕ). IsSpared core.flash new) (sym flash)
          (record { long = torn.same_length; same = behind-same (job.next * 4096) 4096 (length core.flash / 2) core.flash (erased job.next core.flash) torn (omega (arith, below, erasable.0)) });
      below = subst (λ (e : Option EraseJob). IsBelow (length core.flash / 2) e) (sym (ticked-erase core job is)) (below-left (length core.flash / 2) job (nat_le job.left 1) refl erasable.0 below);
    }

pub ticks-spare : (ticks : ℕ) (core : Core) → IsCoreValid core → IsBelow (length core.flash / 2) core.live.erase → IsSpared core.flash (after_ticks ticks core).flash
ticks-spare zero core valid below = record { long = refl; same = refl }
ticks-spare (suc ticks) core valid below =
    let tick = tick-spares core core.live.erase refl valid.erase (halved (length core.flash) valid.size) below in
    spared-then core.flash (ticked core).flash (after_ticks ticks (ticked core)).flash tick.spared
    (ticks-spare ticks (ticked core) (ticks-valid 1 core valid) (subst (λ (n : ℕ). IsBelow (n / 2) (ticked core).live.erase) (sym tick.spared.long) tick.below))

-- any erase leaves the size of the flash
tick-long : (core : Core) (erase : Option EraseJob) → core.live.erase ≡ erase → IsErasable (length core.flash) core.live erase → length (ticked core).flash ≡ length core.flash
tick-long core None is erasable = ap (λ (c : Core). length c.flash) (free-tick core is) ∙ ap (λ (flash : List ℕ). length flash) (hash-flash core.live.hash core)
tick-long core (Some job) is erasable = ap (λ (c : Core). length c.flash) (ticked-job core job is) ∙ (block-torn 4096 job.next core.flash refl (omega (arith, erasable.0, erasable.1))).same_length

pub ticks-long : (ticks : ℕ) (core : Core) → IsCoreValid core → length (after_ticks ticks core).flash ≡ length core.flash
ticks-long zero core valid = refl
ticks-long (suc ticks) core valid = ticks-long ticks (ticked core) (ticks-valid 1 core valid) ∙ tick-long core core.live.erase refl valid.erase
