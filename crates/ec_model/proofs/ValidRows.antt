-- Every row keeps a valid core valid.
use Rattle.std.proofs.Common.{◌≡◌, refl, sym, ap, ◌∙◌, subst, ℕ, ◌+◌, ◌-◌, ◌*◌, ◌/◌, ◌%◌, ◌^◌, ◌≤◌, ◌<◌, Bool, true, false, not, ◌&&◌, ◌||◌, ◌==◌, nat_lt, nat_le, if◌then◌else◌, List, [], ◌∷◌, length, take, drop, arith, lit<, Option, Some, None, slice_index, length-take}
use Rattle.std.specs.Prelude.{is_none}
use Rattle.std.specs.Bool.{⊤}
use Rattle.std.proofs.lemmas.Bool.Decides.{leb_tells, eqb_tells}
use Rattle.ec_types.specs.LittleEndian.{u16_at, u32_at}
use Rattle.ec_types.specs.declared.image.ImageCopy.{ImageCopy}
use Rattle.ec_types.specs.declared.image.ImageCopy.TheVariants.{Ro, Rw}
use Rattle.ec_model.specs.declared.live.Live.{Live}
use Rattle.ec_model.specs.declared.live.EraseJob.{EraseJob}
use Rattle.ec_model.specs.declared.live.HashView.{HashView}
use Rattle.ec_model.specs.declared.live.HashView.TheVariants.{Idle, Busy, Done}
use Rattle.flash_dev.specs.Flash.{block_size}
use Rattle.ec_model.specs.Ranges.{Range, is_flash_size, region_range, ro_range, rw_range, ends_within, blocks_range}
use Rattle.ec_model.specs.Commands.{Command, known, is_spelled, is_write_spelled, Proto, Hello, Version, Chip, CmdVersions, Comms, Test, ProtoInfo, FlashInfo, FlashRead, FlashWrite, FlashErase, FlashProtect, RegionInfo, Sysinfo, VbootHash, Reboot, Resend}
use Rattle.ec_model.specs.Table.{Core, IsErasable, IsHashable, is_blocked, ticks_of}
use Rattle.ec_model.specs.Hash.{touched, is_hash_over, without_hash, with_hash}
use Rattle.ec_model.specs.Operations.{Operation, Program, Erase, operation_range, operated_all, touched_by, after_operations}
use Rattle.ec_model.specs.Answer.{Outcome, Answered, Restarts, done, unless_refused}
use Rattle.ec_model.specs.InfoRows.{mask_told, range_told, test_row}
use Rattle.ec_model.specs.FlashRows.{asked_range, read_refusal, write_refusal, written, flash_write_row, erase_refusal, flash_erase_row, is_whole_units}
use Rattle.ec_model.specs.ProtectRow.{protect_operations, record_operations, storing_at, storing_operations, wanted, locks_set, can_lock, protected, is_asked}
use Rattle.ec_model.specs.Stored.{AtBoot, stored, stored_block, slot_count, next_slot, has_place, mark2_bytes, same_bits, ro_now_flag, all_now_flag}
use Rattle.ec_model.specs.HashRow.{vboot_hash_row, hash_start_row, hash_asked, hash_range, first_of_region}
use Rattle.ec_model.specs.Jump.{same_copy, is_denied, has_vector, jumped, kept_hash, keeps_all}
use Rattle.ec_model.specs.RebootRow.{jump_row, reboot_row}
use Rattle.ec_model.specs.Handle.{row}
use Rattle.ec_model.proofs.GuardLemmas.{AllAbove, leaves-operated, leaves-operated_all}
use Rattle.ec_model.proofs.GuardSteps.{if_cases, accepted, and_parts, or_parts, not_false, not_true, same_size, refusal_cases, positive}
use Rattle.ec_model.proofs.GuardStep.{size_bound}
use Rattle.ec_model.proofs.StoredLemmas.{slots_end, next-least, placed}

-- what holds of a controller that is on, but for its bus
pub record IsCoreValid (core : Core) : Type 0 where
  pub size : is_flash_size (length core.flash) ≡ true
  pub all_with_ro : core.live.all_now ≡ true → core.live.ro_now ≡ true
  pub jumped : core.live.copy ≡ Rw → core.live.jumped ≡ true
  pub erase : IsErasable (length core.flash) core.live core.live.erase
  pub hash : IsHashable (length core.flash) core.live.hash core.nonce
  pub saved : core.live.saved < 2 ^ 16

-- what is answered leaves a valid core
abbrev pub ValidOutcome : Outcome → Type 0
ValidOutcome (Answered after status body) = IsCoreValid after
ValidOutcome Restarts = ⊤

-- a valid core with another hash
pub with-hash-valid : (core : Core) (hash : HashView) (nonce : List ℕ) → IsCoreValid core → IsHashable (length core.flash) hash nonce → IsCoreValid (with_hash hash nonce core)
with-hash-valid core hash nonce valid hashable =
    record { size = valid.size; all_with_ro = valid.all_with_ro; jumped = valid.jumped; erase = erasable core.live.erase valid.erase; hash = hashable; saved = valid.saved } where
      erasable : (job : Option EraseJob) → IsErasable (length core.flash) core.live job → IsErasable (length core.flash) (record core.live { hash = hash }) job
      erasable None free = tt
      erasable (Some job) free = free

-- a touch keeps a core valid
pub touched-valid : (range : Range) (core : Core) → IsCoreValid core → IsCoreValid (touched range core)
touched-valid range core valid =
    if_cases IsCoreValid (is_hash_over range core.live.hash) (without_hash core) core (λ over. with-hash-valid core Idle [] valid refl) (λ apart. valid)

pub touched_by-valid : (operations : List Operation) (core : Core) → IsCoreValid core → IsCoreValid (touched_by operations core)
touched_by-valid [] core valid = valid
touched_by-valid (operation ∷ operations) core valid = touched_by-valid operations (touched (operation_range operation) core) (touched-valid (operation_range operation) core valid)

-- another flash of the same length
pub with-flash-valid : (core : Core) (flash : List ℕ) → length flash ≡ length core.flash → IsCoreValid core → IsCoreValid (record core { flash = flash })
with-flash-valid core flash same valid =
    record {
      size = rw same valid.size;
      all_with_ro = valid.all_with_ro;
      jumped = valid.jumped;
      erase = subst (λ (n : ℕ). IsErasable n core.live core.live.erase) (sym same) valid.erase;
      hash = subst (λ (n : ℕ). IsHashable n core.live.hash core.nonce) (sym same) valid.hash;
      saved = valid.saved;
    }

-- a touch leaves the flash
pub same-flash : (range : Range) (core : Core) → (touched range core).flash ≡ core.flash
same-flash range core = if_cases (λ (after : Core). after.flash ≡ core.flash) (is_hash_over range core.live.hash) (without_hash core) core (λ over. refl) (λ apart. refl)

-- what is answered unless there is a refusal
unless-valid : (core : Core) (refusal : Option ℕ) (outcome : Outcome) → IsCoreValid core → (is_none refusal ≡ true → ValidOutcome outcome) → ValidOutcome (unless_refused refusal core outcome)
unless-valid core None outcome valid keeps = keeps refl
unless-valid core (Some status) outcome valid keeps = valid

mask-valid : (core : Core) (mask : Option ℕ) → IsCoreValid core → ValidOutcome (mask_told core mask)
mask-valid core None valid = valid
mask-valid core (Some mask) valid = valid

range-valid : (core : Core) (range : Option Range) → IsCoreValid core → ValidOutcome (range_told core range)
range-valid core None valid = valid
range-valid core (Some range) valid = valid

test-valid : (core : Core) (body : List ℕ) → IsCoreValid core → ValidOutcome (test_row core body)
test-valid core body valid =
    if_cases ValidOutcome (nat_lt 20 (u32_at 0 body)) _ _ (λ large. valid)
    (λ small. if_cases ValidOutcome (u32_at 0 body == 0) _ _ (λ zero_result. valid) (λ other. valid))

write-valid : (core : Core) (version : ℕ) (body : List ℕ) → IsCoreValid core → is_write_spelled body ≡ true → ValidOutcome (flash_write_row core version body)
write-valid core version body valid spelled =
    let bytes = drop 8 body in
    let at = u32_at 0 body in
    unless-valid core (write_refusal core version body) (done (written at bytes core)) valid (λ none.
    let ok = accepted core version body none in
    let size = (and_parts _ (length body == 8 + u32_at 4 body) spelled).1 in
    let leaves = leaves-operated 0 (Program at bytes) core.flash (record { above = omega arith; inside = same_size core body size ok.inside }) in
    with-flash-valid (touched (record { at = at; size = length bytes }) core) _ (leaves.size ∙ sym (ap length (same-flash (record { at = at; size = length bytes }) core)))
    (touched-valid (record { at = at; size = length bytes }) core valid))

-- a test of two numbers that came out true
equal_by : (a b : ℕ) → (a == b) ≡ true → a ≡ b
equal_by a b same = grind (arith, eqb_tells)

-- the blocks of a range of whole blocks are that range
whole_blocks : (size : ℕ) (live : Live) (range : Range) → range.at % 4096 ≡ 0 → range.size % 4096 ≡ 0 → is_blocked size live range ≡ false → is_blocked size live (blocks_range (range.at / block_size) (range.size / block_size)) ≡ false
whole_blocks size live range place count free =
    let at_is : range.at / 4096 * 4096 ≡ range.at = omega arith in
    let size_is : range.size / 4096 * 4096 ≡ range.size = omega arith in
    rw (at_is, size_is) free

erase-valid : (core : Core) (body : List ℕ) → IsCoreValid core → ValidOutcome (flash_erase_row core body)
erase-valid core body valid =
    let range = asked_range body in
    unless-valid core (erase_refusal core body) _ valid (λ none.
    let tests = refusal_cases (not (is_whole_units block_size core range)) (is_blocked (length core.flash) core.live range) none in
    let whole = not_false (is_whole_units block_size core range) tests.0 in
    let three = and_parts (not (range.size == 0) && (range.at % block_size == 0) && (range.size % block_size == 0)) (ends_within (length core.flash) range) whole in
    let two = and_parts (not (range.size == 0) && (range.at % block_size == 0)) (range.size % block_size == 0) three.0 in
    let one = and_parts (not (range.size == 0)) (range.at % block_size == 0) two.0 in
    let some = positive range.size (not_true (range.size == 0) one.0) in
    let place = equal_by (range.at % 4096) 0 one.1 in
    let count = equal_by (range.size % 4096) 0 two.1 in
    let inside : range.at + range.size ≤ length core.flash = grind (arith, leb_tells) in
    record {
      size = valid.size;
      all_with_ro = valid.all_with_ro;
      jumped = valid.jumped;
      erase = (omega (arith, some, count), omega (arith, place, count, inside), whole_blocks (length core.flash) core.live range place count tests.1);
      hash = valid.hash;
      saved = omega arith;
    })

-- a valid core with other marks of the live state, but for the erase
same-erase : (range : Range) (core : Core) → (touched range core).live.erase ≡ core.live.erase
same-erase range core = if_cases (λ (after : Core). after.live.erase ≡ core.live.erase) (is_hash_over range core.live.hash) (without_hash core) core (λ over. refl) (λ apart. refl)

same-erase_by : (operations : List Operation) (core : Core) → (touched_by operations core).live.erase ≡ core.live.erase
same-erase_by [] core = refl
same-erase_by (operation ∷ operations) core = same-erase_by operations (touched (operation_range operation) core) ∙ same-erase (operation_range operation) core

pub same-flash_by : (operations : List Operation) (core : Core) → (touched_by operations core).flash ≡ core.flash
same-flash_by [] core = refl
same-flash_by (operation ∷ operations) core = same-flash_by operations (touched (operation_range operation) core) ∙ same-flash (operation_range operation) core

-- more locks keep the order of the locks
locks_in_order : (ro all first second : Bool) → (all ≡ true → ro ≡ true) → (all || second) ≡ true → (ro || first || second) ≡ true
locks_in_order true all first second order now = refl
locks_in_order false true first second order now = let no_lock = order refl in cc
locks_in_order false false true second order now = refl
locks_in_order false false false second order now = now

locks-valid : (mask flags : ℕ) (core : Core) → IsCoreValid core → core.live.erase ≡ None → IsCoreValid (locks_set mask flags core)
locks-valid mask flags core valid free =
    if_cases IsCoreValid (can_lock core) _ core
    (λ can. record {
      size = valid.size;
      all_with_ro = locks_in_order core.live.ro_now core.live.all_now (is_asked ro_now_flag mask flags) (is_asked all_now_flag mask flags) valid.all_with_ro;
      jumped = valid.jumped;
      erase = subst (λ (job : Option EraseJob). IsErasable (length core.flash) (record core.live { ro_now = core.live.ro_now || is_asked ro_now_flag mask flags || is_asked all_now_flag mask flags; all_now = core.live.all_now || is_asked all_now_flag mask flags }) job) (sym free) tt;
      hash = valid.hash;
      saved = valid.saved;
    })
    (λ cannot. valid)

-- the operations that write a record lie in the flash
record-inside : (size place : ℕ) (bits : AtBoot) → place + 8 ≤ size → AllAbove 0 size (record_operations place bits)
record-inside size place bits inside = (record { above = omega arith; inside = omega (arith, inside) }, (record { above = omega arith; inside = omega (arith, inside) }, tt))

-- and so do those that store bits
pub storing-inside : (size : ℕ) (block : List ℕ) (bits : AtBoot) → 65536 ≤ size → AllAbove 0 size (storing_at (size / 2 - block_size) block bits)
storing-inside size block bits large =
    if_cases (AllAbove 0 size) (has_place block) (record_operations (size / 2 - block_size + 8 + 8 * next_slot block) bits)
    (Erase ((size / 2 - block_size) / block_size) ∷ Program (size / 2 - block_size) mark2_bytes ∷ record_operations (size / 2 - block_size + 8) bits)
    (λ place. record-inside size (size / 2 - block_size + 8 + 8 * next_slot block) bits (omega (arith, large, next-least slot_count block, slots_end, (placed block place).below)))
    (λ none. (record { above = omega arith; inside = omega (arith, large) }, (record { above = omega arith; inside = omega (arith, large) }, record-inside size (size / 2 - block_size + 8) bits (omega (arith, large)))))

-- the operations of a protection lie in the flash
pub protect-inside : (core : Core) (mask flags : ℕ) → IsCoreValid core → AllAbove 0 (length core.flash) (protect_operations core mask flags)
protect-inside core mask flags valid =
    let large = size_bound (length core.flash) valid.size in
    let bits = wanted mask flags (stored core.flash) in
    if_cases (AllAbove 0 (length core.flash)) (same_bits bits (stored core.flash) || core.live.ro_now) [] (storing_operations core.flash bits)
    (λ none. tt)
    (λ some. storing-inside (length core.flash) (stored_block core.flash) bits large)

protect-valid : (core : Core) (mask flags : ℕ) → IsCoreValid core → core.live.erase ≡ None → IsCoreValid (protected mask flags core)
protect-valid core mask flags valid free =
    let operations = protect_operations core mask flags in
    let leaves = leaves-operated_all 0 (length core.flash) operations core.flash refl (protect-inside core mask flags valid) in
    let touched_core = touched_by operations core in
    let stored_valid = with-flash-valid touched_core (operated_all operations core.flash) (leaves.size ∙ sym (ap length (same-flash_by operations core))) (touched_by-valid operations core valid) in
    locks-valid mask flags (after_operations operations core) stored_valid (same-erase_by operations core ∙ free)

jump-valid : (core : Core) (target : ImageCopy) → IsCoreValid core → core.live.erase ≡ None → ValidOutcome (jump_row target core)
jump-valid core target valid free =
    if_cases ValidOutcome (same_copy target core.live.copy) _ _ (λ runs. valid)
    (λ other. if_cases ValidOutcome (is_denied core target) _ _ (λ denied. valid)
    (λ granted. if_cases ValidOutcome (not (has_vector core.flash target)) _ _ (λ outside. valid)
    (λ jumps. record {
      size = valid.size;
      all_with_ro = valid.all_with_ro;
      jumped = λ rw_. refl;
      erase = subst (λ (job : Option EraseJob). IsErasable (length core.flash) (jumped target core).live job) (sym free) tt;
      hash = kept-valid (keeps_all core.flash core.live.copy) core.live.hash core.nonce valid.hash;
      saved = saved-valid (keeps_all core.flash core.live.copy) core.live.saved valid.saved;
    }))) where
      kept_hashable : (hash : HashView) (nonce : List ℕ) → IsHashable (length core.flash) hash nonce → IsHashable (length core.flash) (kept_hash hash) []
      kept_hashable Idle nonce hashable = refl
      kept_hashable (Busy at size left) nonce hashable = refl
      kept_hashable (Done at size digest) nonce hashable = (hashable.0, hashable.1, hashable.2, refl)

      kept-valid : (all : Bool) (hash : HashView) (nonce : List ℕ) → IsHashable (length core.flash) hash nonce → IsHashable (length core.flash) (if all then kept_hash hash else Idle) []
      kept-valid true hash nonce hashable = kept_hashable hash nonce hashable
      kept-valid false hash nonce hashable = refl

      saved-valid : (all : Bool) (saved : ℕ) → saved < 2 ^ 16 → (if all then saved else 9) < 2 ^ 16
      saved-valid true saved small = small
      saved-valid false saved small = lit< tt

-- what a range of a hash has to meet
pub record IsHashRange (size : ℕ) (range : Range) : Type 0 where
  pub some : 1 ≤ range.size
  pub inside : range.at + range.size ≤ size

-- the same of a range that there may not be
abbrev pub IsHashRangeIf : ℕ → Option Range → Type 0
IsHashRangeIf size None = ⊤
IsHashRangeIf size (Some range) = IsHashRange size range

first-in : (size : ℕ) (region : Range) (count : ℕ) → IsHashRange size region → IsHashRangeIf size (first_of_region region count)
first-in size region count whole =
    if_cases (IsHashRangeIf size) (count == 0) (Some region) _ (λ all. whole)
    (λ some. if_cases (IsHashRangeIf size) (nat_le count region.size) (Some (record { at = region.at; size = count })) None
    (λ fits. let short : count ≤ region.size = grind (arith, leb_tells) in
    record { some = positive count some; inside = omega (arith, whole.inside, short) })
    (λ long. tt))

hash_range-in : (size offset count : ℕ) → 65536 ≤ size → IsHashRangeIf size (hash_range size offset count)
hash_range-in size offset count large =
    if_cases (IsHashRangeIf size) (offset == 0xFFFFFFFE) _ _ (λ ro. first-in size (ro_range size) count (record { some = omega (arith, large); inside = omega (arith, large) }))
    (λ not_ro. if_cases (IsHashRangeIf size) (offset == 0xFFFFFFFD) _ _ (λ rw_. first-in size (rw_range size) count (record { some = omega (arith, large); inside = omega (arith, large) }))
    (λ plain. if_cases (IsHashRangeIf size) (not (count == 0) && ends_within size (record { at = offset; size = count })) (Some (record { at = offset; size = count })) None
    (λ good.
    let parts = and_parts (not (count == 0)) (ends_within size (record { at = offset; size = count })) good in
    record { some = positive count (not_true (count == 0) parts.0); inside = inside_of parts.1 })
    (λ bad. tt))) where
      inside_of : ends_within size (record { at = offset; size = count }) ≡ true → offset + count ≤ size
      inside_of ends = grind (arith, leb_tells)

-- the ticks of a hash are at least one
some_ticks : (count : ℕ) → 1 ≤ count → 1 ≤ ticks_of count
some_ticks count some = omega (arith, some)

asked-valid : (core : Core) (range : Option Range) (nonce : List ℕ) → IsCoreValid core → IsHashRangeIf (length core.flash) range → length nonce ≤ 64 → ValidOutcome (hash_asked range nonce core)
asked-valid core None nonce valid inside short = valid
asked-valid core (Some range) nonce valid inside short =
    with-hash-valid core _ nonce valid (inside.some, inside.inside, some_ticks range.size inside.some, omega arith, short)

-- a nonce is no longer than its size says
nonce_short : (count : ℕ) (bytes : List ℕ) → nat_lt 64 count ≡ false → length (take count bytes) ≤ 64
nonce_short count bytes small =
    let fits : count ≤ 64 = grind (arith, leb_tells) in
    omega (arith, length-take count bytes, fits)

start-valid : (core : Core) (body : List ℕ) → IsCoreValid core → ValidOutcome (hash_start_row core body)
start-valid core body valid =
    if_cases ValidOutcome (not (slice_index body 1 == 0) || nat_lt 64 (slice_index body 2)) _ _ (λ wrong. valid)
    (λ right.
    let parts = or_parts (not (slice_index body 1 == 0)) (nat_lt 64 (slice_index body 2)) right in
    asked-valid core (hash_range (length core.flash) (u32_at 4 body) (u32_at 8 body)) (take (slice_index body 2) (drop 12 body)) valid
    (hash_range-in (length core.flash) (u32_at 4 body) (u32_at 8 body) (size_bound (length core.flash) valid.size))
    (nonce_short (slice_index body 2) (drop 12 body) parts.1))

hash-valid : (core : Core) (body : List ℕ) → IsCoreValid core → ValidOutcome (vboot_hash_row core body)
hash-valid core body valid =
    if_cases ValidOutcome (slice_index body 0 == 0) _ _ (λ get. valid)
    (λ not_get. if_cases ValidOutcome (slice_index body 0 == 1) _ _ (λ abort. with-hash-valid core Idle [] valid refl)
    (λ not_abort. if_cases ValidOutcome (slice_index body 0 == 2) _ _ (λ start. start-valid core body valid) (λ other. valid)))

-- a change of marks that no rule reads
marked-valid : (core : Core) (live : Live) → IsCoreValid core → live.copy ≡ core.live.copy → live.jumped ≡ core.live.jumped → live.ro_now ≡ core.live.ro_now → live.all_now ≡ core.live.all_now → live.hash ≡ core.live.hash → IsErasable (length core.flash) live live.erase → live.saved < 2 ^ 16 → IsCoreValid (record core { live = live })
marked-valid core live valid copy jumped ro all hash erase saved =
    record {
      size = valid.size;
      all_with_ro = λ now. ro ∙ valid.all_with_ro (sym all ∙ now);
      jumped = λ runs. jumped ∙ valid.jumped (sym copy ∙ runs);
      erase = erase;
      hash = rw hash valid.hash;
      saved = saved;
    }

reboot-valid : (core : Core) (body : List ℕ) → IsCoreValid core → core.live.erase ≡ None → ValidOutcome (reboot_row core body)
reboot-valid core body valid free =
    let cmd = slice_index body 0 in
    let no_erase : (live : Live) → IsErasable (length core.flash) live core.live.erase = λ live. subst (λ (job : Option EraseJob). IsErasable (length core.flash) live job) (sym free) tt in
    if_cases ValidOutcome (not (slice_index body 1 == 0)) _ _ (λ wrong. valid)
    (λ right. if_cases ValidOutcome (cmd == 0) _ _ (λ cancel. valid)
    (λ n0. if_cases ValidOutcome (cmd == 1) _ _ (λ ro. jump-valid core Ro valid free)
    (λ n1. if_cases ValidOutcome (cmd == 2) _ _ (λ rw_. jump-valid core Rw valid free)
    (λ n2. if_cases ValidOutcome (cmd == 4) _ _ (λ cold. tt)
    (λ n4. if_cases ValidOutcome (cmd == 5) _ _
    (λ disable. marked-valid core _ valid refl refl refl refl refl (no_erase (record core.live { jump_off = true })) valid.saved) (λ other. valid))))))

-- saving another status
saved-erasable : (size : ℕ) (live : Live) (saved : ℕ) (job : Option EraseJob) → IsErasable size live job → IsErasable size (record live { saved = saved }) job
saved-erasable size live saved None free = tt
saved-erasable size live saved (Some job) free = free

pub resend-valid : (core : Core) → IsCoreValid core → IsCoreValid (record core { live = record core.live { saved = 9 } })
resend-valid core valid = marked-valid core _ valid refl refl refl refl refl (saved-erasable (length core.flash) core.live 9 core.live.erase valid.erase) (omega arith)

-- each row that is asked by a spelled body, while no erase is pending or by a command that is answered then
pub row-valid : (core : Core) (limit : ℕ) (command : Command) (version : ℕ) (body : List ℕ) → IsCoreValid core → is_spelled command version body ≡ true → core.live.erase ≡ None → ValidOutcome (row core limit command version body)
row-valid core limit Proto version body valid spelled free = valid
row-valid core limit Hello version body valid spelled free = valid
row-valid core limit Version version body valid spelled free = valid
row-valid core limit Chip version body valid spelled free = valid
row-valid core limit CmdVersions version body valid spelled free = mask-valid core (known (if version == 0 then slice_index body 0 else u16_at 0 body)) valid
row-valid core limit Comms version body valid spelled free = valid
row-valid core limit Test version body valid spelled free = test-valid core body valid
row-valid core limit ProtoInfo version body valid spelled free = valid
row-valid core limit FlashInfo version body valid spelled free = valid
row-valid core limit FlashRead version body valid spelled free = unless-valid core (read_refusal core limit body) _ valid (λ none. valid)
row-valid core limit FlashWrite version body valid spelled free = write-valid core version body valid spelled
row-valid core limit FlashErase version body valid spelled free = erase-valid core body valid
row-valid core limit FlashProtect version body valid spelled free = protect-valid core (u32_at 0 body) (u32_at 4 body) valid free
row-valid core limit RegionInfo version body valid spelled free = range-valid core (region_range (u32_at 0 body) (length core.flash)) valid
row-valid core limit Sysinfo version body valid spelled free = valid
row-valid core limit VbootHash version body valid spelled free = hash-valid core body valid
row-valid core limit Reboot version body valid spelled free = reboot-valid core body valid free
row-valid core limit Resend version body valid spelled free = resend-valid core valid
