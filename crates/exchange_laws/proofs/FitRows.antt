-- Every response fits its bus.
use Rattle.std.proofs.Common.{◌≡◌, refl, ℕ, ◌+◌, ◌-◌, ◌≤◌, Bool, true, false, not, ◌||◌, ◌==◌, nat_lt, if◌then◌else◌, List, ◌++◌, length, take, drop, min, arith, Option, Some, None, slice_index, length-take, length-append, replicate, Result, Ok, Err}
use Rattle.std.proofs.lemmas.List.{length-replicate}
use Rattle.std.specs.Prelude.{is_none, take_while}
use Rattle.std.specs.Bool.{⊤}
use Rattle.ec_types.specs.LittleEndian.{u16_at, u32_at, u32_bytes}
use Rattle.ec_types.specs.declared.image.ImageCopy.{ImageCopy}
use Rattle.ec_types.specs.declared.image.ImageCopy.TheVariants.{Ro, Rw}
use Rattle.ec_model.specs.declared.live.HashView.{HashView}
use Rattle.ec_model.specs.declared.live.HashView.TheVariants.{Idle, Busy, Done}
use Rattle.ec_model.specs.Ranges.{Range, region_range, part, ends_within}
use Rattle.ec_model.specs.Commands.{Command, known, Proto, Hello, Version, Chip, CmdVersions, Comms, Test, ProtoInfo, FlashInfo, FlashRead, FlashWrite, FlashErase, FlashProtect, RegionInfo, Sysinfo, VbootHash, Reboot, Resend}
use Rattle.ec_model.specs.Table.{Core, IsHashable}
use Rattle.ec_model.specs.Answer.{Outcome, Answered, Restarts, told, unless_refused}
use Rattle.ec_model.specs.InfoRows.{mask_told, range_told, test_row, version_text, zero_padded, is_shown, raw_version, version_row, copy_number}
use Rattle.ec_model.specs.FlashRows.{asked_range, read_refusal, flash_read_row, write_refusal, erase_refusal}
use Rattle.ec_model.specs.HashRow.{vboot_hash_row, hash_start_row, hash_asked, hash_range, hash_bytes}
use Rattle.ec_model.specs.Jump.{same_copy, is_denied, has_vector}
use Rattle.ec_model.specs.RebootRow.{jump_row, reboot_row}
use Rattle.ec_model.specs.Handle.{Admitted, row, row_of, asked, handled}
use Rattle.ec_model.proofs.GuardSteps.{if_cases}
use Rattle.ec_model.proofs.ValidRows.{IsCoreValid}

-- the response to what is answered has no more bytes than the limit
abbrev pub Fits : ℕ → Outcome → Type 0
Fits limit (Answered after status body) = 8 + length body ≤ limit
Fits limit Restarts = ⊤

-- bytes that are padded have the length that they are padded to
length-zero_padded : (size : ℕ) (bytes : List ℕ) → length bytes ≤ size → length (zero_padded size bytes) ≡ size
length-zero_padded size bytes short = omega (arith, length-append bytes (replicate (size - length bytes) 0), length-replicate {A = ℕ} (size - length bytes) 0)

-- a version's text has 32 bytes
length-version_text : (raw : List ℕ) → length (version_text raw) ≡ 32
length-version_text raw = length-zero_padded 32 (take 31 (take_while is_shown raw)) (omega (arith, length-take 31 (take_while is_shown raw)))

-- a part is no longer than its range
part-short : (range : Range) (bytes : List ℕ) → length (part range bytes) ≤ range.size
part-short range bytes = omega (arith, length-take (range.at + range.size - range.at) (drop range.at bytes))

-- GET_VERSION
version-fits : (core : Core) (limit : ℕ) → 128 ≤ limit → Fits limit (version_row core)
version-fits core limit large =
    let ro = version_text (raw_version Ro core.flash) in
    let rw_ = version_text (raw_version Rw core.flash) in
    let one = length-append ro rw_ in
    let two = length-append (ro ++ rw_) (replicate 32 0) in
    omega (arith, large, length-append (ro ++ rw_ ++ replicate 32 0) (u32_bytes (copy_number core.live.copy)), two, one, length-version_text (raw_version Ro core.flash), length-version_text (raw_version Rw core.flash))

-- of two bodies, each short
either-fits : (core : Core) (limit : ℕ) (test : Bool) (a b : List ℕ) → 8 + length a ≤ limit → 8 + length b ≤ limit → Fits limit (told core (if test then a else b))
either-fits core limit true a b first second = first
either-fits core limit false a b first second = second

-- GET_CMD_VERSIONS, by the mask
mask-fits : (core : Core) (limit : ℕ) (mask : Option ℕ) → 128 ≤ limit → Fits limit (mask_told core mask)
mask-fits core limit None large = omega (arith, large)
mask-fits core limit (Some mask) large = omega (arith, large)

-- FLASH_REGION_INFO, by the range
range-fits : (core : Core) (limit : ℕ) (range : Option Range) → 128 ≤ limit → Fits limit (range_told core range)
range-fits core limit None large = omega (arith, large)
range-fits core limit (Some range) large = omega (arith, large)

-- TEST_PROTOCOL
test-fits : (core : Core) (limit : ℕ) (body : List ℕ) → 128 ≤ limit → Fits limit (test_row core body)
test-fits core limit body large =
    if_cases (Fits limit) (nat_lt 20 (u32_at 0 body)) _ _ (λ above. omega (arith, large))
    (λ small. if_cases (Fits limit) (u32_at 0 body == 0) _ _
    (λ zero_result. omega (arith, large, length-take (min (u32_at 4 body) 32) (drop 8 body))) (λ other. omega (arith, large)))

-- a row behind its refusals
unless-fits : (core : Core) (limit : ℕ) (refusal : Option ℕ) (outcome : Outcome) → 128 ≤ limit → (is_none refusal ≡ true → Fits limit outcome) → Fits limit (unless_refused refusal core outcome)
unless-fits core limit None outcome large fits = fits refl
unless-fits core limit (Some status) outcome large fits = omega (arith, large)

-- why a read is refused, by its two tests
read_cases : (outside above : Bool) → is_none {T = ℕ} (if outside then Some 3 else if above then Some 11 else None) ≡ true → (outside ≡ false) × (above ≡ false)
read_cases true above none = cc
read_cases false true none = cc
read_cases false false none = (refl, refl)

-- a number that is not above another
at-most : (n m : ℕ) → nat_lt n m ≡ false → m ≤ n
at-most n m same = grind (arith)

-- FLASH_READ
read-fits : (core : Core) (limit : ℕ) (body : List ℕ) → 128 ≤ limit → Fits limit (flash_read_row core limit body)
read-fits core limit body large =
    unless-fits core limit (read_refusal core limit body) _ large (λ none.
    let tests = read_cases (not (ends_within (length core.flash) (asked_range body))) (nat_lt (limit - 8) (asked_range body).size) none in
    let small : (asked_range body).size ≤ limit - 8 = at-most (limit - 8) (asked_range body).size tests.1 in
    omega (arith, large, part-short (asked_range body) core.flash, small))

-- a hash that is shown
shown-fits : (limit size : ℕ) (hash : HashView) (nonce : List ℕ) → 128 ≤ limit → IsHashable size hash nonce → 8 + length (hash_bytes hash) ≤ limit
shown-fits limit size Idle nonce large hashable = omega (arith, large)
shown-fits limit size (Busy at count left) nonce large hashable = omega (arith, large)
shown-fits limit size (Done at count digest) nonce large hashable = omega (arith, large, length-append digest (replicate 32 0), hashable.2)

-- a hash of a range
asked-fits : (core : Core) (limit : ℕ) (range : Option Range) (nonce : List ℕ) → 128 ≤ limit → Fits limit (hash_asked range nonce core)
asked-fits core limit None nonce large = omega (arith, large)
asked-fits core limit (Some range) nonce large = omega (arith, large)

-- a hash that is started
start-fits : (core : Core) (limit : ℕ) (body : List ℕ) → 128 ≤ limit → Fits limit (hash_start_row core body)
start-fits core limit body large =
    if_cases (Fits limit) (not (slice_index body 1 == 0) || nat_lt 64 (slice_index body 2)) _ _ (λ wrong. omega (arith, large))
    (λ right. asked-fits core limit (hash_range (length core.flash) (u32_at 4 body) (u32_at 8 body)) (take (slice_index body 2) (drop 12 body)) large)

-- VBOOT_HASH
hash-fits : (core : Core) (limit : ℕ) (body : List ℕ) → 128 ≤ limit → IsHashable (length core.flash) core.live.hash core.nonce → Fits limit (vboot_hash_row core body)
hash-fits core limit body large hashable =
    if_cases (Fits limit) (slice_index body 0 == 0) _ _ (λ get. shown-fits limit (length core.flash) core.live.hash core.nonce large hashable)
    (λ not_get. if_cases (Fits limit) (slice_index body 0 == 1) _ _ (λ abort. omega (arith, large))
    (λ not_abort. if_cases (Fits limit) (slice_index body 0 == 2) _ _ (λ start. start-fits core limit body large) (λ other. omega (arith, large))))

-- a jump
jump-fits : (core : Core) (limit : ℕ) (target : ImageCopy) → 128 ≤ limit → Fits limit (jump_row target core)
jump-fits core limit target large =
    if_cases (Fits limit) (same_copy target core.live.copy) _ _ (λ runs. omega (arith, large))
    (λ other. if_cases (Fits limit) (is_denied core target) _ _ (λ denied. omega (arith, large))
    (λ granted. if_cases (Fits limit) (not (has_vector core.flash target)) _ _ (λ outside. omega (arith, large)) (λ jumps. omega (arith, large))))

-- REBOOT_EC
reboot-fits : (core : Core) (limit : ℕ) (body : List ℕ) → 128 ≤ limit → Fits limit (reboot_row core body)
reboot-fits core limit body large =
    let cmd = slice_index body 0 in
    if_cases (Fits limit) (not (slice_index body 1 == 0)) _ _ (λ wrong. omega (arith, large))
    (λ right. if_cases (Fits limit) (cmd == 0) _ _ (λ cancel. omega (arith, large))
    (λ n0. if_cases (Fits limit) (cmd == 1) _ _ (λ ro. jump-fits core limit Ro large)
    (λ n1. if_cases (Fits limit) (cmd == 2) _ _ (λ rw_. jump-fits core limit Rw large)
    (λ n2. if_cases (Fits limit) (cmd == 4) _ _ (λ cold. tt)
    (λ n4. if_cases (Fits limit) (cmd == 5) _ _ (λ disable. omega (arith, large)) (λ other. omega (arith, large)))))))

-- each row
row-fits : (core : Core) (limit : ℕ) (command : Command) (version : ℕ) (body : List ℕ) → 128 ≤ limit → IsHashable (length core.flash) core.live.hash core.nonce → Fits limit (row core limit command version body)
row-fits core limit Proto version body large hashable = omega (arith, large)
row-fits core limit Hello version body large hashable = omega (arith, large)
row-fits core limit Version version body large hashable = version-fits core limit large
row-fits core limit Chip version body large hashable = omega (arith, large)
row-fits core limit CmdVersions version body large hashable = mask-fits core limit (known (if version == 0 then slice_index body 0 else u16_at 0 body)) large
row-fits core limit Comms version body large hashable = omega (arith, large)
row-fits core limit Test version body large hashable = test-fits core limit body large
row-fits core limit ProtoInfo version body large hashable = omega (arith, large)
row-fits core limit FlashInfo version body large hashable = either-fits core limit (version == 0) _ _ (omega (arith, large)) (omega (arith, large))
row-fits core limit FlashRead version body large hashable = read-fits core limit body large
row-fits core limit FlashWrite version body large hashable = unless-fits core limit (write_refusal core version body) _ large (λ none. omega (arith, large))
row-fits core limit FlashErase version body large hashable = unless-fits core limit (erase_refusal core body) _ large (λ none. omega (arith, large))
row-fits core limit FlashProtect version body large hashable = omega (arith, large)
row-fits core limit RegionInfo version body large hashable = range-fits core limit (region_range (u32_at 0 body) (length core.flash)) large
row-fits core limit Sysinfo version body large hashable = omega (arith, large)
row-fits core limit VbootHash version body large hashable = hash-fits core limit body large hashable
row-fits core limit Reboot version body large hashable = reboot-fits core limit body large
row-fits core limit Resend version body large hashable = omega (arith, large)

-- the row of an admitted command, or the refusal
row_of-fits : (core : Core) (limit : ℕ) (result : Result Admitted ℕ) → 128 ≤ limit → IsCoreValid core → Fits limit (row_of core limit result)
row_of-fits core limit (Err status) large valid = omega (arith, large)
row_of-fits core limit (Ok found) large valid = row-fits core limit found.command found.version found.body large valid.hash

-- the response to a packet
pub handled-fits : (core : Core) (limit : ℕ) (packet : List ℕ) → 128 ≤ limit → IsCoreValid core → Fits limit (handled core limit packet)
handled-fits core limit packet large valid = row_of-fits core limit (asked core packet) large valid
