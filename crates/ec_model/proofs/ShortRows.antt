-- Every reply on LPC fits its window.
use Rattle.std.proofs.Common.{◌≡◌, refl, ℕ, ◌+◌, ◌-◌, ◌≤◌, Bool, true, false, not, ◌||◌, ◌==◌, nat_lt, if◌then◌else◌, List, ◌++◌, length, take, drop, min, arith, Option, Some, None, slice_index, length-take, length-append, replicate}
use Rattle.std.proofs.lemmas.List.{length-replicate}
use Rattle.std.specs.Prelude.{is_none, take_while}
use Rattle.std.specs.Bool.{⊤}
use Rattle.std.proofs.lemmas.Bool.Decides.{leb_tells}
use Rattle.ec_types.specs.LittleEndian.{u16_at, u32_at, u32_bytes}
use Rattle.ec_types.specs.declared.image.ImageCopy.{ImageCopy}
use Rattle.ec_types.specs.declared.image.ImageCopy.TheVariants.{Ro, Rw}
use Rattle.ec_model.specs.declared.live.HashView.{HashView}
use Rattle.ec_model.specs.declared.live.HashView.TheVariants.{Idle, Busy, Done}
use Rattle.ec_model.specs.Ranges.{Range, region_range, part, ends_within}
use Rattle.ec_model.specs.Commands.{Command, known, Proto, Hello, Version, Chip, CmdVersions, Comms, Test, ProtoInfo, FlashInfo, FlashRead, FlashWrite, FlashErase, FlashProtect, RegionInfo, Sysinfo, VbootHash, Reboot, Resend}
use Rattle.ec_model.specs.Table.{Core, IsHashable}
use Rattle.ec_model.specs.Answer.{Outcome, Answered, Restarts, told, unless_refused}
use Rattle.ec_model.specs.InfoRows.{mask_told, range_told, test_row, version_text, zero_padded, is_shown, raw_version, version_row, copy_number}
use Rattle.ec_model.specs.FlashRows.{asked_range, read_refusal, flash_read_row, write_refusal, erase_refusal}
use Rattle.ec_model.specs.HashRow.{vboot_hash_row, hash_start_row, hash_asked, hash_range, hash_bytes}
use Rattle.ec_model.specs.Jump.{same_copy, is_denied, has_vector}
use Rattle.ec_model.specs.RebootRow.{jump_row, reboot_row}
use Rattle.ec_model.specs.Handle.{row}
use Rattle.ec_model.proofs.GuardSteps.{if_cases}

-- what is answered has at most 248 bytes
abbrev pub IsShort : Outcome → Type 0
IsShort (Answered after status body) = length body ≤ 248
IsShort Restarts = ⊤

-- bytes that are padded have the length that they are padded to
length-zero_padded : (size : ℕ) (bytes : List ℕ) → length bytes ≤ size → length (zero_padded size bytes) ≡ size
length-zero_padded size bytes short = omega (arith, length-append bytes (replicate (size - length bytes) 0), length-replicate {A = ℕ} (size - length bytes) 0)

-- a version's text has 32 bytes
length-version_text : (raw : List ℕ) → length (version_text raw) ≡ 32
length-version_text raw = length-zero_padded 32 (take 31 (take_while is_shown raw)) (omega (arith, length-take 31 (take_while is_shown raw)))

version-short : (core : Core) → IsShort (version_row core)
version-short core =
    let ro = version_text (raw_version Ro core.flash) in
    let rw_ = version_text (raw_version Rw core.flash) in
    let one = length-append ro rw_ in
    let two = length-append (ro ++ rw_) (replicate 32 0) in
    omega (arith, length-append (ro ++ rw_ ++ replicate 32 0) (u32_bytes (copy_number core.live.copy)), two, one, length-version_text (raw_version Ro core.flash), length-version_text (raw_version Rw core.flash))

-- of two bodies, each short
short-if : (core : Core) (test : Bool) (a b : List ℕ) → length a ≤ 248 → length b ≤ 248 → IsShort (told core (if test then a else b))
short-if core true a b first second = first
short-if core false a b first second = second

mask-short : (core : Core) (mask : Option ℕ) → IsShort (mask_told core mask)
mask-short core None = omega arith
mask-short core (Some mask) = omega arith

range-short : (core : Core) (range : Option Range) → IsShort (range_told core range)
range-short core None = omega arith
range-short core (Some range) = omega arith

test-short : (core : Core) (body : List ℕ) → IsShort (test_row core body)
test-short core body =
    if_cases IsShort (nat_lt 20 (u32_at 0 body)) _ _ (λ large. omega arith)
    (λ small. if_cases IsShort (u32_at 0 body == 0) _ _
    (λ zero_result. omega (arith, length-take (min (u32_at 4 body) 32) (drop 8 body))) (λ other. omega arith))

unless-short : (core : Core) (refusal : Option ℕ) (outcome : Outcome) → (is_none refusal ≡ true → IsShort outcome) → IsShort (unless_refused refusal core outcome)
unless-short core None outcome short = short refl
unless-short core (Some status) outcome short = omega arith

-- why a read is refused, by its two tests
read_cases : (outside large : Bool) → is_none {T = ℕ} (if outside then Some 3 else if large then Some 11 else None) ≡ true → (outside ≡ false) × (large ≡ false)
read_cases true large none = cc
read_cases false true none = cc
read_cases false false none = (refl, refl)

-- a part is no longer than its range
part-short : (range : Range) (bytes : List ℕ) → length (part range bytes) ≤ range.size
part-short range bytes = omega (arith, length-take (range.at + range.size - range.at) (drop range.at bytes))

read-short : (core : Core) (body : List ℕ) → IsShort (flash_read_row core 256 body)
read-short core body =
    unless-short core (read_refusal core 256 body) _ (λ none.
    let tests = read_cases (not (ends_within (length core.flash) (asked_range body))) (nat_lt (256 - 8) (asked_range body).size) none in
    let small : (asked_range body).size ≤ 248 = grind (arith, leb_tells) in
    omega (arith, part-short (asked_range body) core.flash, small))

hash_bytes-short : (size : ℕ) (hash : HashView) (nonce : List ℕ) → IsHashable size hash nonce → length (hash_bytes hash) ≤ 248
hash_bytes-short size Idle nonce hashable = omega arith
hash_bytes-short size (Busy at count left) nonce hashable = omega arith
hash_bytes-short size (Done at count digest) nonce hashable = omega (arith, length-append digest (replicate 32 0), hashable.2)

asked-short : (core : Core) (range : Option Range) (nonce : List ℕ) → IsShort (hash_asked range nonce core)
asked-short core None nonce = omega arith
asked-short core (Some range) nonce = omega arith

start-short : (core : Core) (body : List ℕ) → IsShort (hash_start_row core body)
start-short core body =
    if_cases IsShort (not (slice_index body 1 == 0) || nat_lt 64 (slice_index body 2)) _ _ (λ wrong. omega arith)
    (λ right. asked-short core (hash_range (length core.flash) (u32_at 4 body) (u32_at 8 body)) (take (slice_index body 2) (drop 12 body)))

hash-short : (core : Core) (body : List ℕ) → IsHashable (length core.flash) core.live.hash core.nonce → IsShort (vboot_hash_row core body)
hash-short core body hashable =
    if_cases IsShort (slice_index body 0 == 0) _ _ (λ get. hash_bytes-short (length core.flash) core.live.hash core.nonce hashable)
    (λ not_get. if_cases IsShort (slice_index body 0 == 1) _ _ (λ abort. omega arith)
    (λ not_abort. if_cases IsShort (slice_index body 0 == 2) _ _ (λ start. start-short core body) (λ other. omega arith)))

jump-short : (core : Core) (target : ImageCopy) → IsShort (jump_row target core)
jump-short core target =
    if_cases IsShort (same_copy target core.live.copy) _ _ (λ runs. omega arith)
    (λ other. if_cases IsShort (is_denied core target) _ _ (λ denied. omega arith)
    (λ granted. if_cases IsShort (not (has_vector core.flash target)) _ _ (λ outside. omega arith) (λ jumps. omega arith)))

reboot-short : (core : Core) (body : List ℕ) → IsShort (reboot_row core body)
reboot-short core body =
    let cmd = slice_index body 0 in
    if_cases IsShort (not (slice_index body 1 == 0)) _ _ (λ wrong. omega arith)
    (λ right. if_cases IsShort (cmd == 0) _ _ (λ cancel. omega arith)
    (λ n0. if_cases IsShort (cmd == 1) _ _ (λ ro. jump-short core Ro)
    (λ n1. if_cases IsShort (cmd == 2) _ _ (λ rw_. jump-short core Rw)
    (λ n2. if_cases IsShort (cmd == 4) _ _ (λ cold. tt)
    (λ n4. if_cases IsShort (cmd == 5) _ _ (λ disable. omega arith) (λ other. omega arith))))))

-- each row over LPC
pub row-short : (core : Core) (command : Command) (version : ℕ) (body : List ℕ) → IsHashable (length core.flash) core.live.hash core.nonce → IsShort (row core 256 command version body)
row-short core Proto version body hashable = omega arith
row-short core Hello version body hashable = omega arith
row-short core Version version body hashable = version-short core
row-short core Chip version body hashable = omega arith
row-short core CmdVersions version body hashable = mask-short core (known (if version == 0 then slice_index body 0 else u16_at 0 body))
row-short core Comms version body hashable = omega arith
row-short core Test version body hashable = test-short core body
row-short core ProtoInfo version body hashable = omega arith
row-short core FlashInfo version body hashable = short-if core (version == 0) _ _ (omega arith) (omega arith)
row-short core FlashRead version body hashable = read-short core body
row-short core FlashWrite version body hashable = unless-short core (write_refusal core version body) _ (λ none. omega arith)
row-short core FlashErase version body hashable = unless-short core (erase_refusal core body) _ (λ none. omega arith)
row-short core FlashProtect version body hashable = omega arith
row-short core RegionInfo version body hashable = range-short core (region_range (u32_at 0 body) (length core.flash))
row-short core Sysinfo version body hashable = omega arith
row-short core VbootHash version body hashable = hash-short core body hashable
row-short core Reboot version body hashable = reboot-short core body
row-short core Resend version body hashable = omega arith
