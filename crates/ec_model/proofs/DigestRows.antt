-- Behind every row a digest that is shown was shown before, and its range stayed as it was.
use Rattle.std.proofs.Common.{◌≡◌, refl, ℕ, ◌+◌, Bool, true, false, not, ◌||◌, ◌==◌, nat_lt, if◌then◌else◌, List, [], ◌∷◌, length, take, drop, arith, Option, Some, None, Result, Ok, Err, slice_index}
use Rattle.std.specs.Prelude.{is_none}
use Rattle.std.specs.Bool.{⊤}
use Rattle.ec_types.specs.LittleEndian.{u16_at, u32_at}
use Rattle.ec_types.specs.declared.image.ImageCopy.{ImageCopy}
use Rattle.ec_types.specs.declared.image.ImageCopy.TheVariants.{Ro, Rw}
use Rattle.ec_model.specs.declared.live.HashView.{HashView}
use Rattle.ec_model.specs.declared.live.HashView.TheVariants.{Idle, Busy, Done}
use Rattle.ec_model.specs.Ranges.{Range, region_range}
use Rattle.ec_model.specs.Packet.{framing}
use Rattle.ec_model.specs.Commands.{Command, known, is_spelled, is_write_spelled, Proto, Hello, Version, Chip, CmdVersions, Comms, Test, ProtoInfo, FlashInfo, FlashRead, FlashWrite, FlashErase, FlashProtect, RegionInfo, Sysinfo, VbootHash, Reboot, Resend}
use Rattle.ec_model.specs.Table.{Core}
use Rattle.ec_model.specs.Hash.{IsKeptDigest}
use Rattle.ec_model.specs.Operations.{Program, after_operations}
use Rattle.ec_model.specs.Answer.{Outcome, Answered, Restarts, done, unless_refused}
use Rattle.ec_model.specs.InfoRows.{mask_told, range_told, test_row}
use Rattle.ec_model.specs.FlashRows.{read_refusal, write_refusal, written, flash_write_row, erase_refusal, flash_erase_row}
use Rattle.ec_model.specs.ProtectRow.{protect_operations, locks_set, can_lock, protected}
use Rattle.ec_model.specs.HashRow.{vboot_hash_row, hash_start_row, hash_asked, hash_range}
use Rattle.ec_model.specs.Jump.{same_copy, is_denied, has_vector, kept_hash, keeps_all}
use Rattle.ec_model.specs.RebootRow.{jump_row, reboot_row}
use Rattle.ec_model.specs.Handle.{Admitted, row, row_of, asked, handled}
use Rattle.ec_model.proofs.GuardSteps.{if_cases, accepted, and_parts, same_size}
use Rattle.ec_model.proofs.GuardWork.{spelled_from}
use Rattle.ec_model.proofs.ValidRows.{IsCoreValid, protect-inside}
use Rattle.ec_model.proofs.DigestLemmas.{touched_by-kept}

-- each digest that is shown behind was shown before, with its range as it was
abbrev pub KeepsDigests : Core → Core → Type 0
KeepsDigests core after = (at size : ℕ) (digest : List ℕ) → after.live.hash ≡ Done at size digest → IsKeptDigest core.live.hash core.flash after.flash at size digest

-- the same of what is answered
abbrev pub KeepsDigestsOutcome : Core → Outcome → Type 0
KeepsDigestsOutcome core (Answered after status body) = KeepsDigests core after
KeepsDigestsOutcome core Restarts = ⊤

pub digests-self : (core : Core) → KeepsDigests core core
digests-self core at size digest shown = record { shown = shown; bytes = refl }

mask-digests : (core : Core) (mask : Option ℕ) → KeepsDigestsOutcome core (mask_told core mask)
mask-digests core None = digests-self core
mask-digests core (Some mask) = digests-self core

range-digests : (core : Core) (range : Option Range) → KeepsDigestsOutcome core (range_told core range)
range-digests core None = digests-self core
range-digests core (Some range) = digests-self core

test-digests : (core : Core) (body : List ℕ) → KeepsDigestsOutcome core (test_row core body)
test-digests core body =
    if_cases (KeepsDigestsOutcome core) (nat_lt 20 (u32_at 0 body)) _ _ (λ large. digests-self core)
    (λ small. if_cases (KeepsDigestsOutcome core) (u32_at 0 body == 0) _ _ (λ zero_result. digests-self core) (λ other. digests-self core))

unless-digests : (core : Core) (refusal : Option ℕ) (outcome : Outcome) → (is_none refusal ≡ true → KeepsDigestsOutcome core outcome) → KeepsDigestsOutcome core (unless_refused refusal core outcome)
unless-digests core None outcome keeps = keeps refl
unless-digests core (Some status) outcome keeps = digests-self core

write-digests : (core : Core) (version : ℕ) (body : List ℕ) → is_write_spelled body ≡ true → KeepsDigestsOutcome core (flash_write_row core version body)
write-digests core version body spelled =
    let bytes = drop 8 body in
    let at = u32_at 0 body in
    unless-digests core (write_refusal core version body) (done (written at bytes core)) (λ none.
    let ok = accepted core version body none in
    let size = (and_parts _ (length body == 8 + u32_at 4 body) spelled).1 in
    λ place count digest shown. touched_by-kept (Program at bytes ∷ []) core core.flash (length core.flash) place count digest refl
    (record { above = omega arith; inside = same_size core body size ok.inside }, tt) shown)

erase-digests : (core : Core) (body : List ℕ) → KeepsDigestsOutcome core (flash_erase_row core body)
erase-digests core body = unless-digests core (erase_refusal core body) _ (λ none at size digest shown. record { shown = shown; bytes = refl })

-- locks that are set leave the hash and the flash
locks-digests : (mask flags : ℕ) (core stored_core : Core) → KeepsDigests core stored_core → KeepsDigests core (locks_set mask flags stored_core)
locks-digests mask flags core stored_core keeps =
    if_cases (KeepsDigests core) (can_lock stored_core) _ stored_core (λ can. keeps) (λ cannot. keeps)

protect-digests : (core : Core) (mask flags : ℕ) → IsCoreValid core → KeepsDigests core (protected mask flags core)
protect-digests core mask flags valid =
    locks-digests mask flags core (after_operations (protect_operations core mask flags) core) (λ at size digest shown.
    touched_by-kept (protect_operations core mask flags) core core.flash (length core.flash) at size digest refl (protect-inside core mask flags valid) shown)

asked-digests : (core : Core) (range : Option Range) (nonce : List ℕ) → KeepsDigestsOutcome core (hash_asked range nonce core)
asked-digests core None nonce = digests-self core
asked-digests core (Some range) nonce = λ at size digest shown. cc

start-digests : (core : Core) (body : List ℕ) → KeepsDigestsOutcome core (hash_start_row core body)
start-digests core body =
    if_cases (KeepsDigestsOutcome core) (not (slice_index body 1 == 0) || nat_lt 64 (slice_index body 2)) _ _ (λ wrong. digests-self core)
    (λ right. asked-digests core (hash_range (length core.flash) (u32_at 4 body) (u32_at 8 body)) (take (slice_index body 2) (drop 12 body)))

hash-digests : (core : Core) (body : List ℕ) → KeepsDigestsOutcome core (vboot_hash_row core body)
hash-digests core body =
    if_cases (KeepsDigestsOutcome core) (slice_index body 0 == 0) _ _ (λ get. digests-self core)
    (λ not_get. if_cases (KeepsDigestsOutcome core) (slice_index body 0 == 1) _ _ (λ abort at size digest shown. cc)
    (λ not_abort. if_cases (KeepsDigestsOutcome core) (slice_index body 0 == 2) _ _ (λ start. start-digests core body) (λ other. digests-self core)))

-- a hash that is kept over a jump was there before
kept-done : (hash : HashView) (at size : ℕ) (digest : List ℕ) → kept_hash hash ≡ Done at size digest → hash ≡ Done at size digest
kept-done Idle at size digest shown = cc
kept-done (Busy place count left) at size digest shown = cc
kept-done (Done place count shown_digest) at size digest shown = shown

kept-all : (all : Bool) (hash : HashView) (at size : ℕ) (digest : List ℕ) → (if all then kept_hash hash else Idle) ≡ Done at size digest → hash ≡ Done at size digest
kept-all true hash at size digest shown = kept-done hash at size digest shown
kept-all false hash at size digest shown = cc

jump-digests : (core : Core) (target : ImageCopy) → KeepsDigestsOutcome core (jump_row target core)
jump-digests core target =
    if_cases (KeepsDigestsOutcome core) (same_copy target core.live.copy) _ _ (λ runs. digests-self core)
    (λ other. if_cases (KeepsDigestsOutcome core) (is_denied core target) _ _ (λ denied. digests-self core)
    (λ granted. if_cases (KeepsDigestsOutcome core) (not (has_vector core.flash target)) _ _ (λ outside. digests-self core)
    (λ jumps at size digest shown. record { shown = kept-all (keeps_all core.flash core.live.copy) core.live.hash at size digest shown; bytes = refl })))

reboot-digests : (core : Core) (body : List ℕ) → KeepsDigestsOutcome core (reboot_row core body)
reboot-digests core body =
    let cmd = slice_index body 0 in
    if_cases (KeepsDigestsOutcome core) (not (slice_index body 1 == 0)) _ _ (λ wrong. digests-self core)
    (λ right. if_cases (KeepsDigestsOutcome core) (cmd == 0) _ _ (λ cancel. digests-self core)
    (λ n0. if_cases (KeepsDigestsOutcome core) (cmd == 1) _ _ (λ ro. jump-digests core Ro)
    (λ n1. if_cases (KeepsDigestsOutcome core) (cmd == 2) _ _ (λ rw_. jump-digests core Rw)
    (λ n2. if_cases (KeepsDigestsOutcome core) (cmd == 4) _ _ (λ cold. tt)
    (λ n4. if_cases (KeepsDigestsOutcome core) (cmd == 5) _ _ (λ disable at size digest shown. record { shown = shown; bytes = refl }) (λ other. digests-self core))))))

-- each row that is asked by a spelled body
row-digests : (core : Core) (limit : ℕ) (command : Command) (version : ℕ) (body : List ℕ) → IsCoreValid core → is_spelled command version body ≡ true → KeepsDigestsOutcome core (row core limit command version body)
row-digests core limit Proto version body valid spelled = digests-self core
row-digests core limit Hello version body valid spelled = digests-self core
row-digests core limit Version version body valid spelled = digests-self core
row-digests core limit Chip version body valid spelled = digests-self core
row-digests core limit CmdVersions version body valid spelled = mask-digests core (known (if version == 0 then slice_index body 0 else u16_at 0 body))
row-digests core limit Comms version body valid spelled = digests-self core
row-digests core limit Test version body valid spelled = test-digests core body
row-digests core limit ProtoInfo version body valid spelled = digests-self core
row-digests core limit FlashInfo version body valid spelled = digests-self core
row-digests core limit FlashRead version body valid spelled = unless-digests core (read_refusal core limit body) _ (λ none. digests-self core)
row-digests core limit FlashWrite version body valid spelled = write-digests core version body spelled
row-digests core limit FlashErase version body valid spelled = erase-digests core body
row-digests core limit FlashProtect version body valid spelled = protect-digests core (u32_at 0 body) (u32_at 4 body) valid
row-digests core limit RegionInfo version body valid spelled = range-digests core (region_range (u32_at 0 body) (length core.flash))
row-digests core limit Sysinfo version body valid spelled = digests-self core
row-digests core limit VbootHash version body valid spelled = hash-digests core body
row-digests core limit Reboot version body valid spelled = reboot-digests core body
row-digests core limit Resend version body valid spelled = λ at size digest shown. record { shown = shown; bytes = refl }

row_of-digests : (core : Core) (limit : ℕ) (result : Result Admitted ℕ) → IsCoreValid core → ((found : Admitted) → result ≡ Ok found → is_spelled found.command found.version found.body ≡ true) → KeepsDigestsOutcome core (row_of core limit result)
row_of-digests core limit (Err status) valid spelled = digests-self core
row_of-digests core limit (Ok found) valid spelled = row-digests core limit found.command found.version found.body valid (spelled found refl)

-- each packet
pub handled-digests : (core : Core) (limit : ℕ) (bytes : List ℕ) → IsCoreValid core → KeepsDigestsOutcome core (handled core limit bytes)
handled-digests core limit bytes valid = row_of-digests core limit (asked core bytes) valid (spelled_from core (framing bytes))
