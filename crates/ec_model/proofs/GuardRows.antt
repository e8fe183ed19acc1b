-- Every row keeps the pin, and, while RO is locked, the lock and what is guarded.
use Rattle.std.proofs.Common.{◌≡◌, refl, ◌∙◌, subst, ℕ, ◌+◌, ◌/◌, true, not, ◌||◌, ◌==◌, nat_lt, if◌then◌else◌, List, [], ◌∷◌, length, take, drop, Option, Some, None, slice_index}
use Rattle.std.specs.Prelude.{is_none}
use Rattle.std.specs.Bool.{⊤}
use Rattle.ec_types.specs.LittleEndian.{u16_at, u32_at}
use Rattle.ec_types.specs.declared.image.ImageCopy.{ImageCopy}
use Rattle.ec_types.specs.declared.image.ImageCopy.TheVariants.{Ro, Rw}
use Rattle.ec_model.specs.declared.live.Live.{Live}
use Rattle.ec_model.specs.Ranges.{Range, region_range}
use Rattle.ec_model.specs.Commands.{Command, known, is_spelled, is_write_spelled, Proto, Hello, Version, Chip, CmdVersions, Comms, Test, ProtoInfo, FlashInfo, FlashRead, FlashWrite, FlashErase, FlashProtect, RegionInfo, Sysinfo, VbootHash, Reboot, Resend}
use Rattle.ec_model.specs.Table.{Core}
use Rattle.ec_model.specs.Hash.{touched, is_hash_over, without_hash}
use Rattle.ec_model.specs.Operations.{Operation, Program, operation_range, touched_by, after_operations}
use Rattle.ec_model.specs.Answer.{Outcome, Answered, Restarts, done, unless_refused}
use Rattle.ec_model.specs.InfoRows.{mask_told, range_told, test_row}
use Rattle.ec_model.specs.FlashRows.{asked_range, read_refusal, write_refusal, written, flash_write_row, erase_refusal, flash_erase_row}
use Rattle.ec_model.specs.ProtectRow.{protect_operations, locks_set, can_lock, protected}
use Rattle.ec_model.specs.HashRow.{vboot_hash_row, hash_start_row, hash_asked, hash_range}
use Rattle.ec_model.specs.Jump.{same_copy, is_denied, has_vector}
use Rattle.ec_model.specs.RebootRow.{jump_row, reboot_row}
use Rattle.ec_model.specs.Handle.{row}
use Rattle.ec_model.proofs.GuardLemmas.{Leaves, leaves-refl, leaves-trans, leaves-operated, leaves-operated_all}
use Rattle.ec_model.proofs.GuardSteps.{if_cases, accepted, above_guarded, and_parts, same_size}
use Rattle.ec_model.proofs.GuardWork.{protect-above}

-- the pin stays, and while RO is locked the lock and the guarded bytes
pub record Keeps (core after : Core) : Type 0 where
  pub pin : after.pin ≡ core.pin
  pub locked : core.live.ro_now ≡ true → after.live.ro_now ≡ true
  pub flash : core.live.ro_now ≡ true → Leaves (length core.flash / 2) core.flash after.flash

-- the same of what is answered
abbrev pub KeepsOutcome : Core → Outcome → Type 0
KeepsOutcome core (Answered after status body) = Keeps core after
KeepsOutcome core Restarts = ⊤

pub keeps-self : (core : Core) → Keeps core core
keeps-self core = record { pin = refl; locked = λ locked. locked; flash = λ locked. leaves-refl (length core.flash / 2) core.flash }

-- a change of the hash, or of anything but the pin, the flash and the lock
keeps-live : (core : Core) (live : Live) (nonce : List ℕ) → live.ro_now ≡ core.live.ro_now → Keeps core (record { flash = core.flash; pin = core.pin; live = live; nonce = nonce })
keeps-live core live nonce same = record { pin = refl; locked = λ locked. same ∙ locked; flash = λ locked. leaves-refl (length core.flash / 2) core.flash }

pub keeps-touched : (range : Range) (core : Core) → Keeps core (touched range core)
keeps-touched range core = if_cases (Keeps core) (is_hash_over range core.live.hash) (without_hash core) core (λ over. keeps-live core _ [] refl) (λ apart. keeps-self core)

-- what a touch leaves as it was
pub record Same (core after : Core) : Type 0 where
  pub pin : after.pin ≡ core.pin
  pub ro_now : after.live.ro_now ≡ core.live.ro_now
  pub flash : after.flash ≡ core.flash

pub same-touched : (range : Range) (core : Core) → Same core (touched range core)
same-touched range core = if_cases (Same core) (is_hash_over range core.live.hash) (without_hash core) core (λ over. record { pin = refl; ro_now = refl; flash = refl }) (λ apart. record { pin = refl; ro_now = refl; flash = refl })

pub same-touched_by : (operations : List Operation) (core : Core) → Same core (touched_by operations core)
same-touched_by [] core = record { pin = refl; ro_now = refl; flash = refl }
same-touched_by (operation ∷ operations) core =
    let one = same-touched (operation_range operation) core in
    let rest = same-touched_by operations (touched (operation_range operation) core) in
    record { pin = rest.pin ∙ one.pin; ro_now = rest.ro_now ∙ one.ro_now; flash = rest.flash ∙ one.flash }

mask-keeps : (core : Core) (mask : Option ℕ) → KeepsOutcome core (mask_told core mask)
mask-keeps core None = keeps-self core
mask-keeps core (Some mask) = keeps-self core

range-keeps : (core : Core) (range : Option Range) → KeepsOutcome core (range_told core range)
range-keeps core None = keeps-self core
range-keeps core (Some range) = keeps-self core

test-keeps : (core : Core) (body : List ℕ) → KeepsOutcome core (test_row core body)
test-keeps core body =
    if_cases (KeepsOutcome core) (nat_lt 20 (u32_at 0 body)) _ _ (λ large. keeps-self core)
    (λ small. if_cases (KeepsOutcome core) (u32_at 0 body == 0) _ _ (λ zero_result. keeps-self core) (λ other. keeps-self core))

-- what is answered unless there is a refusal
unless-keeps : (core : Core) (refusal : Option ℕ) (outcome : Outcome) → (is_none refusal ≡ true → KeepsOutcome core outcome) → KeepsOutcome core (unless_refused refusal core outcome)
unless-keeps core None outcome keeps = keeps refl
unless-keeps core (Some status) outcome keeps = keeps-self core

write-keeps : (core : Core) (version : ℕ) (body : List ℕ) → is_write_spelled body ≡ true → KeepsOutcome core (flash_write_row core version body)
write-keeps core version body spelled =
    let bytes = drop 8 body in
    let at = u32_at 0 body in
    unless-keeps core (write_refusal core version body) (done (written at bytes core)) (λ none.
    let same = same-touched (record { at = at; size = length bytes }) core in
    let ok = accepted core version body none in
    let size = (and_parts _ (length body == 8 + u32_at 4 body) spelled).1 in
    record {
      pin = same.pin;
      locked = λ locked. same.ro_now ∙ locked;
      flash = λ locked. leaves-operated (length core.flash / 2) (Program at bytes) core.flash (record {
        above = above_guarded (length core.flash) core.live (asked_range body) locked ok.some ok.free;
        inside = same_size core body size ok.inside;
      });
    })

-- the lock stays where more is locked
locks-keep : (mask flags : ℕ) (core : Core) → Keeps core (locks_set mask flags core)
locks-keep mask flags core =
    if_cases (Keeps core) (can_lock core) _ core
    (λ can. record { pin = refl; locked = λ locked. rw locked refl; flash = λ locked. leaves-refl (length core.flash / 2) core.flash })
    (λ cannot. keeps-self core)

pub protect-keeps : (core : Core) (mask flags : ℕ) → Keeps core (protected mask flags core)
protect-keeps core mask flags =
    let operations = protect_operations core mask flags in
    let stored_core = after_operations operations core in
    let same = same-touched_by operations core in
    let locks = locks-keep mask flags stored_core in
    record {
      pin = locks.pin ∙ same.pin;
      locked = λ locked. locks.locked (same.ro_now ∙ locked);
      flash = λ locked.
          let one = leaves-operated_all (length core.flash / 2) (length core.flash) operations core.flash refl (protect-above core mask flags locked) in
          leaves-trans (length core.flash / 2) core.flash stored_core.flash (protected mask flags core).flash one
          (subst (λ (n : ℕ). Leaves (n / 2) stored_core.flash (protected mask flags core).flash) one.size (locks.flash (same.ro_now ∙ locked)));
    }

erase-keeps : (core : Core) (body : List ℕ) → KeepsOutcome core (flash_erase_row core body)
erase-keeps core body = unless-keeps core (erase_refusal core body) _ (λ none. keeps-live core _ core.nonce refl)

asked-keeps : (core : Core) (range : Option Range) (nonce : List ℕ) → KeepsOutcome core (hash_asked range nonce core)
asked-keeps core None nonce = keeps-self core
asked-keeps core (Some range) nonce = keeps-live core _ nonce refl

start-keeps : (core : Core) (body : List ℕ) → KeepsOutcome core (hash_start_row core body)
start-keeps core body =
    if_cases (KeepsOutcome core) (not (slice_index body 1 == 0) || nat_lt 64 (slice_index body 2)) _ _ (λ wrong. keeps-self core)
    (λ right. asked-keeps core (hash_range (length core.flash) (u32_at 4 body) (u32_at 8 body)) (take (slice_index body 2) (drop 12 body)))

hash-keeps : (core : Core) (body : List ℕ) → KeepsOutcome core (vboot_hash_row core body)
hash-keeps core body =
    if_cases (KeepsOutcome core) (slice_index body 0 == 0) _ _ (λ get. keeps-self core)
    (λ not_get. if_cases (KeepsOutcome core) (slice_index body 0 == 1) _ _ (λ abort. keeps-live core _ [] refl)
    (λ not_abort. if_cases (KeepsOutcome core) (slice_index body 0 == 2) _ _ (λ start. start-keeps core body) (λ other. keeps-self core)))

jump-keeps : (core : Core) (target : ImageCopy) → KeepsOutcome core (jump_row target core)
jump-keeps core target =
    if_cases (KeepsOutcome core) (same_copy target core.live.copy) _ _ (λ runs. keeps-self core)
    (λ other. if_cases (KeepsOutcome core) (is_denied core target) _ _ (λ denied. keeps-self core)
    (λ granted. if_cases (KeepsOutcome core) (not (has_vector core.flash target)) _ _ (λ outside. keeps-self core) (λ jumps. keeps-live core _ [] refl)))

reboot-keeps : (core : Core) (body : List ℕ) → KeepsOutcome core (reboot_row core body)
reboot-keeps core body =
    let cmd = slice_index body 0 in
    if_cases (KeepsOutcome core) (not (slice_index body 1 == 0)) _ _ (λ wrong. keeps-self core)
    (λ right. if_cases (KeepsOutcome core) (cmd == 0) _ _ (λ cancel. keeps-self core)
    (λ n0. if_cases (KeepsOutcome core) (cmd == 1) _ _ (λ ro. jump-keeps core Ro)
    (λ n1. if_cases (KeepsOutcome core) (cmd == 2) _ _ (λ rw_. jump-keeps core Rw)
    (λ n2. if_cases (KeepsOutcome core) (cmd == 4) _ _ (λ cold. tt)
    (λ n4. if_cases (KeepsOutcome core) (cmd == 5) _ _ (λ disable. keeps-live core _ core.nonce refl) (λ other. keeps-self core))))))

-- each row that is asked by a spelled body
pub row-keeps : (core : Core) (limit : ℕ) (command : Command) (version : ℕ) (body : List ℕ) → is_spelled command version body ≡ true → KeepsOutcome core (row core limit command version body)
row-keeps core limit Proto version body spelled = keeps-self core
row-keeps core limit Hello version body spelled = keeps-self core
row-keeps core limit Version version body spelled = keeps-self core
row-keeps core limit Chip version body spelled = keeps-self core
row-keeps core limit CmdVersions version body spelled = mask-keeps core (known (if version == 0 then slice_index body 0 else u16_at 0 body))
row-keeps core limit Comms version body spelled = keeps-self core
row-keeps core limit Test version body spelled = test-keeps core body
row-keeps core limit ProtoInfo version body spelled = keeps-self core
row-keeps core limit FlashInfo version body spelled = keeps-self core
row-keeps core limit FlashRead version body spelled = unless-keeps core (read_refusal core limit body) _ (λ none. keeps-self core)
row-keeps core limit FlashWrite version body spelled = write-keeps core version body spelled
row-keeps core limit FlashErase version body spelled = erase-keeps core body
row-keeps core limit FlashProtect version body spelled = protect-keeps core (u32_at 0 body) (u32_at 4 body)
row-keeps core limit RegionInfo version body spelled = range-keeps core (region_range (u32_at 0 body) (length core.flash))
row-keeps core limit Sysinfo version body spelled = keeps-self core
row-keeps core limit VbootHash version body spelled = hash-keeps core body
row-keeps core limit Reboot version body spelled = reboot-keeps core body
row-keeps core limit Resend version body spelled = keeps-live core _ core.nonce refl
