-- What a FLASH_READ, a FLASH_WRITE and a SYSINFO leave of a pending erase: each of them leaves it as it is, and is no success while it is pending.
use Rattle.std.proofs.Common.{◌≡◌, refl, sym, subst, ℕ, ◌-◌, ◌<◌, ◌==◌, Bool, true, false, not, ◌&&◌, ◌||◌, nat_lt, if◌then◌else◌, List, [], length, drop, Option, Some, None, is_some, Result, Ok, Err, arith}
use Rattle.ec_types.specs.LittleEndian.{u32_at}
use Rattle.ec_model.specs.declared.live.EraseJob.{EraseJob}
use Rattle.ec_model.specs.Answer.{Answered, refused, done, unless_refused}
use Rattle.ec_model.specs.Bodies.{flash_read_ask}
use Rattle.ec_model.specs.FlashRows.{asked_range, flash_read_row, flash_write_row, written, is_whole_units}
use Rattle.ec_model.specs.Handle.{Admitted, row_of, admitted_from, handled}
use Rattle.ec_model.specs.Hash.{is_hash_over, without_hash, touched}
use Rattle.ec_model.specs.Packet.{RequestView, request_packet}
use Rattle.ec_model.specs.Ranges.{Range, part, ends_within}
use Rattle.ec_model.specs.Table.{Core, is_blocked}
use Rattle.ec_model.proofs.GuardSteps.{if_cases}
use Rattle.exchange_laws.proofs.Spelled.{framing-spelled}
use Rattle.command_laws.proofs.FewCalls.{KeepsErase}

-- a refusal keeps all
refusal-keeps : (core : Core) (status : ℕ) → ¬ (status ≡ 0) → KeepsErase core (refused core status)
refusal-keeps core status some = (refl, λ none. absurd (some none))

-- no erase is pending where the test for one fails
none-of : (erase : Option EraseJob) (held : Bool) → held ≡ true → (is_some erase && held) ≡ false → erase ≡ None
none-of None held is free = refl
none-of (Some job) held is free = absurd (cc)

-- a command behind the checks, one of which is for a pending erase
checked-keeps : (limit : ℕ) (core : Core) (held spelled : Bool) (admitted : Admitted) → held ≡ true → (core.live.erase ≡ None → KeepsErase core (row_of core limit (Ok admitted))) →
    KeepsErase core (row_of core limit (if is_some core.live.erase && held then Err 16 else if not spelled then Err 3 else Ok admitted))
checked-keeps limit core held spelled admitted is keeps =
    let answers : Result Admitted ℕ → Type 0 = λ result. KeepsErase core (row_of core limit result) in
    if_cases answers (is_some core.live.erase && held) (Err 16) (if not spelled then Err 3 else Ok admitted) (λ busy. refusal-keeps core 16 (λ zero. cc))
    (λ free. if_cases answers (not spelled) (Err 3) (Ok admitted) (λ wrong. refusal-keeps core 3 (λ zero. cc)) (λ right. keeps (none-of core.live.erase held is free)))

-- a request as it is spelled
spelled-keeps : (limit : ℕ) (core : Core) (command version : ℕ) (body : List ℕ) → command < 65536 → length body < 65536 →
    KeepsErase core (row_of core limit (admitted_from core (Ok (record { command = command; version = version; body = body })))) → KeepsErase core (handled core limit (request_packet command version body))
spelled-keeps limit core command version body small short keeps =
    subst (λ (framed : Result RequestView ℕ). KeepsErase core (row_of core limit (admitted_from core framed))) (sym (framing-spelled command version body small short)) keeps

-- FLASH_READ
read-row-keeps : (limit : ℕ) (core : Core) (body : List ℕ) → core.live.erase ≡ None → KeepsErase core (flash_read_row core limit body)
read-row-keeps limit core body none =
    let refusal : Option ℕ → Type 0 = λ refused. KeepsErase core (unless_refused refused core (Answered core 0 (part (asked_range body) core.flash))) in
    if_cases refusal (not (ends_within (length core.flash) (asked_range body))) (Some 3) (if nat_lt (limit - 8) (asked_range body).size then Some 11 else None)
    (λ outside. refusal-keeps core 3 (λ zero. cc))
    (λ within. if_cases refusal (nat_lt (limit - 8) (asked_range body).size) (Some 11) None (λ large. refusal-keeps core 11 (λ zero. cc)) (λ fits. (refl, λ success. none)))

pub read-keeps : (limit : ℕ) (core : Core) (at size : ℕ) → KeepsErase core (handled core limit (request_packet 0x11 0 (flash_read_ask at size)))
read-keeps limit core at size =
    spelled-keeps limit core 0x11 0 (flash_read_ask at size) (omega arith) (omega arith) (checked-keeps limit core true true _ refl (λ none. read-row-keeps limit core (flash_read_ask at size) none))

-- a hash that is dropped
touched-keeps : (range : Range) (core : Core) → (touched range core).live.erase ≡ core.live.erase
touched-keeps range core = if_cases (λ (after : Core). after.live.erase ≡ core.live.erase) (is_hash_over range core.live.hash) (without_hash core) core (λ over. refl) (λ apart. refl)

-- FLASH_WRITE
write-row-keeps : (core : Core) (version : ℕ) (body : List ℕ) → core.live.erase ≡ None → KeepsErase core (flash_write_row core version body)
write-row-keeps core version body none =
    let refusal : Option ℕ → Type 0 = λ refused. KeepsErase core (unless_refused refused core (done (written (u32_at 0 body) (drop 8 body) core))) in
    if_cases refusal (not (is_whole_units 4 core (asked_range body)) || ((version == 0) && nat_lt 64 (asked_range body).size)) (Some 3) (if is_blocked (length core.flash) core.live (asked_range body) then Some 4 else None)
    (λ outside. refusal-keeps core 3 (λ zero. cc))
    (λ within. if_cases refusal (is_blocked (length core.flash) core.live (asked_range body)) (Some 4) None (λ blocked. refusal-keeps core 4 (λ zero. cc))
    (λ open_. (touched-keeps (record { at = u32_at 0 body; size = length (drop 8 body) }) core, λ success. none)))

pub write-keeps : (limit : ℕ) (core : Core) (body : List ℕ) → length body < 65536 → KeepsErase core (handled core limit (request_packet 0x12 1 body))
write-keeps limit core body short =
    spelled-keeps limit core 0x12 1 body (omega arith) short (checked-keeps limit core true _ _ refl (λ none. write-row-keeps core 1 body none))

-- SYSINFO
pub sysinfo-keeps : (limit : ℕ) (core : Core) → KeepsErase core (handled core limit (request_packet 0x1C 0 []))
sysinfo-keeps limit core = spelled-keeps limit core 0x1C 0 [] (omega arith) (omega arith) (checked-keeps limit core true true _ refl (λ none. (refl, λ success. none)))
