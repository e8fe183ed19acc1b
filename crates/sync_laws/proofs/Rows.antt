-- What handling the sync's requests comes to: a refusal while an erase is pending, and else the row of the command.
use Rattle.std.proofs.Common.{◌≡◌, refl, ap, ◌∙◌, ℕ, ◌<◌, ◌&&◌, Bool, true, false, not, if◌then◌else◌, List, [], length, replicate, Option, Some, Result, Ok, Err, arith}
use Rattle.std.specs.Prelude.{is_some}
use Rattle.ec_model.specs.Answer.{Outcome, refused}
use Rattle.ec_model.specs.Bodies.{flash_protect_ask, region_info_ask, vboot_hash_ask, reboot_ask}
use Rattle.ec_model.specs.Commands as table
use Rattle.ec_model.specs.Commands.{Command, CommandLine, line, line_of, offers, is_spelled, is_answered_while_erasing}
use Rattle.ec_model.specs.Handle.{Admitted, row, row_of, admitted_by, admitted_from, handled}
use Rattle.ec_model.specs.HashRow.{vboot_hash_row}
use Rattle.ec_model.specs.InfoRows.{proto_info_row, flash_info_row, region_info_row, version_row}
use Rattle.ec_model.specs.Packet.{RequestView, request_packet}
use Rattle.ec_model.specs.ProtectRow.{flash_protect_row}
use Rattle.ec_model.specs.RebootRow.{reboot_row}
use Rattle.ec_model.specs.Table.{Core}
use Rattle.exchange_laws.proofs.Spelled.{framing-spelled}

-- the outcome, but for a refusal while an erase is pending
abbrev pub unless_pending : Core → Outcome → Outcome
unless_pending core outcome = if is_some core.live.erase then refused core 16 else outcome

-- the checks, of which but one is passed
checks : (core : Core) (limit : ℕ) (found : Admitted) (offered answers spelled pending : Bool) → offered ≡ true → answers ≡ false → spelled ≡ true →
    row_of core limit (if not offered then Err 6 else if pending && not answers then Err 16 else if not spelled then Err 3 else Ok found) ≡ (if pending then refused core 16 else row core limit found.command found.version found.body)
checks core limit found false answers spelled pending is not_so right = absurd (cc)
checks core limit found true true spelled pending is not_so right = absurd (cc)
checks core limit found true false false pending is not_so right = absurd (cc)
checks core limit found true false true true is not_so right = refl
checks core limit found true false true false is not_so right = refl

-- a request that is spelled as its command's
pub numbered-row : (core : Core) (limit number version : ℕ) (body : List ℕ) (command : Command) (mask : ℕ) → number < 65536 → length body < 65536 →
    line_of number ≡ Some (line number command mask) → offers mask version ≡ true → is_answered_while_erasing command ≡ false → is_spelled command version body ≡ true →
    handled core limit (request_packet number version body) ≡ unless_pending core (row core limit command version body)
numbered-row core limit number version body command mask small short found offered answers spelled =
    let request : RequestView = record { command = number; version = version; body = body } in
    let admitted : Admitted = record { command = command; version = version; body = body } in
    ap (λ (framed : Result RequestView ℕ). row_of core limit (admitted_from core framed)) (framing-spelled number version body small short)
    ∙ ap (λ (entry : Option CommandLine). row_of core limit (admitted_by core request entry)) found
    ∙ checks core limit admitted (offers mask version) (is_answered_while_erasing command) (is_spelled command version body) (is_some core.live.erase) offered answers spelled

-- the hash of RW: started, or shown
abbrev pub hash_body : ℕ → List ℕ
hash_body cmd = vboot_hash_ask cmd 0 0 0 0xFFFFFFFD 0 (replicate 64 0)

pub limits-row : (core : Core) (limit : ℕ) → handled core limit (request_packet 0x0B 0 []) ≡ unless_pending core (proto_info_row core limit)
limits-row core limit = numbered-row core limit 0x0B 0 [] table.ProtoInfo 1 (omega arith) (omega arith) refl refl refl refl

pub size-row : (core : Core) (limit : ℕ) → handled core limit (request_packet 0x10 1 []) ≡ unless_pending core (flash_info_row core 1)
size-row core limit = numbered-row core limit 0x10 1 [] table.FlashInfo 3 (omega arith) (omega arith) refl refl refl refl

pub region-row : (core : Core) (limit : ℕ) → handled core limit (request_packet 0x16 1 (region_info_ask 1)) ≡ unless_pending core (region_info_row core (region_info_ask 1))
region-row core limit = numbered-row core limit 0x16 1 (region_info_ask 1) table.RegionInfo 2 (omega arith) (omega arith) refl refl refl refl

pub copy-row : (core : Core) (limit : ℕ) → handled core limit (request_packet 2 0 []) ≡ unless_pending core (version_row core)
copy-row core limit = numbered-row core limit 2 0 [] table.Version 1 (omega arith) (omega arith) refl refl refl refl

pub protect-row : (core : Core) (limit bits : ℕ) → handled core limit (request_packet 0x15 1 (flash_protect_ask bits bits)) ≡ unless_pending core (flash_protect_row core (flash_protect_ask bits bits))
protect-row core limit bits = numbered-row core limit 0x15 1 (flash_protect_ask bits bits) table.FlashProtect 2 (omega arith) (omega arith) refl refl refl refl

pub hash-row : (core : Core) (limit cmd : ℕ) → handled core limit (request_packet 0x2A 0 (hash_body cmd)) ≡ unless_pending core (vboot_hash_row core (hash_body cmd))
hash-row core limit cmd = numbered-row core limit 0x2A 0 (hash_body cmd) table.VbootHash 1 (omega arith) (omega arith) refl refl refl refl

pub reboot-row : (core : Core) (limit cmd : ℕ) → handled core limit (request_packet 0xD2 0 (reboot_ask cmd 0)) ≡ unless_pending core (reboot_row core (reboot_ask cmd 0))
reboot-row core limit cmd = numbered-row core limit 0xD2 0 (reboot_ask cmd 0) table.Reboot 1 (omega arith) (omega arith) refl refl refl refl
