-- A success of a line's command has as many bytes as the line wants.
use Rattle.std.proofs.Common.{◌≡◌, refl, sym, ◌∙◌, subst, ℕ, zero, suc, ◌+◌, ◌-◌, ◌*◌, ◌%◌, ◌^◌, ◌<◌, ◌≤◌, ◌==◌, Bool, true, false, not, ◌&&◌, ◌||◌, nat_lt, if◌then◌else◌, List, [], ◌∷◌, ◌++◌, length, take, drop, min, Option, Some, None, Result, Ok, Err, arith, length-take}
use Rattle.std.specs.Prelude.{is_some, replicate, slice_index, take_while}
use Rattle.std.proofs.lemmas.List.{length-drop, length-append}
use Rattle.std.proofs.lemmas.Bool.Decides.{leb_tells, eqb_tells}
use Rattle.ec_types.specs.LittleEndian.{u16_at, u32_at, u32_bytes}
use Rattle.ec_types.specs.declared.image.ImageCopy.{ImageCopy}
use Rattle.ec_types.specs.declared.image.ImageCopy.TheVariants as copy
use Rattle.ec_model.specs.declared.live.HashView.{HashView}
use Rattle.ec_model.specs.declared.live.HashView.TheVariants.{Idle, Busy, Done}
use Rattle.ec_model.specs.Bodies.{hello_ask, cmd_versions_ask1, region_info_ask, test_ask, flash_read_ask, flash_erase_ask, flash_protect_ask, version_say, vboot_hash_ask, reboot_ask}
use Rattle.ec_model.specs.Packet.{RequestView, request_packet}
use Rattle.ec_model.specs.Ranges.{Range, part, ends_within, region_range}
use Rattle.ec_model.specs.Commands as table
use Rattle.ec_model.specs.Commands.{Command, CommandLine, line, line_of, offers, is_spelled, is_answered_while_erasing, is_write_spelled, known}
use Rattle.ec_model.specs.InfoRows.{zero_padded, mask_told, range_told, test_row, is_shown, version_text, raw_version, copy_number, version_row, sysinfo_row}
use Rattle.ec_model.specs.HashRow.{hash_bytes, hash_range, hash_shown, hash_asked, hash_start_row}
use Rattle.ec_model.specs.Jump.{same_copy, is_denied, has_vector}
use Rattle.ec_model.specs.RebootRow.{jump_row, reboot_row}
use Rattle.ec_model.specs.Table.{Core, IsHashable, is_blocked}
use Rattle.ec_model.specs.Answer.{Outcome, Answered, Restarts, done, unless_refused}
use Rattle.flash_dev.specs.Flash.{block_size}
use Rattle.ec_model.specs.Erasing.{asked_job, with_job}
use Rattle.ec_model.specs.FlashRows.{asked_range, flash_read_row, flash_write_row, flash_erase_row, written, is_whole_units}
use Rattle.ec_model.specs.Handle.{Admitted, row, row_of, admitted_by, admitted_from, handled}
use Rattle.ec_model.proofs.GuardSteps.{if_cases}
use Rattle.ec_model.proofs.ValidRows.{IsCoreValid}
use Rattle.exchange_laws.proofs.Spelled.{framing-spelled}
use Rattle.ectool_lines.specs.declared.tool.Tool.{Tool}
use Rattle.ectool_lines.specs.declared.tool.Tool.TheVariants.{Hello, Version, ChipInfo, CmdVersions, ProtoInfo, FlashInfo, RegionInfo, FlashRead, FlashWrite, FlashErase, FlashProtect, Hash, HashAbort, HashStart, HashRange, Sysinfo, Reboot, RebootCold, Test, Resend}
use Rattle.ectool_lines.specs.Tools.{IsInRange}
use Rattle.ectool_lines.specs.Requests.{region_number, image_offset, packet_of, command_of}
use Rattle.ectool_lines.proofs.SendLemmas.{command-short, padded-length, hash-length}

-- an answer with a status of 16 bits, that has so many bytes where it is a success
abbrev pub HasWanted : ℕ → Outcome → Type 0
HasWanted want (Answered after status body) = (status < 65536) × (status ≡ 0 → length body ≡ want)
HasWanted want Restarts = Unit {0}

-- a refusal is no success
refusal-wanted : (want : ℕ) (core : Core) (status : ℕ) → 0 < status → status < 65536 → HasWanted want (Answered core status [])
refusal-wanted want core status some small = (small, λ none. absurd (omega (arith, some, none)))

-- the bytes of a range that lies in the flash
part-length : (range : Range) (flash : List ℕ) → not (ends_within (length flash) range) ≡ false → length (part range flash) ≡ range.size
part-length range flash within =
    let order = leb_tells (range.at + range.size) (length flash) in
    let dropped = length-drop range.at flash in
    let taken = length-take range.size (drop range.at flash) in
    grind (arith, order, dropped, taken)

-- the size that a read's body names
asked-size : (at size : ℕ) → size < 2 ^ 32 → (asked_range (flash_read_ask at size)).size ≡ size
asked-size at size small = omega (arith, small)

-- FLASH_READ
read-row-wanted : (limit : ℕ) (core : Core) (at size : ℕ) → size < 2 ^ 32 → HasWanted size (flash_read_row core limit (flash_read_ask at size))
read-row-wanted limit core at size small =
    let body = flash_read_ask at size in
    let refusal : Option ℕ → Type 0 = λ refused. HasWanted size (unless_refused refused core (Answered core 0 (part (asked_range body) core.flash))) in
    if_cases refusal (not (ends_within (length core.flash) (asked_range body))) (Some 3) (if nat_lt (limit - 8) (asked_range body).size then Some 11 else None)
    (λ outside. refusal-wanted size core 3 (omega arith) (omega arith))
    (λ within. if_cases refusal (nat_lt (limit - 8) (asked_range body).size) (Some 11) None
    (λ large. refusal-wanted size core 11 (omega arith) (omega arith))
    (λ fits. (omega arith, λ none. part-length (asked_range body) core.flash within ∙ asked-size at size small)))

-- FLASH_WRITE
write-row-wanted : (core : Core) (version : ℕ) (body : List ℕ) → HasWanted 0 (flash_write_row core version body)
write-row-wanted core version body =
    let refusal : Option ℕ → Type 0 = λ refused. HasWanted 0 (unless_refused refused core (done (written (u32_at 0 body) (drop 8 body) core))) in
    if_cases refusal (not (is_whole_units 4 core (asked_range body)) || ((version == 0) && nat_lt 64 (asked_range body).size)) (Some 3) (if is_blocked (length core.flash) core.live (asked_range body) then Some 4 else None)
    (λ outside. refusal-wanted 0 core 3 (omega arith) (omega arith))
    (λ within. if_cases refusal (is_blocked (length core.flash) core.live (asked_range body)) (Some 4) None
    (λ blocked. refusal-wanted 0 core 4 (omega arith) (omega arith))
    (λ open_. (omega arith, λ none. refl)))

-- FLASH_ERASE
erase-row-wanted : (core : Core) (body : List ℕ) → HasWanted 0 (flash_erase_row core body)
erase-row-wanted core body =
    let refusal : Option ℕ → Type 0 = λ refused. HasWanted 0 (unless_refused refused core (Answered (with_job (Some (asked_job (asked_range body))) 9 core) 8 [])) in
    if_cases refusal (not (is_whole_units block_size core (asked_range body))) (Some 3) (if is_blocked (length core.flash) core.live (asked_range body) then Some 4 else None)
    (λ outside. refusal-wanted 0 core 3 (omega arith) (omega arith))
    (λ within. if_cases refusal (is_blocked (length core.flash) core.live (asked_range body)) (Some 4) None
    (λ blocked. refusal-wanted 0 core 4 (omega arith) (omega arith))
    (λ open_. (omega arith, λ none. refl)))

-- a command behind the checks; a pending erase may hold it up
checked-wanted : (limit : ℕ) (want : ℕ) (core : Core) (held spelled : Bool) (admitted : Admitted) → HasWanted want (row_of core limit (Ok admitted)) →
    HasWanted want (row_of core limit (if is_some core.live.erase && held then Err 16 else if not spelled then Err 3 else Ok admitted))
checked-wanted limit want core held spelled admitted wanted =
    let answers : Result Admitted ℕ → Type 0 = λ result. HasWanted want (row_of core limit result) in
    if_cases answers (is_some core.live.erase && held) (Err 16) (if not spelled then Err 3 else Ok admitted) (λ busy. refusal-wanted want core 16 (omega arith) (omega arith))
    (λ free. if_cases answers (not spelled) (Err 3) (Ok admitted) (λ wrong. refusal-wanted want core 3 (omega arith) (omega arith)) (λ right. wanted))

-- HELLO
hello-wanted : (limit : ℕ) (core : Core) → HasWanted 4 (row_of core limit (admitted_from core (Ok (record { command = 0x01; version = 0; body = hello_ask 0xA0B0C0D0 }))))
hello-wanted limit core = checked-wanted limit 4 core true true _ (omega arith, λ none. omega arith)

-- FLASH_READ
read-wanted : (limit : ℕ) (core : Core) (at size : ℕ) → size < 2 ^ 32 → HasWanted size (row_of core limit (admitted_from core (Ok (record { command = 0x11; version = 0; body = flash_read_ask at size }))))
read-wanted limit core at size small = checked-wanted limit size core true true _ (read-row-wanted limit core at size small)

-- FLASH_WRITE
write-wanted : (limit : ℕ) (core : Core) (body : List ℕ) → HasWanted 0 (row_of core limit (admitted_from core (Ok (record { command = 0x12; version = 1; body = body }))))
write-wanted limit core body = checked-wanted limit 0 core true (is_write_spelled body) _ (write-row-wanted core 1 body)

-- a request as it is spelled
spelled-wanted : (limit : ℕ) (want : ℕ) (core : Core) (command version : ℕ) (body : List ℕ) → command < 65536 → length body < 65536 →
    HasWanted want (row_of core limit (admitted_from core (Ok (record { command = command; version = version; body = body })))) → HasWanted want (handled core limit (request_packet command version body))
spelled-wanted limit want core command version body small short wanted =
    subst (λ (framed : Result RequestView ℕ). HasWanted want (row_of core limit (admitted_from core framed))) (sym (framing-spelled command version body small short)) wanted

-- GET_CMD_VERSIONS, by the mask
mask-wanted : (core : Core) (mask : Option ℕ) → HasWanted 4 (mask_told core mask)
mask-wanted core None = refusal-wanted 4 core 3 (omega arith) (omega arith)
mask-wanted core (Some mask) = (omega arith, λ none. omega arith)

-- FLASH_REGION_INFO, by the range
range-wanted : (core : Core) (range : Option Range) → HasWanted 8 (range_told core range)
range-wanted core None = refusal-wanted 8 core 3 (omega arith) (omega arith)
range-wanted core (Some range) = (omega arith, λ none. omega arith)

-- the fields of a TEST_PROTOCOL
test-result : (ec_result ret_len : ℕ) (buf : List ℕ) → ret_len < 2 ^ 32 → u32_at 4 (test_ask ec_result ret_len buf) ≡ ret_len
test-result ec_result ret_len buf small = omega (arith, small)

-- a buffer, cut to a length that it has
cut-length : (count ret_len : ℕ) (buf : List ℕ) → count ≡ ret_len → ret_len ≤ 32 → length buf ≡ 32 → length (take (min count 32) buf) ≡ ret_len
cut-length count ret_len buf same short whole = omega (arith, same, short, whole, length-take (min count 32) buf)

-- TEST_PROTOCOL
test-wanted : (core : Core) (ec_result ret_len : ℕ) (buf : List ℕ) → ret_len ≤ 32 → length buf ≡ 32 → HasWanted ret_len (test_row core (test_ask ec_result ret_len buf))
test-wanted core ec_result ret_len buf short whole =
    let body = test_ask ec_result ret_len buf in
    let answers : Outcome → Type 0 = λ outcome. HasWanted ret_len outcome in
    if_cases answers (nat_lt 20 (u32_at 0 body)) _ _ (λ large. refusal-wanted ret_len core 3 (omega arith) (omega arith))
    (λ small. if_cases answers (u32_at 0 body == 0) _ _
    (λ success. (omega arith, λ none. cut-length (u32_at 4 body) ret_len buf (test-result ec_result ret_len buf (omega (arith, short))) short whole))
    (λ other. let tests = leb_tells 21 (u32_at 0 body) in let zero = eqb_tells (u32_at 0 body) 0 in refusal-wanted ret_len core (u32_at 0 body) (grind (arith, zero)) (grind (arith, tests))))

-- FLASH_PROTECT
protect-wanted : (limit : ℕ) (core : Core) (mask flags : ℕ) → HasWanted 12 (row_of core limit (admitted_from core (Ok (record { command = 0x15; version = 1; body = flash_protect_ask mask flags }))))
protect-wanted limit core mask flags = checked-wanted limit 12 core true true _ (omega arith, λ none. omega arith)

-- a request with its line of the table, where it has one: each of the checks may refuse it
line-wanted : (limit : ℕ) (want : ℕ) (core : Core) (request : RequestView) (entry : Option CommandLine) → ((found : CommandLine) → entry ≡ Some found → HasWanted want (row core limit found.command request.version request.body)) →
    HasWanted want (row_of core limit (admitted_by core request entry))
line-wanted limit want core request None wanted = refusal-wanted want core 1 (omega arith) (omega arith)
line-wanted limit want core request (Some found) wanted =
    let answers : Result Admitted ℕ → Type 0 = λ result. HasWanted want (row_of core limit result) in
    if_cases answers (not (offers found.mask request.version)) _ _ (λ other. refusal-wanted want core 6 (omega arith) (omega arith))
    (λ offered. if_cases answers (is_some core.live.erase && not (is_answered_while_erasing found.command)) _ _ (λ busy. refusal-wanted want core 16 (omega arith) (omega arith))
    (λ free. if_cases answers (not (is_spelled found.command request.version request.body)) _ _ (λ wrong. refusal-wanted want core 3 (omega arith) (omega arith)) (λ right. wanted found refl)))

-- the table has this command at a number, or none
abbrev IsNumberOf : ℕ → Command → Type 0
IsNumberOf number command = (found : CommandLine) → line_of number ≡ Some found → line number command 1 ≡ found

-- a request of a command by its number
numbered-wanted : (limit : ℕ) (want : ℕ) (core : Core) (number : ℕ) (command : Command) (body : List ℕ) → number < 65536 → length body < 65536 → IsNumberOf number command → HasWanted want (row core limit command 0 body) →
    HasWanted want (handled core limit (request_packet number 0 body))
numbered-wanted limit want core number command body small short named wanted =
    let request : RequestView = record { command = number; version = 0; body = body } in
    let rows : CommandLine → Type 0 = λ entry. HasWanted want (row core limit entry.command 0 body) in
    spelled-wanted limit want core number 0 body small short (line-wanted limit want core request (line_of number) (λ found same. subst rows (named found same) wanted))

-- a version as it is told
version_text-length : (raw : List ℕ) → length (version_text raw) ≡ 32
version_text-length raw = padded-length 32 (take 31 (take_while is_shown raw)) (omega (arith, length-take 31 (take_while is_shown raw)))

-- the columns of a GET_VERSION's reply
version_say-length : (ro rw_version reserved : List ℕ) (current : ℕ) → length ro ≡ 32 → length rw_version ≡ 32 → length reserved ≡ 32 → length (version_say ro rw_version reserved current) ≡ 100
version_say-length ro rw_version reserved current first second third =
    omega (arith, length-append ((ro ++ rw_version) ++ reserved) (u32_bytes current), length-append (ro ++ rw_version) reserved, length-append ro rw_version, first, second, third)

-- GET_VERSION
version-wanted : (core : Core) → HasWanted 100 (version_row core)
version-wanted core =
    let ro = raw_version copy.Ro core.flash in
    let rw_version = raw_version copy.Rw core.flash in
    (omega arith, λ none. version_say-length (version_text ro) (version_text rw_version) (replicate 32 0) (copy_number core.live.copy) (version_text-length ro) (version_text-length rw_version) refl)

-- SYSINFO
sysinfo-wanted : (core : Core) → HasWanted 12 (sysinfo_row core)
sysinfo-wanted core = (omega arith, λ none. omega arith)

-- the bytes that show a hash
hash_bytes-length : (size : ℕ) (hash : HashView) (nonce : List ℕ) → IsHashable size hash nonce → length (hash_bytes hash) ≡ 76
hash_bytes-length size Idle nonce hashable = refl
hash_bytes-length size (Busy at count left) nonce hashable = refl
hash_bytes-length size (Done at count digest) nonce hashable =
    let body = digest ++ replicate 32 0 in
    omega (arith, hashable.2, length-append digest (replicate 32 0), length-append ((1 ∷ 0 ∷ 32 ∷ 0 ∷ []) ++ u32_bytes at ++ u32_bytes count) body)

-- VBOOT_HASH that shows the hash
shown-wanted : (core : Core) → IsCoreValid core → HasWanted 76 (hash_shown core)
shown-wanted core valid = (omega arith, λ none. hash_bytes-length (length core.flash) core.live.hash core.nonce valid.hash)

-- VBOOT_HASH that starts one, by its range
asked-wanted : (core : Core) (range : Option Range) (nonce : List ℕ) → HasWanted 76 (hash_asked range nonce core)
asked-wanted core None nonce = refusal-wanted 76 core 3 (omega arith) (omega arith)
asked-wanted core (Some range) nonce = (omega arith, λ none. refl)

-- VBOOT_HASH that starts one
start-wanted : (core : Core) (body : List ℕ) → HasWanted 76 (hash_start_row core body)
start-wanted core body =
    if_cases (HasWanted 76) (not (slice_index body 1 == 0) || nat_lt 64 (slice_index body 2)) _ _ (λ wrong. refusal-wanted 76 core 3 (omega arith) (omega arith))
    (λ right. asked-wanted core (hash_range (length core.flash) (u32_at 4 body) (u32_at 8 body)) (take (slice_index body 2) (drop 12 body)))

-- a jump
jump-wanted : (core : Core) (target : ImageCopy) → HasWanted 0 (jump_row target core)
jump-wanted core target =
    if_cases (HasWanted 0) (same_copy target core.live.copy) _ _ (λ runs. (omega arith, λ none. refl))
    (λ other. if_cases (HasWanted 0) (is_denied core target) _ _ (λ denied. refusal-wanted 0 core 4 (omega arith) (omega arith))
    (λ granted. if_cases (HasWanted 0) (not (has_vector core.flash target)) _ _ (λ outside. refusal-wanted 0 core 2 (omega arith) (omega arith))
    (λ inside. (omega arith, λ none. refl))))

-- REBOOT_EC
reboot-wanted : (core : Core) (body : List ℕ) → HasWanted 0 (reboot_row core body)
reboot-wanted core body =
    let cmd = slice_index body 0 in
    if_cases (HasWanted 0) (not (slice_index body 1 == 0)) _ _ (λ wrong. refusal-wanted 0 core 3 (omega arith) (omega arith))
    (λ right. if_cases (HasWanted 0) (cmd == 0) _ _ (λ cancel. (omega arith, λ none. refl))
    (λ n0. if_cases (HasWanted 0) (cmd == 1) _ _ (λ ro. jump-wanted core copy.Ro)
    (λ n1. if_cases (HasWanted 0) (cmd == 2) _ _ (λ rw_. jump-wanted core copy.Rw)
    (λ n2. if_cases (HasWanted 0) (cmd == 4) _ _ (λ cold. tt)
    (λ n4. if_cases (HasWanted 0) (cmd == 5) _ _ (λ disable. (omega arith, λ none. refl)) (λ rest. refusal-wanted 0 core 3 (omega arith) (omega arith)))))))

-- each command of a line
pub command-wanted : (limit : ℕ) (tool : Tool) (k : ℕ) (core : Core) → 128 ≤ limit → limit ≤ 544 → IsCoreValid core → IsInRange tool → HasWanted (command_of limit tool k).want (handled core limit (packet_of (command_of limit tool k)))
command-wanted limit Hello k core large small valid within = spelled-wanted limit 4 core 0x01 0 (hello_ask 0xA0B0C0D0) (omega arith) (omega arith) (hello-wanted limit core)
command-wanted limit Version k core large small valid within = numbered-wanted limit 100 core 0x02 table.Version [] (omega arith) (omega arith) (λ found same. cc) (version-wanted core)
command-wanted limit ChipInfo k core large small valid within = spelled-wanted limit 96 core 0x05 0 [] (omega arith) (omega arith) (checked-wanted limit 96 core true true _ (omega arith, λ none. refl))
command-wanted limit (CmdVersions number) k core large small valid within =
    let body = cmd_versions_ask1 number in
    spelled-wanted limit 4 core 0x08 1 body (omega arith) (omega arith) (checked-wanted limit 4 core true true _ (mask-wanted core (known (u16_at 0 body))))
command-wanted limit ProtoInfo k core large small valid within = spelled-wanted limit 12 core 0x0B 0 [] (omega arith) (omega arith) (checked-wanted limit 12 core true true _ (omega arith, λ none. refl))
command-wanted limit FlashInfo k core large small valid within = spelled-wanted limit 24 core 0x10 1 [] (omega arith) (omega arith) (checked-wanted limit 24 core true true _ (omega arith, λ none. omega arith))
command-wanted limit (RegionInfo region) k core large small valid within =
    let body = region_info_ask (region_number region) in
    spelled-wanted limit 8 core 0x16 1 body (omega arith) (omega arith) (checked-wanted limit 8 core true true _ (range-wanted core (region_range (u32_at 0 body) (length core.flash))))
command-wanted limit (FlashRead at size) k core large small valid within =
    let part = min (limit - 8) (size - k * (limit - 8)) in
    let place = (at + k * (limit - 8)) % 2 ^ 32 in
    spelled-wanted limit part core 0x11 0 (flash_read_ask place part) (omega arith) (omega arith) (read-wanted limit core place part (omega (arith, small)))
command-wanted limit (FlashWrite at bytes) k core large small valid within =
    let body = (command_of limit (FlashWrite at bytes) k).body in
    spelled-wanted limit 0 core 0x12 1 body (omega arith) (omega (arith, small, command-short limit (FlashWrite at bytes) k large within)) (write-wanted limit core body)
command-wanted limit (FlashErase at size) k core large small valid within =
    let body = flash_erase_ask at size in
    numbered-wanted limit 0 core 0x13 table.FlashErase body (omega arith) (omega arith) (λ found same. cc) (erase-row-wanted core body)
command-wanted limit (FlashProtect mask flags) k core large small valid within =
    spelled-wanted limit 12 core 0x15 1 (flash_protect_ask mask flags) (omega arith) (omega arith) (protect-wanted limit core mask flags)
command-wanted limit Hash k core large small valid within =
    numbered-wanted limit 76 core 0x2A table.VbootHash (vboot_hash_ask 0 0 0 0 0 0 (zero_padded 64 [])) (omega arith) (omega arith) (λ found same. cc) (shown-wanted core valid)
command-wanted limit HashAbort k core large small valid within =
    numbered-wanted limit 0 core 0x2A table.VbootHash (vboot_hash_ask 1 0 0 0 0 0 (zero_padded 64 [])) (omega arith) (omega arith) (λ found same. cc) (omega arith, λ none. refl)
command-wanted limit (HashStart image nonce) k core large small valid within =
    let body = vboot_hash_ask 2 0 (length nonce) 0 (image_offset image) 0 (zero_padded 64 nonce) in
    numbered-wanted limit 76 core 0x2A table.VbootHash body (omega arith) (omega (arith, hash-length 2 (length nonce) (image_offset image) 0 nonce within)) (λ found same. cc) (start-wanted core body)
command-wanted limit (HashRange at size) k core large small valid within =
    let body = vboot_hash_ask 2 0 0 0 at size (zero_padded 64 []) in
    numbered-wanted limit 76 core 0x2A table.VbootHash body (omega arith) (omega arith) (λ found same. cc) (start-wanted core body)
command-wanted limit Sysinfo k core large small valid within = numbered-wanted limit 12 core 0x1C table.Sysinfo [] (omega arith) (omega arith) (λ found same. cc) (sysinfo-wanted core)
command-wanted limit (Reboot cmd) k core large small valid within =
    let body = reboot_ask cmd 0 in
    numbered-wanted limit 0 core 0xD2 table.Reboot body (omega arith) (omega arith) (λ found same. cc) (reboot-wanted core body)
command-wanted limit RebootCold zero core large small valid within =
    let body = reboot_ask 4 0 in
    numbered-wanted limit 0 core 0xD2 table.Reboot body (omega arith) (omega arith) (λ found same. cc) (reboot-wanted core body)
command-wanted limit RebootCold (suc k) core large small valid within =
    numbered-wanted limit 12 core 0x1C table.Sysinfo [] (omega arith) (omega arith) (λ found same. cc) (sysinfo-wanted core)
command-wanted limit (Test ec_result ret_len bytes) k core large small valid within =
    let body = test_ask ec_result ret_len (zero_padded 32 bytes) in
    let whole = padded-length 32 bytes within.2 in
    spelled-wanted limit ret_len core 0x0A 0 body (omega arith) (omega (arith, small, command-short limit (Test ec_result ret_len bytes) k large within))
    (checked-wanted limit ret_len core true (length body == 40) _ (test-wanted core ec_result ret_len (zero_padded 32 bytes) within.0 whole))
command-wanted limit Resend k core large small valid within = spelled-wanted limit 0 core 0xDB 0 [] (omega arith) (omega arith) (checked-wanted limit 0 core false true _ (valid.saved, λ none. refl))
