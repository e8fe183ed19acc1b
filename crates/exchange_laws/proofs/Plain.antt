-- A plain request restarts no controller.
use Rattle.std.proofs.Common.{◌≡◌, refl, sym, ap, ◌∙◌, ℕ, arith, [], ◌∷◌, Bool, true, false, not, ◌&&◌, ◌||◌, ◌==◌, nat_lt, if◌then◌else◌, List, length, take, drop, slice_index, Option, Some, None, Result, Ok, Err}
use Rattle.std.specs.Prelude.{is_some}
use Rattle.std.specs.List.{list_all}
use Rattle.std.proofs.lemmas.Bool.Decides.{eqb_tells}
use Rattle.ec_types.specs.LittleEndian.{u16_at, u32_at}
use Rattle.ec_types.specs.declared.image.ImageCopy.{ImageCopy}
use Rattle.ec_types.specs.declared.image.ImageCopy.TheVariants.{Ro, Rw}
use Rattle.ec_model.specs.Packet.{RequestView, framing}
use Rattle.ec_model.specs.Ranges.{Range, region_range}
use Rattle.ec_model.specs.Commands.{Command, CommandLine, command_table, line_in, line_of, offers, known, is_spelled, is_answered_while_erasing, Proto, Hello, Version, Chip, CmdVersions, Comms, Test, ProtoInfo, FlashInfo, FlashRead, FlashWrite, FlashErase, FlashProtect, RegionInfo, Sysinfo, VbootHash, Reboot, Resend}
use Rattle.ec_model.specs.Table.{Core}
use Rattle.ec_model.specs.Answer.{Outcome, unless_refused}
use Rattle.ec_model.specs.InfoRows.{mask_told, range_told, test_row}
use Rattle.ec_model.specs.FlashRows.{read_refusal, write_refusal, erase_refusal}
use Rattle.ec_model.specs.HashRow.{vboot_hash_row, hash_start_row, hash_asked, hash_range}
use Rattle.ec_model.specs.Jump.{same_copy, is_denied, has_vector}
use Rattle.ec_model.specs.RebootRow.{jump_row, reboot_row}
use Rattle.ec_model.specs.Handle.{Admitted, row, row_of, admitted_by, admitted_from, handled}
use Rattle.ec_model.proofs.GuardSteps.{if_cases}
use Rattle.exchange_laws.specs.Served.{is_cold_body, is_cold, IsPlain, IsAnswer}

-- GET_CMD_VERSIONS, by the mask
mask-answers : (core : Core) (mask : Option ℕ) → IsAnswer (mask_told core mask)
mask-answers core None = tt
mask-answers core (Some mask) = tt

-- FLASH_REGION_INFO, by the range
range-answers : (core : Core) (range : Option Range) → IsAnswer (range_told core range)
range-answers core None = tt
range-answers core (Some range) = tt

-- TEST_PROTOCOL
test-answers : (core : Core) (body : List ℕ) → IsAnswer (test_row core body)
test-answers core body = if_cases IsAnswer (nat_lt 20 (u32_at 0 body)) _ _ (λ large. tt) (λ small. if_cases IsAnswer (u32_at 0 body == 0) _ _ (λ zero_result. tt) (λ other. tt))

-- a row behind its refusals
unless-answers : (core : Core) (refusal : Option ℕ) (outcome : Outcome) → IsAnswer outcome → IsAnswer (unless_refused refusal core outcome)
unless-answers core None outcome answers = answers
unless-answers core (Some status) outcome answers = tt

-- a hash of a range
asked-answers : (core : Core) (range : Option Range) (nonce : List ℕ) → IsAnswer (hash_asked range nonce core)
asked-answers core None nonce = tt
asked-answers core (Some range) nonce = tt

-- a hash that is started
start-answers : (core : Core) (body : List ℕ) → IsAnswer (hash_start_row core body)
start-answers core body =
    if_cases IsAnswer (not (slice_index body 1 == 0) || nat_lt 64 (slice_index body 2)) _ _ (λ wrong. tt)
    (λ right. asked-answers core (hash_range (length core.flash) (u32_at 4 body) (u32_at 8 body)) (take (slice_index body 2) (drop 12 body)))

-- VBOOT_HASH
hash-answers : (core : Core) (body : List ℕ) → IsAnswer (vboot_hash_row core body)
hash-answers core body =
    if_cases IsAnswer (slice_index body 0 == 0) _ _ (λ get. tt)
    (λ not_get. if_cases IsAnswer (slice_index body 0 == 1) _ _ (λ abort. tt)
    (λ not_abort. if_cases IsAnswer (slice_index body 0 == 2) _ _ (λ start. start-answers core body) (λ other. tt)))

-- a jump
jump-answers : (core : Core) (target : ImageCopy) → IsAnswer (jump_row target core)
jump-answers core target =
    if_cases IsAnswer (same_copy target core.live.copy) _ _ (λ runs. tt)
    (λ other. if_cases IsAnswer (is_denied core target) _ _ (λ denied. tt)
    (λ granted. if_cases IsAnswer (not (has_vector core.flash target)) _ _ (λ outside. tt) (λ jumps. tt)))

-- REBOOT_EC but for a COLD
reboot-answers : (core : Core) (body : List ℕ) → is_cold_body body ≡ false → not (length body == 2) ≡ false → IsAnswer (reboot_row core body)
reboot-answers core body other spelled =
    let cmd = slice_index body 0 in
    if_cases IsAnswer (not (slice_index body 1 == 0)) _ _ (λ wrong. tt)
    (λ right. if_cases IsAnswer (cmd == 0) _ _ (λ cancel. tt)
    (λ n0. if_cases IsAnswer (cmd == 1) _ _ (λ ro. jump-answers core Ro)
    (λ n1. if_cases IsAnswer (cmd == 2) _ _ (λ rw_. jump-answers core Rw)
    (λ n2. if_cases IsAnswer (cmd == 4) _ _ (λ cold. absurd (three (length body == 2) (cmd == 4) (slice_index body 1 == 0) other spelled cold right))
    (λ n4. if_cases IsAnswer (cmd == 5) _ _ (λ disable. tt) (λ rest. tt)))))) where
      three : (two four zero : Bool) → (two && (four && zero)) ≡ false → not two ≡ false → four ≡ true → not zero ≡ false → ⊥
      three true true true other two four zero = cc
      three true true false other two four zero = cc
      three true false zero other two four none = cc
      three false four zero other two fours none = cc

-- whether a command is REBOOT_EC
abbrev is_reboot : Command → Bool
is_reboot Reboot = true
is_reboot other = false

-- a line of REBOOT_EC has its number
abbrev is_numbered : CommandLine → Bool
is_numbered entry = not (is_reboot entry.command) || (entry.number == 0xD2)

-- two equal numbers
eq-of : (a b : ℕ) → (a == b) ≡ true → a ≡ b
eq-of a b same = grind (arith, eqb_tells)

-- the two parts of a test
and-parts : (a b : Bool) → (a && b) ≡ true → (a ≡ true) × (b ≡ true)
and-parts true b both = (refl, both)
and-parts false b both = (cc, cc)

-- a line that was found has the number that was looked for, and passes the test that all lines pass
found-by : (test : Bool) (first : CommandLine) (number : ℕ) (lines : List CommandLine) (found : CommandLine) → (number == first.number) ≡ test → is_numbered first ≡ true → list_all is_numbered lines ≡ true →
    ((found : CommandLine) → line_in lines number ≡ Some found → (number ≡ found.number) × (is_numbered found ≡ true)) → (if test then Some first else line_in lines number) ≡ Some found → (number ≡ found.number) × (is_numbered found ≡ true)
found-by true first number lines found tests here all rest same =
    let at : first ≡ found = cc in
    (eq-of number first.number tests ∙ ap (λ (entry : CommandLine). entry.number) at, ap (λ (entry : CommandLine). is_numbered entry) (sym at) ∙ here)
found-by false first number lines found tests here all rest same = rest found same

-- the same of the whole table
found-is : (lines : List CommandLine) (number : ℕ) (found : CommandLine) → list_all is_numbered lines ≡ true → line_in lines number ≡ Some found → (number ≡ found.number) × (is_numbered found ≡ true)
found-is [] number found all same = absurd (cc)
found-is (first ∷ lines) number found all same =
    let parts = and-parts (is_numbered first) (list_all is_numbered lines) all in
    found-by (number == first.number) first number lines found refl parts.0 parts.1 (λ other at. found-is lines number other parts.1 at) same

-- a request of REBOOT_EC has its number
not-cold : (reboot numbered cold : Bool) → (not reboot || numbered) ≡ true → (numbered && cold) ≡ false → (reboot && cold) ≡ false
not-cold true true cold is other = other
not-cold true false cold is other = absurd (cc)
not-cold false numbered cold is other = refl

-- each row but for a COLD
row-answers : (core : Core) (limit : ℕ) (command : Command) (version : ℕ) (body : List ℕ) → (is_reboot command && is_cold_body body) ≡ false → not (is_spelled command version body) ≡ false → IsAnswer (row core limit command version body)
row-answers core limit Proto version body other spelled = tt
row-answers core limit Hello version body other spelled = tt
row-answers core limit Version version body other spelled = tt
row-answers core limit Chip version body other spelled = tt
row-answers core limit CmdVersions version body other spelled = mask-answers core (known (if version == 0 then slice_index body 0 else u16_at 0 body))
row-answers core limit Comms version body other spelled = tt
row-answers core limit Test version body other spelled = test-answers core body
row-answers core limit ProtoInfo version body other spelled = tt
row-answers core limit FlashInfo version body other spelled = tt
row-answers core limit FlashRead version body other spelled = unless-answers core (read_refusal core limit body) _ tt
row-answers core limit FlashWrite version body other spelled = unless-answers core (write_refusal core version body) _ tt
row-answers core limit FlashErase version body other spelled = unless-answers core (erase_refusal core body) _ tt
row-answers core limit FlashProtect version body other spelled = tt
row-answers core limit RegionInfo version body other spelled = range-answers core (region_range (u32_at 0 body) (length core.flash))
row-answers core limit Sysinfo version body other spelled = tt
row-answers core limit VbootHash version body other spelled = hash-answers core body
row-answers core limit Reboot version body other spelled = reboot-answers core body other spelled
row-answers core limit Resend version body other spelled = tt

-- a request with its line of the table
line-answers : (core : Core) (limit : ℕ) (request : RequestView) (line : Option CommandLine) → line_of request.command ≡ line → is_cold (Ok request) ≡ false → IsAnswer (row_of core limit (admitted_by core request line))
line-answers core limit request None found_is other = tt
line-answers core limit request (Some found) found_is other =
    let answers : Result Admitted ℕ → Type 0 = λ result. IsAnswer (row_of core limit result) in
    let known_line = found-is command_table request.command found refl found_is in
    let numbered : (request.command == 0xD2) ≡ (found.number == 0xD2) = ap (λ (n : ℕ). n == 0xD2) known_line.0 in
    let cold : (is_reboot found.command && is_cold_body request.body) ≡ false = not-cold (is_reboot found.command) (found.number == 0xD2) (is_cold_body request.body) known_line.1 (ap (λ (test : Bool). test && is_cold_body request.body) (sym numbered) ∙ other) in
    if_cases answers (not (offers found.mask request.version)) _ _ (λ refused. tt)
    (λ offered. if_cases answers (is_some core.live.erase && not (is_answered_while_erasing found.command)) _ _ (λ busy. tt)
    (λ free. if_cases answers (not (is_spelled found.command request.version request.body)) _ _ (λ wrong. tt)
    (λ spelled. row-answers core limit found.command request.version request.body cold spelled)))

-- a packet as it was framed
framed-answers : (core : Core) (limit : ℕ) (framed : Result RequestView ℕ) → is_cold framed ≡ false → IsAnswer (row_of core limit (admitted_from core framed))
framed-answers core limit (Err status) other = tt
framed-answers core limit (Ok request) other = line-answers core limit request (line_of request.command) refl other

-- a plain request is answered
pub plain-answered : (packet : List ℕ) (core : Core) (limit : ℕ) → IsPlain packet → IsAnswer (handled core limit packet)
plain-answered packet core limit plain = framed-answers core limit (framing packet) plain.no_cold
