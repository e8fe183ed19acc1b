-- Which statuses a request is answered with.
use Rattle.std.proofs.Common.{◌≡◌, refl, sym, ap, ◌∙◌, subst, ℕ, ◌-◌, ◌<◌, arith, Bool, true, false, not, ◌&&◌, ◌||◌, ◌==◌, nat_lt, if◌then◌else◌, List, [], ◌∷◌, length, take, drop, slice_index, Option, Some, None, Result}
use Rattle.std.specs.Prelude.{is_some}
use Rattle.std.specs.Bool.{⊤}
use Rattle.std.specs.List.{list_all}
use Rattle.std.proofs.lemmas.Bool.Decides.{eqb_tells}
use Rattle.ec_types.specs.LittleEndian.{u16_at, u32_at}
use Rattle.ec_types.specs.declared.image.ImageCopy.{ImageCopy}
use Rattle.ec_types.specs.declared.image.ImageCopy.TheVariants.{Ro, Rw}
use Rattle.ec_model.specs.declared.live.EraseJob.{EraseJob}
use Rattle.ec_model.specs.Asks.{packet_of}
use Rattle.ec_model.specs.Packet.{RequestView}
use Rattle.ec_model.specs.Ranges.{Range, region_range, ends_within}
use Rattle.ec_model.specs.Commands.{Command, CommandLine, command_table, line_in, line_of, offers, known, is_spelled, is_answered_while_erasing, Proto, Hello, Version, Chip, CmdVersions, Comms, Test, ProtoInfo, FlashInfo, FlashRead, FlashWrite, FlashErase, FlashProtect, RegionInfo, Sysinfo, VbootHash, Reboot, Resend}
use Rattle.ec_model.specs.Table.{Core, is_blocked}
use Rattle.ec_model.specs.Answer.{Outcome, Answered, Restarts, unless_refused, told}
use Rattle.ec_model.specs.InfoRows.{mask_told, range_told}
use Rattle.ec_model.specs.FlashRows.{asked_range, flash_read_row, flash_write_row, flash_erase_row, is_whole_units}
use Rattle.flash_dev.specs.Flash.{block_size}
use Rattle.ec_model.specs.Erasing.{asked_job, with_job}
use Rattle.ec_model.specs.HashRow.{vboot_hash_row, hash_start_row, hash_asked, hash_range}
use Rattle.ec_model.specs.Jump.{same_copy, is_denied, has_vector}
use Rattle.ec_model.specs.RebootRow.{jump_row, reboot_row}
use Rattle.ec_model.specs.Handle.{Admitted, row, row_of, admitted_by, admitted_from, handled}
use Rattle.ec_model.proofs.GuardSteps.{if_cases}
use Rattle.exchange_laws.proofs.Spelled.{framing-spelled}
use Rattle.command_laws.specs.Carried.{tells_any}

-- What any other request is answered with: no status that speaks of its packet. A refused request (3, 16) leaves the core as it
-- was and has no body; 16 comes only where an erase is pending; 8 begins an erase, with 9 saved, where none is pending.
pub record Expected (core after : Core) (status : ℕ) (body : List ℕ) : Type 0 where
  pub small : status < 65536
  pub framed : ((status == 7) || (status == 12) || (status == 13)) ≡ false
  pub invalid : status ≡ 3 → (after ≡ core) × (body ≡ [])
  pub busy : status ≡ 16 → (after ≡ core) × (is_some core.live.erase ≡ true)
  pub begun : status ≡ 8 → (job : EraseJob) × (core.live.erase ≡ None) × (after ≡ with_job (Some job) 9 core) × (body ≡ [])

-- an answer is as it is expected
abbrev IsExpected : Core → Outcome → Type 0
IsExpected core (Answered after status body) = Expected core after status body
IsExpected core Restarts = ⊤

-- a success, whatever it leaves and tells
success : (core after : Core) (body : List ℕ) → Expected core after 0 body
success core after body =
    record {
      small = omega arith;
      framed = refl;
      invalid = λ same. absurd (cc);
      busy = λ same. absurd (cc);
      begun = λ same. absurd (cc);
    }

-- a refusal that says neither that an erase is pending nor that one goes on
refusal : (core : Core) (status : ℕ) → status < 65536 → ((status == 7) || (status == 12) || (status == 13)) ≡ false → (status == 16) ≡ false → (status == 8) ≡ false → Expected core core status []
refusal core status small framed free done =
    record {
      small = small;
      framed = framed;
      invalid = λ same. (refl, refl);
      busy = λ same. absurd (differs status 16 free same);
      begun = λ same. absurd (differs status 8 done same);
    } where
      differs : (a b : ℕ) → (a == b) ≡ false → a ≡ b → ⊥
      differs a b other same = grind (arith, eqb_tells)

-- a refusal because an erase is pending
held : (core : Core) → is_some core.live.erase ≡ true → Expected core core 16 []
held core pending =
    record {
      small = omega arith;
      framed = refl;
      invalid = λ same. (refl, refl);
      busy = λ same. (refl, pending);
      begun = λ same. absurd (cc);
    }

-- an erase begins
begins : (core : Core) (job : EraseJob) → core.live.erase ≡ None → Expected core (with_job (Some job) 9 core) 8 []
begins core job none =
    record {
      small = omega arith;
      framed = refl;
      invalid = λ same. absurd (cc);
      busy = λ same. absurd (cc);
      begun = λ same. (job, none, refl, refl);
    }

-- GET_CMD_VERSIONS, by the mask
mask-expected : (core : Core) (mask : Option ℕ) → IsExpected core (mask_told core mask)
mask-expected core None = refusal core 3 (omega arith) refl refl refl
mask-expected core (Some mask) = success core core _

-- FLASH_REGION_INFO, by the range
range-expected : (core : Core) (range : Option Range) → IsExpected core (range_told core range)
range-expected core None = refusal core 3 (omega arith) refl refl refl
range-expected core (Some range) = success core core _

-- a row behind two tests, of which the second refuses with 4 or 11
tests-expected : (core : Core) (first second : Bool) (status : ℕ) (outcome : Outcome) → Expected core core status [] → IsExpected core outcome →
    IsExpected core (unless_refused (if first then Some 3 else if second then Some status else None) core outcome)
tests-expected core true second status outcome refused passed = refusal core 3 (omega arith) refl refl refl
tests-expected core false true status outcome refused passed = refused
tests-expected core false false status outcome refused passed = passed

-- FLASH_READ
read-expected : (core : Core) (limit : ℕ) (body : List ℕ) → IsExpected core (flash_read_row core limit body)
read-expected core limit body =
    tests-expected core (not (ends_within (length core.flash) (asked_range body))) (nat_lt (limit - 8) (asked_range body).size) 11 _
    (refusal core 11 (omega arith) refl refl refl) (success core core _)

-- FLASH_WRITE
write-expected : (core : Core) (version : ℕ) (body : List ℕ) → IsExpected core (flash_write_row core version body)
write-expected core version body =
    tests-expected core (not (is_whole_units 4 core (asked_range body)) || ((version == 0) && nat_lt 64 (asked_range body).size))
    (is_blocked (length core.flash) core.live (asked_range body)) 4 _ (refusal core 4 (omega arith) refl refl refl) (success core _ [])

-- FLASH_ERASE
erase-expected : (core : Core) (body : List ℕ) → core.live.erase ≡ None → IsExpected core (flash_erase_row core body)
erase-expected core body none =
    tests-expected core (not (is_whole_units block_size core (asked_range body))) (is_blocked (length core.flash) core.live (asked_range body)) 4 _
    (refusal core 4 (omega arith) refl refl refl) (begins core (asked_job (asked_range body)) none)

-- a hash of a range
asked-expected : (core : Core) (range : Option Range) (nonce : List ℕ) → IsExpected core (hash_asked range nonce core)
asked-expected core None nonce = refusal core 3 (omega arith) refl refl refl
asked-expected core (Some range) nonce = success core _ _

-- a hash that is started
start-expected : (core : Core) (body : List ℕ) → IsExpected core (hash_start_row core body)
start-expected core body =
    if_cases (IsExpected core) (not (slice_index body 1 == 0) || nat_lt 64 (slice_index body 2)) _ _ (λ wrong. refusal core 3 (omega arith) refl refl refl)
    (λ right. asked-expected core (hash_range (length core.flash) (u32_at 4 body) (u32_at 8 body)) (take (slice_index body 2) (drop 12 body)))

-- VBOOT_HASH
hash-expected : (core : Core) (body : List ℕ) → IsExpected core (vboot_hash_row core body)
hash-expected core body =
    if_cases (IsExpected core) (slice_index body 0 == 0) _ _ (λ get. success core core _)
    (λ not_get. if_cases (IsExpected core) (slice_index body 0 == 1) _ _ (λ abort. success core _ [])
    (λ not_abort. if_cases (IsExpected core) (slice_index body 0 == 2) _ _ (λ start. start-expected core body)
    (λ other. refusal core 3 (omega arith) refl refl refl)))

-- a jump
jump-expected : (core : Core) (target : ImageCopy) → IsExpected core (jump_row target core)
jump-expected core target =
    if_cases (IsExpected core) (same_copy target core.live.copy) _ _ (λ runs. success core core [])
    (λ other. if_cases (IsExpected core) (is_denied core target) _ _ (λ denied. refusal core 4 (omega arith) refl refl refl)
    (λ granted. if_cases (IsExpected core) (not (has_vector core.flash target)) _ _ (λ outside. refusal core 2 (omega arith) refl refl refl)
    (λ jumps. success core _ [])))

-- REBOOT_EC
reboot-expected : (core : Core) (body : List ℕ) → IsExpected core (reboot_row core body)
reboot-expected core body =
    let cmd = slice_index body 0 in
    if_cases (IsExpected core) (not (slice_index body 1 == 0)) _ _ (λ wrong. refusal core 3 (omega arith) refl refl refl)
    (λ right. if_cases (IsExpected core) (cmd == 0) _ _ (λ cancel. success core core [])
    (λ n0. if_cases (IsExpected core) (cmd == 1) _ _ (λ ro. jump-expected core Ro)
    (λ n1. if_cases (IsExpected core) (cmd == 2) _ _ (λ rw_. jump-expected core Rw)
    (λ n2. if_cases (IsExpected core) (cmd == 4) _ _ (λ cold. tt)
    (λ n4. if_cases (IsExpected core) (cmd == 5) _ _ (λ disable. success core _ []) (λ rest. refusal core 3 (omega arith) refl refl refl))))))

-- whether a command is one that may be answered with any status
abbrev is_loose : Command → Bool
is_loose Test = true
is_loose Resend = true
is_loose other = false

-- no erase is pending where none holds a request up
none-pending : (erase : Option EraseJob) → (is_some erase && true) ≡ false → erase ≡ None
none-pending None free = refl
none-pending (Some job) free = absurd (cc)

-- each other row, where no pending erase holds it up
row-expected : (core : Core) (limit : ℕ) (command : Command) (version : ℕ) (body : List ℕ) → is_loose command ≡ false → (is_some core.live.erase && not (is_answered_while_erasing command)) ≡ false → IsExpected core (row core limit command version body)
row-expected core limit Proto version body strict free = success core core _
row-expected core limit Hello version body strict free = success core core _
row-expected core limit Version version body strict free = success core core _
row-expected core limit Chip version body strict free = success core core _
row-expected core limit CmdVersions version body strict free = mask-expected core (known (if version == 0 then slice_index body 0 else u16_at 0 body))
row-expected core limit Comms version body strict free = success core core _
row-expected core limit Test version body strict free = absurd (cc)
row-expected core limit ProtoInfo version body strict free = success core core _
row-expected core limit FlashInfo version body strict free = success core core _
row-expected core limit FlashRead version body strict free = read-expected core limit body
row-expected core limit FlashWrite version body strict free = write-expected core version body
row-expected core limit FlashErase version body strict free = erase-expected core body (none-pending core.live.erase free)
row-expected core limit FlashProtect version body strict free = success core _ _
row-expected core limit RegionInfo version body strict free = range-expected core (region_range (u32_at 0 body) (length core.flash))
row-expected core limit Sysinfo version body strict free = success core core _
row-expected core limit VbootHash version body strict free = hash-expected core body
row-expected core limit Reboot version body strict free = reboot-expected core body
row-expected core limit Resend version body strict free = absurd (cc)

-- a line of such a command has its number
abbrev is_told : CommandLine → Bool
is_told entry = not (is_loose entry.command) || tells_any entry.number

-- two equal numbers
eq-of : (a b : ℕ) → (a == b) ≡ true → a ≡ b
eq-of a b same = grind (arith, eqb_tells)

-- the two parts of a test
and-parts : (a b : Bool) → (a && b) ≡ true → (a ≡ true) × (b ≡ true)
and-parts true b both = (refl, both)
and-parts false b both = (cc, cc)

-- a line that was found has the number that was looked for, and passes the test that all lines pass
found-by : (test : Bool) (first : CommandLine) (number : ℕ) (lines : List CommandLine) (found : CommandLine) → (number == first.number) ≡ test → is_told first ≡ true →
    (line_in lines number ≡ Some found → (number ≡ found.number) × (is_told found ≡ true)) → (if test then Some first else line_in lines number) ≡ Some found → (number ≡ found.number) × (is_told found ≡ true)
found-by true first number lines found tests here rest same =
    let at : first ≡ found = cc in
    (eq-of number first.number tests ∙ ap (λ (entry : CommandLine). entry.number) at, ap (λ (entry : CommandLine). is_told entry) (sym at) ∙ here)
found-by false first number lines found tests here rest same = rest same

-- the same of all lines
found-is : (lines : List CommandLine) (number : ℕ) (found : CommandLine) → list_all is_told lines ≡ true → line_in lines number ≡ Some found → (number ≡ found.number) × (is_told found ≡ true)
found-is [] number found all same = absurd (cc)
found-is (first ∷ lines) number found all same =
    let parts = and-parts (is_told first) (list_all is_told lines) all in
    found-by (number == first.number) first number lines found refl parts.0 (λ at. found-is lines number found parts.1 at) same

-- a command of another number is none that may be answered with any status
strict-of : (loose any : Bool) → (not loose || any) ≡ true → any ≡ false → loose ≡ false
strict-of true true told other = other
strict-of true false told other = absurd (cc)
strict-of false any told other = refl

-- a request with its line of the table: each of the checks may refuse it
line-expected : (core : Core) (limit : ℕ) (request : RequestView) (entry : Option CommandLine) → line_of request.command ≡ entry → tells_any request.command ≡ false → IsExpected core (row_of core limit (admitted_by core request entry))
line-expected core limit request None found_is other = refusal core 1 (omega arith) refl refl refl
line-expected core limit request (Some found) found_is other =
    let answers : Result Admitted ℕ → Type 0 = λ result. IsExpected core (row_of core limit result) in
    let known_line = found-is command_table request.command found refl found_is in
    let strict : is_loose found.command ≡ false = strict-of (is_loose found.command) (tells_any found.number) known_line.1 (ap (λ (number : ℕ). tells_any number) (sym known_line.0) ∙ other) in
    let waits = is_some core.live.erase && not (is_answered_while_erasing found.command) in
    if_cases answers (not (offers found.mask request.version)) _ _ (λ refused. refusal core 6 (omega arith) refl refl refl)
    (λ offered. if_cases answers waits _ _ (λ busy. held core (pending-of (is_some core.live.erase) (not (is_answered_while_erasing found.command)) busy))
    (λ free. if_cases answers (not (is_spelled found.command request.version request.body)) _ _ (λ wrong. refusal core 3 (omega arith) refl refl refl)
    (λ spelled. row-expected core limit found.command request.version request.body strict free))) where
      pending-of : (a b : Bool) → (a && b) ≡ true → a ≡ true
      pending-of true b both = refl
      pending-of false b both = cc

-- what a spelled request is answered with
outcome-expected : (request : RequestView) (core : Core) (limit : ℕ) → request.command < 65536 → length request.body < 65536 → tells_any request.command ≡ false → IsExpected core (handled core limit (packet_of request))
outcome-expected request core limit small short other =
    let framed = framing-spelled request.command request.version request.body small short in
    subst (λ (read : Result RequestView ℕ). IsExpected core (row_of core limit (admitted_from core read))) (sym framed) (line-expected core limit request (line_of request.command) refl other)

-- a request that is no TEST_PROTOCOL and no RESEND_RESPONSE is answered as it is expected
pub expected : (request : RequestView) (core after : Core) (limit status : ℕ) (body : List ℕ) → request.command < 65536 → length request.body < 65536 → tells_any request.command ≡ false →
    handled core limit (packet_of request) ≡ Answered after status body → Expected core after status body
expected request core after limit status body small short other same = subst (λ (outcome : Outcome). IsExpected core outcome) same (outcome-expected request core limit small short other)
