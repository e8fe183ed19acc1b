-- FLASH_ERASE of RW, where nothing disturbs it: RW is all 0xFF behind it.
use Rattle.std.proofs.Common.{◌≡◌, refl, sym, ap, ◌∙◌, subst, ℕ, ◌+◌, ◌*◌, ◌/◌, ◌<◌, ◌≤◌, ◌^◌, not, if◌then◌else◌, [], ◌++◌, length, take, drop, replicate, Option, Some, None, Ok, arith}
use Rattle.std.proofs.lemmas.List.{length-take-le, length-drop, take-append-drop}
use Rattle.ec_types.specs.LittleEndian.{u32_at}
use Rattle.ec_types.specs.Tables.{packet_limit}
use Rattle.ec_types.specs.declared.bus.BusKind.{BusKind}
use Rattle.flash_dev.specs.Flash.{block_size}
use Rattle.ec_model.specs.Answer.{Outcome, Answered, unless_refused}
use Rattle.ec_model.specs.Asks.{Setting, packet_of}
use Rattle.ec_model.specs.Bodies.{flash_erase_ask}
use Rattle.ec_model.specs.Commands as table
use Rattle.ec_model.specs.Erasing.{asked_job, with_job}
use Rattle.ec_model.specs.FlashRows.{asked_range, is_whole_units, flash_erase_row}
use Rattle.ec_model.specs.Handle.{handled}
use Rattle.ec_model.specs.Packet.{request_packet}
use Rattle.ec_model.specs.Ranges.{Range, rw_range}
use Rattle.ec_model.specs.Table.{Core, is_blocked}
use Rattle.ec_model.specs.Tries.{resend_request}
use Rattle.command_laws.specs.Carried.{led_on, handled_idle, past_erase, carried}
use Rattle.command_laws.specs.Commands.{IsProper}
use Rattle.command_laws.specs.Idle.{idled}
use Rattle.command_laws.specs.Room.{ask_room, led_room, idle_room, try_room, command_room}
use Rattle.command_laws.proofs.HostRequests.{resend-handled}
use Rattle.command_laws.proofs.Ticks.{idled-erase}
use Rattle.sync_rules.specs.Parts.{on_success}
use Rattle.sync_rules.specs.Replies.{confirmed}
use Rattle.sync_rules.specs.Requests.{erase_request}
use Rattle.sync_rules.specs.Steps.{Confirms}
use Rattle.sync_laws.specs.Calm.{Reaches}
use Rattle.sync_laws.proofs.Calmly.{commands-reach}
use Rattle.sync_laws.proofs.Writable.{Makes, IsReady, not-blocked, whole-units, no-refusal, halved, bare-length}
use Rattle.sync_laws.proofs.Clearing.{Becomes, cleared}
use Rattle.sync_laws.proofs.KeptSteps.{IsSized}
use Rattle.sync_laws.proofs.Looked.{more-reaches}
use Rattle.sync_laws.proofs.Pending.{turns-few}
use Rattle.sync_laws.proofs.Proper.{fits-any, wanted-of}
use Rattle.sync_laws.proofs.Rows.{unless_pending, numbered-row}
use Rattle.sync_laws.proofs.Sealing.{any-room}
use Rattle.sync_laws.proofs.Surveying.{is-free}

-- FLASH_ERASE
erase-row : (core : Core) (limit at count : ℕ) → handled core limit (request_packet 0x13 0 (flash_erase_ask at count)) ≡ unless_pending core (flash_erase_row core (flash_erase_ask at count))
erase-row core limit at count = numbered-row core limit 0x13 0 (flash_erase_ask at count) table.FlashErase 1 (omega arith) (omega arith) refl refl refl refl

erase-proper : (bus : BusKind) (range : Range) → IsProper bus (erase_request range) 0
erase-proper bus range = record {
  fits = fits-any bus 0x13 0 (flash_erase_ask range.at range.size) (omega arith) (omega arith) refl;
  number = omega arith;
  body = omega arith;
  steady = refl;
  wanted = wanted-of bus (erase_request range) 0 (λ core limit. flash_erase_row core (flash_erase_ask range.at range.size)) (λ core limit. erase-row core limit range.at range.size) (λ core limit. bare-length _ core _ 8);
}

-- the controller with a whole erase of RW to come
abbrev begun : Core → Core
begun core = with_job (Some (asked_job (rw_range (length core.flash)))) 9 core

asked-is : (at count : ℕ) → at < 2 ^ 32 → count < 2 ^ 32 → asked_range (flash_erase_ask at count) ≡ record { at = at; size = count }
asked-is at count low few =
    let first : u32_at 0 (flash_erase_ask at count) ≡ at = omega (arith, low) in
    let second : u32_at 4 (flash_erase_ask at count) ≡ count = omega (arith, few) in
    rw (first, second) refl

abbrev row_by : Core → Range → Outcome
row_by core range =
    unless_refused (if not (is_whole_units block_size core range) then Some 3 else if is_blocked (length core.flash) core.live range then Some 4 else None) core
    (Answered (with_job (Some (asked_job range)) 9 core) 8 [])

begins : (core : Core) → IsReady core → IsSized core → flash_erase_row core (flash_erase_ask (rw_range (length core.flash)).at (rw_range (length core.flash)).size) ≡ Answered (begun core) 8 []
begins core ready sized =
    let range = rw_range (length core.flash) in
    let half = halved (length core.flash) sized.stated in
    ap (row_by core) (asked-is range.at range.size (omega (arith, half.most)) (omega (arith, half.most)))
    ∙ ap (λ (refusal : Option ℕ). unless_refused refusal core (Answered (begun core) 8 []))
    (no-refusal (is_whole_units block_size core range) (is_blocked (length core.flash) core.live range)
    (whole-units block_size core range (omega (arith, half.least)) half.blocks half.blocks (omega (arith, half.both))) (not-blocked core range ready (omega arith)))

-- the request, its answer, a poll of each block, and the saved status
abbrev pub erase_room : ℕ → ℕ
erase_room size = 52 + size / 2 / 4096 * 27

-- what the command comes to
erase-carried : (core : Core) (limit : ℕ) → IsReady core → IsSized core → handled core limit (packet_of (erase_request (rw_range (length core.flash)))) ≡ Answered (begun core) 8 []
erase-carried core limit ready sized =
    let range = rw_range (length core.flash) in
    erase-row core limit range.at range.size ∙ is-free core (flash_erase_row core (flash_erase_ask range.at range.size)) ready.none ∙ begins core ready sized

-- the controller once the saved status was asked for
abbrev told_once : Core → Core
told_once core = record core { live = record core.live { saved = 9 } }

erase-reaches : (setting : Setting) (core : Core) → IsReady core → IsSized core → Reaches setting (Confirms setting (erase_request (rw_range (length core.flash)))) core (Ok tt) (told_once (idled (begun core))) (erase_room (length core.flash))
erase-reaches setting core ready sized =
    let bus = setting.bus in
    let limit = packet_limit bus in
    let size = length core.flash in
    let request = erase_request (rw_range size) in
    let middle = begun core in
    let last = told_once (idled middle) in
    let half = halved size sized.stated in
    let job = asked_job (rw_range size) in
    let some : 1 ≤ size / 2 / 4096 = omega (arith, half.least) in
    let saved = (idled-erase middle job refl some).1 in
    let first = erase-carried core limit ready sized in
    let past : past_erase limit request core ≡ Answered middle 8 [] = ap (led_on 16 (handled_idle limit request)) first in
    let again = resend-handled (idled middle) limit in
    let whole : carried limit request core ≡ Answered last 0 [] = ap (led_on 8 (handled_idle limit resend_request)) past ∙ again ∙ ap (λ (status : ℕ). Answered last status []) saved in
    let asked = ap (ask_room bus request) first in
    let free = ap (led_room 16 (idle_room bus request)) first in
    let polled = ap (led_room 8 (idle_room bus resend_request)) past in
    let resent = ap (ask_room bus resend_request) again in
    let third = ap (led_room 3 (λ left. 2 * try_room bus request left)) whole in
    more-reaches setting (Confirms setting request) core (Ok tt) last (command_room bus request core) (erase_room size)
    (omega (arith, asked, free, polled, resent, third, turns-few bus (size / 2 / 4096), any-room bus 16 8, any-room bus 8 8))
    (commands-reach setting request 0 (on_success confirmed) core last 0 [] (erase-proper bus (rw_range size)) whole)

-- what the erase leaves of the controller
erase-leaves : (core : Core) → IsReady core → IsSized core → Becomes (begun core) (take (length core.flash / 2) core.flash ++ replicate (length core.flash / 2) 0xFF) (idled (begun core))
erase-leaves core ready sized =
    let size = length core.flash in
    let half = halved size sized.stated in
    let front = take (size / 2) core.flash in
    let rest = drop (size / 2) core.flash in
    let long : length rest ≡ size / 2 = length-drop (size / 2) core.flash ∙ omega (arith, half.both) in
    let at : length front ≡ size / 2 = length-take-le (size / 2) core.flash (omega (arith, half.both)) in
    subst (λ (n : ℕ). Becomes (begun core) (front ++ replicate n 0xFF) (idled (begun core))) long
    (cleared (begun core) (asked_job (rw_range size)) front rest (size / 2 / 4096) refl refl (omega (arith, half.least)) (at ∙ omega (arith, half.blocks)) (long ∙ omega (arith, half.blocks)) (sym (take-append-drop (size / 2) core.flash)))

-- RW is erased whole
pub can-erase : (setting : Setting) (core : Core) → IsReady core → IsSized core →
    Makes setting (Confirms setting (erase_request (rw_range (length core.flash)))) core (take (length core.flash / 2) core.flash ++ replicate (length core.flash / 2) 0xFF) (erase_room (length core.flash))
can-erase setting core ready sized =
    let is = erase-leaves core ready sized in
    record {
      after = told_once (idled (begun core));
      becomes = record {
        stays = record { pin_is = is.stays.pin_is; copy_is = is.stays.copy_is; ro_is = is.stays.ro_is; all_is = is.stays.all_is; off_is = is.stays.off_is };
        none = is.none;
        flash_is = is.flash_is;
      };
      reaches = erase-reaches setting core ready sized;
    }
