-- One try, and a whole command, that nothing disturbs.
use Rattle.std.proofs.Common.{◌≡◌, refl, ap, ◌∙◌, subst, ℕ, ◌+◌, ◌≤◌, Bool, true, false, ◌||◌, ◌==◌, if◌then◌else◌, List, [], length, Option, Some, arith}
use Rattle.std.proofs.lemmas.Bool.{eqb-true}
use Rattle.ec_types.specs.Tables.{packet_limit}
use Rattle.ec_types.specs.declared.bus.BusKind.{BusKind}
use Rattle.ec_types.specs.declared.bus.BusKind.TheVariants.{Lpc, I2c, Spi}
use Rattle.ec_model.specs.declared.event.Entry.{Entry}
use Rattle.ec_model.specs.declared.live.EraseJob.{EraseJob}
use Rattle.ec_model.specs.Answer.{Outcome, Answered}
use Rattle.ec_model.specs.Asks.{Setting, Status, packet_of, has_status}
use Rattle.ec_model.specs.Handle.{handled}
use Rattle.ec_model.specs.HostCalls.{HostView, calls_of, view_after}
use Rattle.ec_model.specs.Packet.{RequestView}
use Rattle.ec_model.specs.Run.{IsRun}
use Rattle.ec_model.specs.Table.{Table, Core}
use Rattle.ec_model.specs.Tries.{TryEnd, Final, Again, Answered as SaidAnswered, try_end, resend_request, TriesOnce}
use Rattle.ec_model.proofs.RunLaws.{run-split}
use Rattle.exchange_laws.specs.Resting.{is_waiting}
use Rattle.host_framing.specs.Room.{waiting_room}
use Rattle.command_laws.specs.Carried.{led_on, handled_idle, carried}
use Rattle.command_laws.specs.Idle.{poll_waits, idled}
use Rattle.command_laws.specs.Room.{led_room, idle_room, past_room, try_room}
use Rattle.command_laws.proofs.Parts.{quiet-both, calls-both}
use Rattle.command_laws.proofs.Asking.{IsHandled}
use Rattle.command_laws.proofs.HostRequests.{resend-handled, resend-plain}
use Rattle.command_laws.proofs.Polling.{room-behind}
use Rattle.command_laws.proofs.Statuses.{Expected}
use Rattle.command_laws.proofs.Ticks.{idled-erase}
use Rattle.command_laws.proofs.Answering.{at-sound, waits-few}
use Rattle.command_laws.proofs.Idling.{idle-asks-calm}
use Rattle.command_laws.proofs.PastErase.{IsPast, past-calm, on-status, on-other, led-on, led-off, room-on, room-off, room-of, run-none, said-still}
use Rattle.command_laws.specs.Commands.{Fits, IsProper}
use Rattle.command_laws.specs.Standing.{HasRoom, IsAt, IsOpen, IsQuiet}

-- RESEND_RESPONSE fits each bus
pub resend-fits : (bus : BusKind) → Fits bus resend_request
resend-fits Lpc = record { plain = resend-plain; short = omega arith }
resend-fits I2c = record { plain = resend-plain; short = omega arith }
resend-fits Spi = record { plain = resend-plain; short = omega arith }

-- what a try means that was answered with this status at last
abbrev pub meant : ℕ → List ℕ → TryEnd
meant status body = if status == 3 then Again true else Final (SaidAnswered status body)

-- two tests of numbers
parts-false : (a b c : Bool) → (a || b || c) ≡ false → (a ≡ false) × (b ≡ false) × (c ≡ false)
parts-false true b c same = cc
parts-false false true c same = cc
parts-false false false c same = (refl, refl, same)

-- a status that speaks of no packet, and is neither 8 nor 16, is unclean where it is 3
meant-by : (three : Bool) (status : ℕ) (body : List ℕ) → (status == 3) ≡ three → ((status == 7) || (status == 12) || (status == 13)) ≡ false → (status == 8) ≡ false → (status == 16) ≡ false → try_end false (Status status body) ≡ meant status body
meant-by three status body is framed not_going not_busy =
    let others = parts-false (status == 7) (status == 12) (status == 13) framed in
    rw (others.0, others.1, others.2, not_going, not_busy) (by-three (status == 3) status body)
  where
    by-three : (three : Bool) (status : ℕ) (body : List ℕ) → (if (three || false) || false then Again three else Final (SaidAnswered status body)) ≡ (if three then Again true else Final (SaidAnswered status body))
    by-three true status body = refl
    by-three false status body = refl

-- the command behind a request that began an erase
resend-outcome : (limit : ℕ) (core after : Core) → after ≡ core → (idled core).live.saved ≡ 0 → handled_idle limit resend_request after ≡ Answered (record (idled core) { live = record (idled core).live { saved = 9 } }) 0 []
resend-outcome limit core after same saved =
    ap (handled_idle limit resend_request) same ∙ resend-handled (idled core) limit ∙ ap (λ (status : ℕ). Answered (record (idled core) { live = record (idled core).live { saved = 9 } }) status []) saved

-- a try that nothing disturbed
pub record IsTried (bus : BusKind) (request : RequestView) (core : Core) (room : ℕ) (entries : List Entry) (end : TryEnd) (last : Table) : Type 0 where
  pub after : Core
  pub status : ℕ
  pub body : List ℕ
  pub is : carried (packet_limit bus) request core ≡ Answered after status body
  pub end_is : end ≡ meant status body
  pub at : IsAt bus after last
  pub takes : length (calls_of entries) ≡ room
  -- one that is refused for its parameters is so again
  pub again : status ≡ 3 → (body ≡ []) × (carried (packet_limit bus) request after ≡ Answered after 3 [])

-- what a command comes to whose request is answered with neither of two statuses
carried-plain : (limit : ℕ) (request : RequestView) (core after : Core) (status : ℕ) (body : List ℕ) → handled core limit (packet_of request) ≡ Answered after status body → (status == 16) ≡ false → (status == 8) ≡ false → carried limit request core ≡ Answered after status body
carried-plain limit request core after status body same not_busy not_going =
    ap (λ (o : Outcome). led_on 8 (handled_idle limit resend_request) (led_on 16 (handled_idle limit request) o)) same
    ∙ ap (led_on 8 (handled_idle limit resend_request)) (led-off 16 status (handled_idle limit request) after body not_busy)
    ∙ led-off 8 status (handled_idle limit resend_request) after body not_going

-- a refused request is refused again
refused-again : (bus : BusKind) (request : RequestView) (want : ℕ) (base after : Core) (status : ℕ) (body : List ℕ) → IsHandled bus request want base after status body → Expected base after status body → status ≡ 3 → (body ≡ []) × (carried (packet_limit bus) request after ≡ Answered after 3 [])
refused-again bus request want base after status body told expects three =
    let kept = expects.invalid three in
    let limit = packet_limit bus in
    let same : handled after limit (packet_of request) ≡ Answered after 3 [] =
    ap (λ (c : Core). handled c limit (packet_of request)) kept.0 ∙ told.is ∙ ap (λ (n : ℕ). Answered after n body) three ∙ ap (Answered after 3) kept.1 in
    (kept.1, carried-plain limit request after after 3 [] same refl refl)

try-by : (going : Bool) (setting : Setting) (request : RequestView) (want : ℕ) (view : HostView) (core : Core) (table middle : Table) (entries : List Entry) (end : TryEnd) (last : Table) (waiting : ℕ) →
    HasRoom setting view (try_room setting.bus request core + waiting) → (tries : TriesOnce setting request want view entries end) → IsQuiet tries.first → IsQuiet tries.rest → IsRun middle tries.rest last →
    (past : IsPast setting.bus request want core (past_room setting.bus request core + waiting) tries.first tries.told middle) → (past.status == 8) ≡ going →
    IsTried setting.bus request core (try_room setting.bus request core + waiting) entries end last
try-by false setting request want view core table middle entries end last waiting has tries quiet quiets run past other =
    let bus = setting.bus in
    let limit = packet_limit bus in
    let over = on-other 8 past.status past.body tries.told tries.last _ tries.rest (past.said).end_is other tries.resent in
    let room = ap (led_room 8 (idle_room bus resend_request)) past.is ∙ room-off 8 past.status (idle_room bus resend_request) past.after past.body other in
    let said = said-still bus past.after past.status past.body _ entries tries.first tries.rest tries.told tries.last middle last tries.parts over.0 over.1 (run-none tries.rest middle last over.0 run) (past.said).end_is (past.said).at (past.said).takes in
    let going : has_status 8 tries.told ≡ false = ap (has_status 8) (past.said).end_is ∙ other in
    record {
      after = past.after;
      status = past.status;
      body = past.body;
      is = ap (led_on 8 (handled_idle limit resend_request)) past.is ∙ led-off 8 past.status (handled_idle limit resend_request) past.after past.body other;
      end_is = tries.end_is ∙ ap (λ (test : Bool). try_end test tries.last) going ∙ ap (try_end false) said.end_is ∙ meant-by (past.status == 3) past.status past.body refl (past.expects).framed other past.not_busy;
      at = said.at;
      takes = omega (arith, said.takes, room);
      again = refused-again bus request want past.base past.after past.status past.body past.told past.expects;
    }
try-by true setting request want view core table middle entries end last waiting has tries quiet quiets run past same =
    let bus = setting.bus in
    let limit = packet_limit bus in
    let begun = (past.expects).begun (eqb-true past.status 8 same) in
    let after = past.after in
    let more = on-status 8 past.status past.body tries.told tries.last _ tries.rest (past.said).end_is same tries.resent in
    let pending : after.live.erase ≡ Some begun.0 = ap (λ (c : Core). c.live.erase) begun.2 in
    let few = waits-few bus after (at-sound bus after middle (past.said).at) in
    let some : 1 ≤ (begun.0).left = omega (arith, few.some, ap (λ (erase : Option EraseJob). poll_waits erase) pending) in
    let saved = (idled-erase after begun.0 pending some).1 in
    let left : Core = record (idled after) { live = record (idled after).live { saved = 9 } } in
    let outcome = resend-outcome limit after after refl saved in
    let room = ap (led_room 8 (idle_room bus resend_request)) past.is ∙ room-on 8 past.status (idle_room bus resend_request) after past.body same in
    let behind = room-behind setting view tries.first (length (calls_of tries.first)) (idle_room bus resend_request after) quiet refl (record { on = has.on; enough = omega (arith, has.enough, (past.said).takes, room) }) in
    let is : IsHandled bus resend_request 0 (idled after) left 0 [] = record { is = outcome; small = omega arith; wanted = λ success. refl } in
    let said = idle-asks-calm setting resend_request 0 (view_after tries.first view) after left 0 [] middle tries.rest tries.last last (past.said).at (resend-fits bus) behind quiets run is more in
    let going : has_status 8 tries.told ≡ true = ap (has_status 8) (past.said).end_is ∙ same in
    record {
      after = left;
      status = 0;
      body = [];
      is = ap (led_on 8 (handled_idle limit resend_request)) past.is ∙ led-on 8 past.status (handled_idle limit resend_request) after past.body same ∙ outcome;
      end_is = tries.end_is ∙ ap (λ (test : Bool). try_end test tries.last) going ∙ ap (try_end true) said.end_is;
      at = said.at;
      takes = ap (λ (xs : List Entry). length (calls_of xs)) tries.parts ∙ calls-both tries.first tries.rest ∙ omega (arith, (past.said).takes, said.takes, room);
      again = λ none. absurd (omega (arith, none));
    }

-- one try that nothing disturbs
pub try-calm : (setting : Setting) (request : RequestView) (want : ℕ) (view : HostView) (core : Core) (table : Table) (entries : List Entry) (end : TryEnd) (last : Table) (waiting : ℕ) → IsOpen setting.bus core table → IsProper setting.bus request want → waiting ≡ waiting_room setting.bus (is_waiting table.power) →
    HasRoom setting view (try_room setting.bus request core + waiting) → IsQuiet entries → IsRun table entries last → TriesOnce setting request want view entries end →
    IsTried setting.bus request core (try_room setting.bus request core + waiting) entries end last
try-calm setting request want view core table entries end last waiting open_ proper waits has quiet run tries =
    let split = run-split table last tries.first tries.rest (subst (λ (xs : List Entry). IsRun table xs last) tries.parts run) in
    let quiets = quiet-both tries.first tries.rest (subst (λ (xs : List Entry). IsQuiet xs) tries.parts quiet) in
    let past = past-calm setting request want view core table tries.first tries.told split.0 waiting open_ proper waits (room-of setting view (try_room setting.bus request core + waiting) (past_room setting.bus request core + waiting) (omega arith) has) quiets.0 split.1 tries.asked in
    try-by (past.status == 8) setting request want view core table split.0 entries end last waiting has tries quiets.0 quiets.1 split.2 past refl
