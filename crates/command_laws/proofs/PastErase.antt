-- A request that is asked once more behind a pending erase, where nothing disturbs it.
use Rattle.std.proofs.Common.{◌≡◌, refl, sym, ap, ◌∙◌, subst, ℕ, ◌+◌, ◌≤◌, Bool, true, false, ◌==◌, if◌then◌else◌, List, [], ◌++◌, length, Option, None, is_some, arith, MatchBool}
use Rattle.std.proofs.lemmas.Bool.{eqb-true}
use Rattle.ec_types.specs.Tables.{packet_limit}
use Rattle.ec_types.specs.declared.bus.BusKind.{BusKind}
use Rattle.ec_model.specs.declared.event.Entry.{Entry}
use Rattle.ec_model.specs.declared.live.EraseJob.{EraseJob}
use Rattle.ec_model.specs.Answer.{Outcome, Answered}
use Rattle.ec_model.specs.Asks.{Setting, Got, Status, has_status}
use Rattle.ec_model.specs.HostCalls.{HostView, calls_of, view_after}
use Rattle.ec_model.specs.Packet.{RequestView}
use Rattle.ec_model.specs.Run.{IsRun}
use Rattle.ec_model.specs.Table.{Table, Core}
use Rattle.ec_model.specs.Tries.{OnStatus, AsksPastErase}
use Rattle.ec_model.proofs.RunLaws.{run-split}
use Rattle.exchange_laws.specs.Resting.{is_waiting}
use Rattle.host_framing.specs.Room.{waiting_room}
use Rattle.command_laws.specs.Carried.{led_on, handled_idle, past_erase}
use Rattle.command_laws.specs.Idle.{idled}
use Rattle.command_laws.specs.Room.{poll_room, ask_room, led_room, idle_room, past_room}
use Rattle.command_laws.proofs.Parts.{quiet-both, calls-both}
use Rattle.command_laws.proofs.Asking.{IsHandled, asks-calm}
use Rattle.command_laws.proofs.Polling.{can-send, room-behind}
use Rattle.command_laws.proofs.Statuses.{Expected}
use Rattle.command_laws.proofs.Answering.{IsAnswered, open-sound, request-answered}
use Rattle.command_laws.proofs.Idling.{IsSaid, idle-asks-calm, idle-sound, idled-free}
use Rattle.command_laws.specs.Commands.{IsProper}
use Rattle.command_laws.specs.Standing.{HasRoom, IsAt, IsOpen, IsQuiet}

-- what is done on this status is done
pub on-status : (status told : ℕ) (body : List ℕ) (got end : Got) (more : Type 0) (rest : List Entry) → got ≡ Status told body → (told == status) ≡ true → OnStatus status got more rest end → more
on-status status told body got end more rest is same on = subst (λ (test : Bool). MatchBool test more ((rest ≡ []) × (end ≡ got))) (ap (has_status status) is ∙ same) on

-- and nothing on another one
pub on-other : (status told : ℕ) (body : List ℕ) (got end : Got) (more : Type 0) (rest : List Entry) → got ≡ Status told body → (told == status) ≡ false → OnStatus status got more rest end → (rest ≡ []) × (end ≡ got)
on-other status told body got end more rest is other on = subst (λ (test : Bool). MatchBool test more ((rest ≡ []) × (end ≡ got))) (ap (has_status status) is ∙ other) on

-- the outcome leads on, and takes the room of that
pub led-on : (status told : ℕ) (more : Core → Outcome) (after : Core) (body : List ℕ) → (told == status) ≡ true → led_on status more (Answered after told body) ≡ more after
led-on status told more after body same = ap (λ (test : Bool). if test then more after else Answered after told body) same

pub led-off : (status told : ℕ) (more : Core → Outcome) (after : Core) (body : List ℕ) → (told == status) ≡ false → led_on status more (Answered after told body) ≡ Answered after told body
led-off status told more after body other = ap (λ (test : Bool). if test then more after else Answered after told body) other

pub room-on : (status told : ℕ) (more : Core → ℕ) (after : Core) (body : List ℕ) → (told == status) ≡ true → led_room status more (Answered after told body) ≡ more after
room-on status told more after body same = ap (λ (test : Bool). if test then more after else 0) same

pub room-off : (status told : ℕ) (more : Core → ℕ) (after : Core) (body : List ℕ) → (told == status) ≡ false → led_room status more (Answered after told body) ≡ 0
room-off status told more after body other = ap (λ (test : Bool). if test then more after else 0) other

-- a run of nothing leads nowhere
pub run-none : (entries : List Entry) (old new : Table) → entries ≡ [] → IsRun old entries new → new ≡ old
run-none entries old new none run = subst (λ (xs : List Entry). IsRun old xs new) none run

-- an end behind nothing more
pub said-still : (bus : BusKind) (after : Core) (status : ℕ) (body : List ℕ) (room : ℕ) (entries first rest : List Entry) (told end : Got) (middle last : Table) → entries ≡ first ++ rest → rest ≡ [] → end ≡ told → last ≡ middle →
    told ≡ Status status body → IsAt bus after middle → length (calls_of first) ≡ room → IsSaid bus after status body room entries end last
said-still bus after status body room entries first rest told end middle last parts none same still told_is at takes =
    record {
      end_is = same ∙ told_is;
      at = subst (λ (t : Table). IsAt bus after t) (sym still) at;
      takes = ap (λ (xs : List Entry). length (calls_of xs)) parts ∙ calls-both first rest ∙ omega (arith, takes, ap (λ (xs : List Entry). length (calls_of xs)) none);
    }

-- where no erase is pending, a request is not told that one is
not-busy : (core after : Core) (status : ℕ) (body : List ℕ) (busy : Bool) → core.live.erase ≡ None → Expected core after status body → (status == 16) ≡ busy → busy ≡ false
not-busy core after status body false none expects same = refl
not-busy core after status body true none expects same =
    let pending = (expects.busy (eqb-true status 16 same)).1 in
    let nothing = ap (λ (erase : Option EraseJob). is_some erase) none in
    absurd (cc)

-- what a request came to that was asked once more where an erase was pending
pub record IsPast (bus : BusKind) (request : RequestView) (want : ℕ) (core : Core) (room : ℕ) (entries : List Entry) (end : Got) (last : Table) : Type 0 where
  pub base : Core
  pub after : Core
  pub status : ℕ
  pub body : List ℕ
  pub is : past_erase (packet_limit bus) request core ≡ Answered after status body
  pub said : IsSaid bus after status body room entries end last
  pub told : IsHandled bus request want base after status body
  pub expects : Expected base after status body
  pub not_busy : (status == 16) ≡ false

-- the room that the first request leaves
pub room-of : (setting : Setting) (view : HostView) (room more : ℕ) → more ≤ room → HasRoom setting view room → HasRoom setting view more
room-of setting view room more few has = record { on = has.on; enough = omega (arith, has.enough, few) }

past-by : (busy : Bool) (setting : Setting) (request : RequestView) (want : ℕ) (view : HostView) (core : Core) (table : Table) (entries : List Entry) (end : Got) (last : Table) (waiting : ℕ) → IsOpen setting.bus core table → IsProper setting.bus request want → waiting ≡ waiting_room setting.bus (is_waiting table.power) →
    HasRoom setting view (past_room setting.bus request core + waiting) → IsQuiet entries → IsRun table entries last → AsksPastErase setting request want view entries end → (answered : IsAnswered setting.bus request want core) → (answered.status == 16) ≡ busy →
    IsPast setting.bus request want core (past_room setting.bus request core + waiting) entries end last
past-by false setting request want view core table entries end last waiting open_ proper waits has quiet run past answered other =
    let bus = setting.bus in
    let split = run-split table last past.first past.rest (subst (λ (xs : List Entry). IsRun table xs last) past.parts run) in
    let quiets = quiet-both past.first past.rest (subst (λ (xs : List Entry). IsQuiet xs) past.parts quiet) in
    let told = asks-calm setting request want view core answered.after answered.status answered.body table past.first past.told split.0 open_ proper.fits (can-send setting view _ has) quiets.0 split.1 answered.told past.asked in
    let over = on-other 16 answered.status answered.body past.told end _ past.rest told.end_is other past.again in
    let outcome = ap (λ (o : Outcome). ask_room bus request o + led_room 16 (idle_room bus request) o) (answered.told).is in
    let none = room-off 16 answered.status (idle_room bus request) answered.after answered.body other in
    record {
      base = core;
      after = answered.after;
      status = answered.status;
      body = answered.body;
      is = ap (led_on 16 (handled_idle (packet_limit bus) request)) (answered.told).is ∙ led-off 16 answered.status (handled_idle (packet_limit bus) request) answered.after answered.body other;
      said = said-still bus answered.after answered.status answered.body _ entries past.first past.rest past.told end split.0 last past.parts over.0 over.1 (run-none past.rest split.0 last over.0 split.2) told.end_is told.at (omega (arith, told.takes, outcome, none, waits));
      told = answered.told;
      expects = answered.expects;
      not_busy = other;
    }
past-by true setting request want view core table entries end last waiting open_ proper waits has quiet run past answered same =
    let bus = setting.bus in
    let limit = packet_limit bus in
    let split = run-split table last past.first past.rest (subst (λ (xs : List Entry). IsRun table xs last) past.parts run) in
    let quiets = quiet-both past.first past.rest (subst (λ (xs : List Entry). IsQuiet xs) past.parts quiet) in
    let told = asks-calm setting request want view core answered.after answered.status answered.body table past.first past.told split.0 open_ proper.fits (can-send setting view _ has) quiets.0 split.1 answered.told past.asked in
    let again = on-status 16 answered.status answered.body past.told end _ past.rest told.end_is same past.again in
    let kept = ((answered.expects).busy (eqb-true answered.status 16 same)).0 in
    let at = subst (λ (c : Core). IsAt bus c split.0) kept told.at in
    let outcome = ap (λ (o : Outcome). ask_room bus request o + led_room 16 (idle_room bus request) o) (answered.told).is in
    let more = room-on 16 answered.status (idle_room bus request) answered.after answered.body same ∙ ap (idle_room bus request) kept in
    let behind = room-behind setting view past.first (length (calls_of past.first)) (idle_room bus request core) quiets.0 refl (record { on = has.on; enough = omega (arith, has.enough, told.takes, outcome, more, waits) }) in
    let sound = idle-sound setting request want (view_after past.first view) core split.0 past.rest end last at (room-of setting (view_after past.first view) (idle_room bus request core) (poll_room bus core.live.erase) (omega arith) behind) quiets.1 split.2 again in
    let second = request-answered bus request want (idled core) proper sound in
    let said = idle-asks-calm setting request want (view_after past.first view) core second.after second.status second.body split.0 past.rest end last at proper.fits behind quiets.1 split.2 second.told again in
    record {
      base = idled core;
      after = second.after;
      status = second.status;
      body = second.body;
      is = ap (led_on 16 (handled_idle limit request)) (answered.told).is ∙ led-on 16 answered.status (handled_idle limit request) answered.after answered.body same ∙ ap (handled_idle limit request) kept ∙ (second.told).is;
      said = record {
        end_is = said.end_is;
        at = said.at;
        takes = ap (λ (xs : List Entry). length (calls_of xs)) past.parts ∙ calls-both past.first past.rest ∙ omega (arith, told.takes, said.takes, outcome, more, waits);
      };
      told = second.told;
      expects = second.expects;
      not_busy = not-busy (idled core) second.after second.status second.body (second.status == 16) (idled-free bus core (open-sound bus core table open_)) second.expects refl;
    }

-- a request, and once more behind a poll where an erase was pending
pub past-calm : (setting : Setting) (request : RequestView) (want : ℕ) (view : HostView) (core : Core) (table : Table) (entries : List Entry) (end : Got) (last : Table) (waiting : ℕ) → IsOpen setting.bus core table → IsProper setting.bus request want → waiting ≡ waiting_room setting.bus (is_waiting table.power) →
    HasRoom setting view (past_room setting.bus request core + waiting) → IsQuiet entries → IsRun table entries last → AsksPastErase setting request want view entries end →
    IsPast setting.bus request want core (past_room setting.bus request core + waiting) entries end last
past-calm setting request want view core table entries end last waiting open_ proper waits has quiet run past =
    let answered = request-answered setting.bus request want core proper (open-sound setting.bus core table open_) in
    past-by (answered.status == 16) setting request want view core table entries end last waiting open_ proper waits has quiet run past answered refl
