-- How few calls an undisturbed command takes.
use Rattle.std.proofs.Common.{◌≡◌, refl, sym, ap, ◌∙◌, subst, ℕ, zero, suc, ◌*◌, ◌≤◌, ◌==◌, Bool, true, false, List, [], ◌∷◌, map, length, None, is_some, arith}
use Rattle.std.proofs.Math.Nat.{mul-le-mul}
use Rattle.std.proofs.lemmas.Bool.{eqb-true}
use Rattle.ec_types.specs.Tables.{packet_limit}
use Rattle.ec_types.specs.declared.bus.BusKind.{BusKind}
use Rattle.ec_types.specs.declared.bus.BusKind.TheVariants.{Lpc, I2c, Spi}
use Rattle.ec_model.specs.declared.event.Event.TheVariants.{Tick}
use Rattle.ec_model.specs.Answer.{Outcome, Answered, Restarts}
use Rattle.ec_model.specs.Asks.{packet_of}
use Rattle.ec_model.specs.Bus.{OnI2c, Idle}
use Rattle.ec_model.specs.Handle.{handled}
use Rattle.ec_model.specs.HostCalls.{HostCall, Waited}
use Rattle.ec_model.specs.Packet.{RequestView}
use Rattle.ec_model.specs.Table.{Core, table_of}
use Rattle.ec_model.specs.Tries.{resend_request}
use Rattle.ec_model.specs.WholeStep.{stepped}
use Rattle.ec_model.proofs.GuardSteps.{if_cases}
use Rattle.ec_model.proofs.ValidRows.{IsCoreValid, ValidOutcome}
use Rattle.ec_model.proofs.ValidStep.{valid_table, handled-valid}
use Rattle.ec_wire.specs.Quiet.{quiet_entry}
use Rattle.exchange_laws.proofs.FitRows.{Fits as FitsBus, handled-fits}
use Rattle.exchange_laws.proofs.QuietEntries.{quiet-run}
use Rattle.command_laws.specs.Carried.{led_on, handled_idle, past_erase, carried}
use Rattle.command_laws.specs.Commands.{IsProper}
use Rattle.command_laws.specs.Idle.{ticked, after_ticks, poll_waits, idled}
use Rattle.command_laws.specs.Room.{turn_room, poll_room, ask_room, led_room, idle_room, try_room, command_room}
use Rattle.command_laws.specs.Standing.{IsAt}
use Rattle.command_laws.proofs.Answering.{IsSound, IsAnswered, at-sound, sound-valid, waits-few, request-answered}
use Rattle.command_laws.proofs.Idling.{idled-free}
use Rattle.command_laws.proofs.PastErase.{led-on, led-off, room-on, room-off}
use Rattle.command_laws.proofs.Statuses.{Expected, expected}
use Rattle.command_laws.proofs.Trying.{resend-fits}
use Rattle.command_laws.proofs.Waiting.{waits-calm}

-- a valid core, on a bus at rest
core-at : (core : Core) → IsCoreValid core → IsAt I2c core (table_of core (OnI2c (Idle [])))
core-at core valid =
    record {
      valid = valid_table core (OnI2c (Idle [])) valid (omega arith);
      kind_is = refl;
      leaves = record { bus = OnI2c (Idle []); same = refl; none_waits = refl };
    }

core-sound : (core : Core) → IsCoreValid core → IsSound I2c core
core-sound core valid = at-sound I2c core (table_of core (OnI2c (Idle []))) (core-at core valid)

-- a tick keeps it valid
ticked-valid : (core : Core) → IsCoreValid core → IsCoreValid (ticked core)
ticked-valid core valid =
    let calls : List HostCall = Waited ∷ [] in
    let table = table_of core (OnI2c (Idle [])) in
    let last = (stepped table Tick).table in
    let at = waits-calm I2c core table (map quiet_entry calls) last (core-at core valid) refl (record { calm = refl; steps = refl }) (quiet-run table calls last refl) in
    sound-valid I2c (ticked core) (at-sound I2c (ticked core) last at)

ticks-valid : (ticks : ℕ) (core : Core) → IsCoreValid core → IsCoreValid (after_ticks ticks core)
ticks-valid zero core valid = valid
ticks-valid (suc ticks) core valid = ticks-valid ticks (ticked core) (ticked-valid core valid)

-- and so does a poll
idled-valid : (core : Core) → IsCoreValid core → IsCoreValid (idled core)
idled-valid core valid = ticks-valid (poll_waits core.live.erase) core valid

-- an ask, by the limit of the bus
ask-by : (bus : BusKind) (request : RequestView) (outcome : Outcome) → length (packet_of request) ≤ packet_limit bus → FitsBus (packet_limit bus) outcome → ask_room bus request outcome ≤ 1094
ask-by Lpc request (Answered after status body) short fits = omega (arith, short, fits)
ask-by I2c request (Answered after status body) short fits = omega (arith, short, fits)
ask-by Spi request (Answered after status body) short fits = omega (arith, short, fits)
ask-by Lpc request Restarts short fits = omega (arith, short)
ask-by I2c request Restarts short fits = omega (arith, short)
ask-by Spi request Restarts short fits = omega (arith, short)

limit-large : (bus : BusKind) → 128 ≤ packet_limit bus
limit-large Lpc = omega arith
limit-large I2c = omega arith
limit-large Spi = omega arith

-- a request that fits its bus
abbrev IsShort : BusKind → RequestView → Type 0
IsShort bus request = length (packet_of request) ≤ packet_limit bus

pub ask-few : (bus : BusKind) (request : RequestView) (core : Core) → IsShort bus request → IsCoreValid core → ask_room bus request (handled core (packet_limit bus) (packet_of request)) ≤ 1094
ask-few bus request core short valid = ask-by bus request (handled core (packet_limit bus) (packet_of request)) short (handled-fits core (packet_limit bus) (packet_of request) (limit-large bus) valid)

-- a turn of a poll
pub turn-few : (bus : BusKind) → turn_room bus ≤ 27
turn-few Lpc = omega arith
turn-few I2c = omega arith
turn-few Spi = omega arith

-- so many turns
pub turns-few : (waits turn : ℕ) → waits ≤ 1024 → turn ≤ 27 → waits * turn ≤ 27648
turns-few waits turn few small = omega (arith, mul-le-mul few small)

poll-few : (bus : BusKind) (core : Core) → IsCoreValid core → poll_room bus core.live.erase ≤ 27648
poll-few bus core valid = turns-few (poll_waits core.live.erase) (turn_room bus) (waits-few I2c core (core-sound core valid)).few (turn-few bus)

-- an ask behind a poll
idle-few : (bus : BusKind) (request : RequestView) (core : Core) → IsShort bus request → IsCoreValid core → idle_room bus request core ≤ 28742
idle-few bus request core short valid = omega (arith, poll-few bus core valid, ask-few bus request (idled core) short (idled-valid core valid))

-- what an outcome leads to
led-few : (status most : ℕ) (more : Core → ℕ) (outcome : Outcome) → ValidOutcome outcome → ((after : Core) → IsCoreValid after → more after ≤ most) → led_room status more outcome ≤ most
led-few status most more Restarts valid few = omega arith
led-few status most more (Answered after told body) valid few =
    if_cases (λ (room : ℕ). room ≤ most) (told == status) (more after) 0 (λ same. few after valid) (λ other. omega arith)

led-valid : (status : ℕ) (more : Core → Outcome) (outcome : Outcome) → ValidOutcome outcome → ((after : Core) → IsCoreValid after → ValidOutcome (more after)) → ValidOutcome (led_on status more outcome)
led-valid status more Restarts valid keeps = valid
led-valid status more (Answered after told body) valid keeps =
    if_cases ValidOutcome (told == status) (more after) (Answered after told body) (λ same. keeps after valid) (λ other. valid)

-- a request behind a poll leaves a valid core
idle-valid : (limit : ℕ) (request : RequestView) (core : Core) → IsCoreValid core → ValidOutcome (handled_idle limit request core)
idle-valid limit request core valid = handled-valid (idled core) limit (packet_of request) (idled-valid core valid)

past-valid : (limit : ℕ) (request : RequestView) (core : Core) → IsCoreValid core → ValidOutcome (past_erase limit request core)
past-valid limit request core valid =
    led-valid 16 (handled_idle limit request) (handled core limit (packet_of request)) (handled-valid core limit (packet_of request) valid) (λ after still. idle-valid limit request after still)

carried-valid : (limit : ℕ) (request : RequestView) (core : Core) → IsCoreValid core → ValidOutcome (carried limit request core)
carried-valid limit request core valid =
    led-valid 8 (handled_idle limit resend_request) (past_erase limit request core) (past-valid limit request core valid) (λ after still. idle-valid limit resend_request after still)

-- one try
try-few : (bus : BusKind) (request : RequestView) (core : Core) → IsShort bus request → IsCoreValid core → try_room bus request core ≤ 58578
try-few bus request core short valid =
    let limit = packet_limit bus in
    let asked = ask-few bus request core short valid in
    let again = led-few 16 28742 (idle_room bus request) (handled core limit (packet_of request)) (handled-valid core limit (packet_of request) valid) (λ after still. idle-few bus request after short still) in
    let resent = led-few 8 28742 (idle_room bus resend_request) (past_erase limit request core) (past-valid limit request core valid) (λ after still. idle-few bus resend_request after (resend-fits bus).short still) in
    omega (arith, asked, again, resent)

-- a command, whatever erase is pending
pub any-few : (bus : BusKind) (request : RequestView) (core : Core) → IsShort bus request → IsCoreValid core → command_room bus request core ≤ 175734
any-few bus request core short valid =
    let more = led-few 3 117156 (λ after. 2 * try_room bus request after) (carried (packet_limit bus) request core) (carried-valid (packet_limit bus) request core valid) (λ after still. omega (arith, try-few bus request after short still)) in
    omega (arith, try-few bus request core short valid, more)

-- one that ends in success
pub success-few : (bus : BusKind) (request : RequestView) (core after : Core) (body : List ℕ) → IsShort bus request → IsCoreValid core → carried (packet_limit bus) request core ≡ Answered after 0 body → command_room bus request core ≤ 58578
success-few bus request core after body short valid same =
    omega (arith, try-few bus request core short valid, ap (led_room 3 (λ left. 2 * try_room bus request left)) same)

-- what a request that begins no erase is answered: its erase stays as it is, and a success says that none is pending
abbrev pub KeepsErase : Core → Outcome → Type 0
KeepsErase core (Answered after status body) = (after.live.erase ≡ core.live.erase) × (status ≡ 0 → core.live.erase ≡ None)
KeepsErase core Restarts = ⊥

-- what is kept of an outcome that is known
keeps-of : (core after : Core) (status : ℕ) (body : List ℕ) (outcome : Outcome) → outcome ≡ Answered after status body → KeepsErase core outcome → (after.live.erase ≡ core.live.erase) × (status ≡ 0 → core.live.erase ≡ None)
keeps-of core after status body outcome same keeps = subst (KeepsErase core) same keeps

-- it is not told that an erase goes on
not-going : (core after : Core) (status : ℕ) (body : List ℕ) (going : Bool) → Expected core after status body → after.live.erase ≡ core.live.erase → (status == 8) ≡ going → going ≡ false
not-going core after status body false expects kept same = refl
not-going core after status body true expects kept same =
    let begun = expects.begun (eqb-true status 8 same) in
    let pending : is_some after.live.erase ≡ true = ap (λ (c : Core). is_some c.live.erase) begun.2 in
    let none : is_some after.live.erase ≡ false = ap is_some (kept ∙ begun.1) in
    absurd (cc)

-- nor that one is pending where none is
not-busy : (core after : Core) (status : ℕ) (body : List ℕ) (busy : Bool) → Expected core after status body → core.live.erase ≡ None → (status == 16) ≡ busy → busy ≡ false
not-busy core after status body false expects none same = refl
not-busy core after status body true expects none same =
    let pending = (expects.busy (eqb-true status 16 same)).1 in
    let nothing = ap is_some none in
    absurd (cc)

-- the parts of an outcome
abbrev core_of_outcome : Core → Outcome → Core
core_of_outcome core (Answered after status body) = after
core_of_outcome core Restarts = core

abbrev status_of_outcome : Outcome → ℕ
status_of_outcome (Answered after status body) = status
status_of_outcome Restarts = 0

-- a request that is answered neither that an erase is pending nor that it goes on
record IsPlainly (bus : BusKind) (request : RequestView) (core after : Core) (status : ℕ) (body : List ℕ) : Type 0 where
  pub carried_is : carried (packet_limit bus) request core ≡ Answered after status body
  pub room_is : try_room bus request core ≡ ask_room bus request (handled core (packet_limit bus) (packet_of request))

plainly : (bus : BusKind) (request : RequestView) (core after : Core) (status : ℕ) (body : List ℕ) → handled core (packet_limit bus) (packet_of request) ≡ Answered after status body → (status == 16) ≡ false → (status == 8) ≡ false → IsPlainly bus request core after status body
plainly bus request core after status body is not_busy not_going =
    let limit = packet_limit bus in
    let past = ap (led_on 16 (handled_idle limit request)) is ∙ led-off 16 status (handled_idle limit request) after body not_busy in
    let first = ap (led_room 16 (idle_room bus request)) is ∙ room-off 16 status (idle_room bus request) after body not_busy in
    let second = ap (led_room 8 (idle_room bus resend_request)) past ∙ room-off 8 status (idle_room bus resend_request) after body not_going in
    record {
      carried_is = ap (led_on 8 (handled_idle limit resend_request)) past ∙ led-off 8 status (handled_idle limit resend_request) after body not_going;
      room_is = omega (arith, first, second);
    }

-- a command that begins no erase, where none is pending
pub record IsIdle (bus : BusKind) (request : RequestView) (core : Core) : Type 0 where
  pub few : command_room bus request core ≤ 3282
  pub success : (after : Core) (body : List ℕ) → carried (packet_limit bus) request core ≡ Answered after 0 body → command_room bus request core ≤ 1094
  pub stays : (after : Core) (status : ℕ) (body : List ℕ) → carried (packet_limit bus) request core ≡ Answered after status body → after.live.erase ≡ None

-- what a refusal for its parameters adds
three-few : (three : Bool) (bus : BusKind) (request : RequestView) (core after : Core) (status : ℕ) (body : List ℕ) → Expected core after status body → try_room bus request core ≤ 1094 → (status == 3) ≡ three → led_room 3 (λ left. 2 * try_room bus request left) (Answered after status body) ≤ 2188
three-few false bus request core after status body expects few same = omega (arith, room-off 3 status (λ left. 2 * try_room bus request left) after body same)
three-few true bus request core after status body expects few same =
    let kept = (expects.invalid (eqb-true status 3 same)).0 in
    omega (arith, few, room-on 3 status (λ left. 2 * try_room bus request left) after body same, ap (try_room bus request) kept)

pub idle-command : (bus : BusKind) (request : RequestView) (want : ℕ) (core : Core) → IsProper bus request want → IsSound bus core → core.live.erase ≡ None → KeepsErase core (handled core (packet_limit bus) (packet_of request)) → IsIdle bus request core
idle-command bus request want core proper sound none keeps =
    let limit = packet_limit bus in
    let valid = sound-valid bus core sound in
    let answered = request-answered bus request want core proper sound in
    let kept = keeps-of core answered.after answered.status answered.body (handled core limit (packet_of request)) (answered.told).is keeps in
    let busy = not-busy core answered.after answered.status answered.body (answered.status == 16) answered.expects none refl in
    let going = not-going core answered.after answered.status answered.body (answered.status == 8) answered.expects kept.0 refl in
    let plain = plainly bus request core answered.after answered.status answered.body (answered.told).is busy going in
    let few : try_room bus request core ≤ 1094 = omega (arith, plain.room_is, ask-few bus request core (proper.fits).short valid) in
    let more = three-few (answered.status == 3) bus request core answered.after answered.status answered.body answered.expects few refl in
    record {
      few = omega (arith, few, more, ap (led_room 3 (λ left. 2 * try_room bus request left)) plain.carried_is);
      success = λ after body same. omega (arith, few, ap (led_room 3 (λ left. 2 * try_room bus request left)) same);
      stays = λ after status body same.
          let is : answered.after ≡ after = ap (core_of_outcome core) (sym plain.carried_is ∙ same) in
          subst (λ (c : Core). c.live.erase ≡ None) is (kept.0 ∙ none);
    }

-- the outcome of a request that begins no erase has a core
record IsTold (core : Core) (outcome : Outcome) : Type 0 where
  pub after : Core
  pub status : ℕ
  pub body : List ℕ
  pub is : outcome ≡ Answered after status body
  pub kept : (after.live.erase ≡ core.live.erase) × (status ≡ 0 → core.live.erase ≡ None)

told-of : (core : Core) (outcome : Outcome) → KeepsErase core outcome → IsTold core outcome
told-of core (Answered after status body) keeps = record { after = after; status = status; body = body; is = refl; kept = keeps }
told-of core Restarts keeps = absurd keeps

-- behind a poll
past-idle : (bus : BusKind) (request : RequestView) (want : ℕ) (core : Core) (left : Core) (status : ℕ) (body : List ℕ) → IsProper bus request want → (idled core).live.erase ≡ None → KeepsErase (idled core) (handled (idled core) (packet_limit bus) (packet_of request)) →
    led_on 8 (handled_idle (packet_limit bus) resend_request) (handled_idle (packet_limit bus) request core) ≡ Answered left status body → left.live.erase ≡ None
past-idle bus request want core left status body proper none keeps same =
    let limit = packet_limit bus in
    let told = told-of (idled core) (handled (idled core) limit (packet_of request)) keeps in
    let expects = expected request (idled core) told.after limit told.status told.body proper.number proper.body proper.steady told.is in
    let going = not-going (idled core) told.after told.status told.body (told.status == 8) expects (told.kept).0 refl in
    let is = ap (led_on 8 (handled_idle limit resend_request)) told.is ∙ led-off 8 told.status (handled_idle limit resend_request) told.after told.body going in
    let still : told.after ≡ left = ap (core_of_outcome core) (sym is ∙ same) in
    subst (λ (c : Core). c.live.erase ≡ None) still ((told.kept).0 ∙ none)

-- behind a success of such a command no erase is pending, whatever was before
success-by : (busy : Bool) (bus : BusKind) (request : RequestView) (want : ℕ) (core left : Core) (body : List ℕ) → IsProper bus request want → IsSound bus core → ((c : Core) → IsCoreValid c → KeepsErase c (handled c (packet_limit bus) (packet_of request))) →
    (answered : IsAnswered bus request want core) → (answered.status == 16) ≡ busy → carried (packet_limit bus) request core ≡ Answered left 0 body → left.live.erase ≡ None
success-by true bus request want core left body proper sound keeps answered same carries =
    let limit = packet_limit bus in
    let kept = ((answered.expects).busy (eqb-true answered.status 16 same)).0 in
    let past = ap (led_on 16 (handled_idle limit request)) (answered.told).is ∙ led-on 16 answered.status (handled_idle limit request) answered.after answered.body same ∙ ap (handled_idle limit request) kept in
    past-idle bus request want core left 0 body proper (idled-free bus core sound) (keeps (idled core) (idled-valid core (sound-valid bus core sound))) (sym (ap (led_on 8 (handled_idle limit resend_request)) past) ∙ carries)
success-by false bus request want core left body proper sound keeps answered other carries =
    let limit = packet_limit bus in
    let kept = keeps-of core answered.after answered.status answered.body (handled core limit (packet_of request)) (answered.told).is (keeps core (sound-valid bus core sound)) in
    let going = not-going core answered.after answered.status answered.body (answered.status == 8) answered.expects kept.0 refl in
    let plain = plainly bus request core answered.after answered.status answered.body (answered.told).is other going in
    let is = sym plain.carried_is ∙ carries in
    let success : answered.status ≡ 0 = ap status_of_outcome is in
    subst (λ (c : Core). c.live.erase ≡ None) (ap (core_of_outcome core) is) (kept.0 ∙ kept.1 success)

pub success-idle : (bus : BusKind) (request : RequestView) (want : ℕ) (core left : Core) (body : List ℕ) → IsProper bus request want → IsSound bus core → ((c : Core) → IsCoreValid c → KeepsErase c (handled c (packet_limit bus) (packet_of request))) →
    carried (packet_limit bus) request core ≡ Answered left 0 body → left.live.erase ≡ None
success-idle bus request want core left body proper sound keeps carries =
    let answered = request-answered bus request want core proper sound in
    success-by (answered.status == 16) bus request want core left body proper sound keeps answered refl carries
