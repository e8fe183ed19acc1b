-- A poll that nothing disturbs: it ends with no erase pending.
use Rattle.std.proofs.Common.{◌≡◌, refl, sym, ap, ◌∙◌, subst, ℕ, zero, suc, ◌+◌, ◌-◌, ◌*◌, ◌≤◌, Bool, true, false, if◌then◌else◌, List, length, Option, Some, None, is_some, arith}
use Rattle.ec_types.specs.LittleEndian.{bit_if}
use Rattle.ec_types.specs.Tables.{packet_limit}
use Rattle.ec_types.specs.declared.bus.BusKind.{BusKind}
use Rattle.ec_types.specs.declared.bus.BusKind.TheVariants.{Lpc, I2c, Spi}
use Rattle.ec_model.specs.declared.event.Entry.{Entry}
use Rattle.ec_model.specs.declared.live.EraseJob.{EraseJob}
use Rattle.ec_model.specs.Asks.{Setting, Got, Status}
use Rattle.ec_model.specs.Bodies.{comms_say}
use Rattle.ec_model.specs.HostCalls.{HostCall, HostView, calls_of, view_after}
use Rattle.ec_model.specs.Polls.{PollEnd, Idle, Turn, Pending, Ends, turn_of, TakesTurn, TurnLeads, Polls, comms_request}
use Rattle.ec_model.specs.Run.{IsRun}
use Rattle.ec_model.specs.Table.{Table, Core}
use Rattle.ec_model.proofs.RunLaws.{run-split}
use Rattle.exchange_laws.specs.Resting.{is_waiting}
use Rattle.host_framing.specs.Room.{send_room, waiting_room}
use Rattle.command_laws.specs.Idle.{ticked_by, ticked, poll_waits}
use Rattle.command_laws.specs.Room.{turn_room}
use Rattle.command_laws.proofs.Parts.{quiet-both, quiet-on, calls-both}
use Rattle.command_laws.proofs.Waiting.{at-open, at-rest, waits-calm}
use Rattle.command_laws.proofs.HostRequests.{comms-handled, comms-plain}
use Rattle.command_laws.proofs.Ticks.{hash-idle, last-left, more-left, ticked-erase}
use Rattle.command_laws.proofs.Asking.{CanSend, IsHandled, asks-calm}
use Rattle.command_laws.specs.Commands.{Fits, IsPolled}
use Rattle.command_laws.specs.Standing.{HasRoom, IsAt, IsQuiet}

-- GET_COMMS_STATUS fits each bus
pub comms-fits : (bus : BusKind) → Fits bus comms_request
comms-fits Lpc = record { plain = comms-plain; short = omega arith }
comms-fits I2c = record { plain = comms-plain; short = omega arith }
comms-fits Spi = record { plain = comms-plain; short = omega arith }

-- what a turn shows, by whether an erase is pending
abbrev pub shown_turn : Bool → Turn
shown_turn pending = if pending then Pending else Ends Idle

pub turn-shown : (pending : Bool) → turn_of (Status 0 (comms_say (bit_if 0x01 pending))) ≡ shown_turn pending
turn-shown true = refl
turn-shown false = refl

-- a bus on which nothing waits takes nothing for that
pub no-waiting : (bus : BusKind) (waits : Bool) → waits ≡ false → waiting_room bus waits ≡ 0
no-waiting Lpc waits none = ap (waiting_room Lpc) none
no-waiting I2c waits none = ap (waiting_room I2c) none
no-waiting Spi waits none = ap (waiting_room Spi) none

-- a turn that nothing disturbs
pub record IsTurned (bus : BusKind) (core : Core) (entries : List Entry) (turn : Turn) (last : Table) : Type 0 where
  pub turn_is : turn ≡ shown_turn (is_some (ticked core).live.erase)
  pub at : IsAt bus (ticked core) last
  pub takes : length (calls_of entries) ≡ turn_room bus

-- behind quiet entries there is as much less
pub room-behind : (setting : Setting) (view : HostView) (first : List Entry) (taken more : ℕ) → IsQuiet first → length (calls_of first) ≡ taken → HasRoom setting view (taken + more) → HasRoom setting (view_after first view) more
room-behind setting view first taken more quiet takes has =
    record { on = quiet-on first view.on quiet ∙ has.on; enough = omega (arith, has.enough, takes) }

pub can-send : (setting : Setting) (view : HostView) (more : ℕ) → HasRoom setting view more → CanSend setting view
can-send setting view more has = record { on = has.on; room = omega (arith, has.enough) }

pub turns-calm : (setting : Setting) (view : HostView) (core : Core) (table : Table) (entries : List Entry) (turn : Turn) (last : Table) →
    IsAt setting.bus core table → HasRoom setting view (turn_room setting.bus) → IsQuiet entries → IsRun table entries last → TakesTurn setting view entries turn → IsTurned setting.bus core entries turn last
turns-calm setting view core table entries turn last at has quiet run takes =
    let bus = setting.bus in
    let split = run-split table last takes.waiting takes.asking (subst (λ (xs : List Entry). IsRun table xs last) takes.parts run) in
    let quiets = quiet-both takes.waiting takes.asking (subst (λ (xs : List Entry). IsQuiet xs) takes.parts quiet) in
    let waited = waits-calm bus core table takes.waiting split.0 at takes.waited quiets.0 split.1 in
    let pending = is_some (ticked core).live.erase in
    let handled_is : IsHandled bus comms_request 4 (ticked core) (ticked core) 0 (comms_say (bit_if 0x01 pending)) = record { is = comms-handled (ticked core) (packet_limit bus); small = omega arith; wanted = λ success. refl } in
    let one : length (calls_of takes.waiting) ≡ 1 = ap (λ (calls : List HostCall). length calls) takes.waited in
    let behind = room-behind setting view takes.waiting 1 (send_room bus 8 12) quiets.0 one has in
    let told = asks-calm setting comms_request 4 (view_after takes.waiting view) (ticked core) (ticked core) 0 (comms_say (bit_if 0x01 pending)) split.0 takes.asking takes.end last
    (at-open bus (ticked core) split.0 waited) (comms-fits bus) (can-send setting (view_after takes.waiting view) (send_room bus 8 12) behind) quiets.1 split.2 handled_is takes.asked in
    record {
      turn_is = takes.turn_is ∙ ap (λ (end : Got). turn_of end) told.end_is ∙ turn-shown pending;
      at = told.at;
      takes = ap (λ (xs : List Entry). length (calls_of xs)) takes.parts ∙ calls-both takes.waiting takes.asking ∙
          omega (arith, one, told.takes, no-waiting bus (is_waiting (split.0).power) (at-rest bus (ticked core) split.0 waited));
    }

-- so many waits are left behind a tick; none, and no erase is pending
abbrev pub LeavesWaits : ℕ → Option EraseJob → Type 0
LeavesWaits zero erase = erase ≡ None
LeavesWaits (suc more) erase = (job : EraseJob) × (erase ≡ Some job) × (job.left ≡ suc more)

-- what a tick leaves of the waits of a poll
pub tick-waits : (erase : Option EraseJob) (core : Core) (more : ℕ) → core.live.erase ≡ erase → poll_waits erase ≡ suc more → LeavesWaits more (ticked core).live.erase
tick-waits None core zero same waits =
    subst (λ (erase : Option EraseJob). (ticked_by erase core).live.erase ≡ None) (sym same) ((hash-idle core.live.hash core same).0)
tick-waits None core (suc more) same waits = absurd (omega (arith, waits))
tick-waits (Some job) core zero same waits = ticked-erase core job same ∙ last-left job waits
tick-waits (Some job) core (suc more) same waits =
    (record { next = job.next + 1; left = job.left - 1 }, ticked-erase core job same ∙ more-left job (omega (arith, waits)), omega (arith, waits))

-- where turns are left, a poll that nothing disturbs waits for the whole erase, and ends with none pending
pub polls-on : (more turns : ℕ) (setting : Setting) (view : HostView) (core : Core) (table : Table) (entries : List Entry) (end : PollEnd) (last : Table) →
    IsAt setting.bus core table → poll_waits core.live.erase ≡ suc more → suc more ≤ turns → HasRoom setting view (suc more * turn_room setting.bus) → IsQuiet entries → IsRun table entries last → Polls turns setting view entries end →
    IsPolled setting.bus core (suc more) entries end last
polls-on more zero setting view core table entries end last at waits few has quiet run polls = absurd (omega (arith, few))
polls-on zero (suc turns) setting view core table entries end last at waits few has quiet run (first, rest, turn, parts, takes, leads) =
    let split = run-split table last first rest (subst (λ (xs : List Entry). IsRun table xs last) parts run) in
    let quiets = quiet-both first rest (subst (λ (xs : List Entry). IsQuiet xs) parts quiet) in
    let turned = turns-calm setting view core table first turn split.0 at (record { on = has.on; enough = omega (arith, has.enough) }) quiets.0 split.1 takes in
    let none = tick-waits core.live.erase core zero refl waits in
    let ends : turn ≡ Ends Idle = turned.turn_is ∙ ap (λ (erase : Option EraseJob). shown_turn (is_some erase)) none in
    let over = subst (λ (t : Turn). TurnLeads t (Polls turns setting (view_after first view) rest end) rest end) ends leads in
    let same : last ≡ split.0 = subst (λ (xs : List Entry). IsRun split.0 xs last) over.0 split.2 in
    record {
      end_is = over.1;
      at = subst (λ (t : Table). IsAt setting.bus (ticked core) t) (sym same) turned.at;
      takes = ap (λ (xs : List Entry). length (calls_of xs)) parts ∙ calls-both first rest ∙ omega (arith, turned.takes, ap (λ (xs : List Entry). length (calls_of xs)) over.0);
    }
polls-on (suc more) (suc turns) setting view core table entries end last at waits few has quiet run (first, rest, turn, parts, takes, leads) =
    let bus = setting.bus in
    let split = run-split table last first rest (subst (λ (xs : List Entry). IsRun table xs last) parts run) in
    let quiets = quiet-both first rest (subst (λ (xs : List Entry). IsQuiet xs) parts quiet) in
    let turned = turns-calm setting view core table first turn split.0 at (record { on = has.on; enough = omega (arith, has.enough) }) quiets.0 split.1 takes in
    let later = tick-waits core.live.erase core (suc more) refl waits in
    let goes : turn ≡ Pending = turned.turn_is ∙ ap (λ (erase : Option EraseJob). shown_turn (is_some erase)) later.1 in
    let going = subst (λ (t : Turn). TurnLeads t (Polls turns setting (view_after first view) rest end) rest end) goes leads in
    let left : poll_waits (ticked core).live.erase ≡ suc more = ap (λ (erase : Option EraseJob). poll_waits erase) later.1 ∙ later.2 in
    let behind = room-behind setting view first (turn_room bus) (suc more * turn_room bus) quiets.0 turned.takes (record { on = has.on; enough = omega (arith, has.enough) }) in
    let polled = polls-on more turns setting (view_after first view) (ticked core) split.0 rest end last turned.at left (omega (arith, few)) behind quiets.1 split.2 going in
    record {
      end_is = polled.end_is;
      at = polled.at;
      takes = ap (λ (xs : List Entry). length (calls_of xs)) parts ∙ calls-both first rest ∙ omega (arith, turned.takes, polled.takes);
    }
