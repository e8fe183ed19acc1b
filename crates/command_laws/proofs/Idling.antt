-- A request that is asked behind a poll, where nothing disturbs either.
use Rattle.std.proofs.Common.{◌≡◌, refl, sym, ap, ◌∙◌, subst, ℕ, suc, ◌-◌, ◌*◌, ◌≤◌, List, length, Option, Some, None, arith}
use Rattle.ec_types.specs.Tables.{packet_limit}
use Rattle.ec_model.specs.declared.event.Entry.{Entry}
use Rattle.ec_types.specs.declared.bus.BusKind.{BusKind}
use Rattle.ec_model.specs.declared.live.EraseJob.{EraseJob}
use Rattle.ec_model.specs.Answer.{Outcome}
use Rattle.ec_model.specs.Asks.{Setting, Got, Status, packet_of, Asks}
use Rattle.ec_model.specs.Handle.{handled}
use Rattle.ec_model.specs.HostCalls.{HostView, calls_of, view_after}
use Rattle.ec_model.specs.Packet.{RequestView}
use Rattle.ec_model.specs.Polls.{PollEnd, Polls, PollLeads, AsksWhenIdle}
use Rattle.ec_model.specs.Run.{IsRun}
use Rattle.ec_model.specs.Table.{Table, Core}
use Rattle.ec_model.proofs.RunLaws.{run-split}
use Rattle.exchange_laws.specs.Resting.{is_waiting}
use Rattle.command_laws.specs.Idle.{poll_waits, idled}
use Rattle.command_laws.specs.Room.{turn_room, poll_room, ask_room, idle_room}
use Rattle.command_laws.proofs.Parts.{quiet-both, calls-both}
use Rattle.command_laws.proofs.Waiting.{at-open, at-rest}
use Rattle.command_laws.proofs.Asking.{IsHandled, asks-calm}
use Rattle.command_laws.proofs.Polling.{can-send, no-waiting, polls-on, room-behind}
use Rattle.command_laws.proofs.Ticks.{idled-erase, idled-none}
use Rattle.command_laws.proofs.Answering.{IsSound, at-sound, waits-few}
use Rattle.command_laws.specs.Commands.{Fits, IsPolled}
use Rattle.command_laws.specs.Standing.{HasRoom, IsAt, IsQuiet}

-- some turns lead to this answer, and to the core behind, and took so many calls
pub record IsSaid (bus : BusKind) (after : Core) (status : ℕ) (body : List ℕ) (room : ℕ) (entries : List Entry) (end : Got) (last : Table) : Type 0 where
  pub end_is : end ≡ Status status body
  pub at : IsAt bus after last
  pub takes : length (calls_of entries) ≡ room

-- so many waits, as one more than others
waits-as : (waits : ℕ) → 1 ≤ waits → waits ≡ suc (waits - 1)
waits-as waits some = omega arith

-- a whole poll
pub poll-calm : (turns : ℕ) (setting : Setting) (view : HostView) (core : Core) (table : Table) (entries : List Entry) (end : PollEnd) (last : Table) → 1024 ≤ turns →
    IsAt setting.bus core table → HasRoom setting view (poll_room setting.bus core.live.erase) → IsQuiet entries → IsRun table entries last → Polls turns setting view entries end →
    IsPolled setting.bus core (poll_waits core.live.erase) entries end last
poll-calm turns setting view core table entries end last many at has quiet run polls =
    let waits = poll_waits core.live.erase in
    let few = waits-few setting.bus core (at-sound setting.bus core table at) in
    let same = waits-as waits few.some in
    let room = subst (λ (n : ℕ). HasRoom setting view (n * turn_room setting.bus)) same has in
    let polled = polls-on (waits - 1) turns setting view core table entries end last at same (omega (arith, few.some, few.few, many)) room quiet run polls in
    subst (λ (n : ℕ). IsPolled setting.bus core n entries end last) (sym same) polled

-- a request behind a poll
pub idle-asks-calm : (setting : Setting) (request : RequestView) (want : ℕ) (view : HostView) (core after : Core) (status : ℕ) (body : List ℕ) (table : Table) (entries : List Entry) (end : Got) (last : Table) →
    IsAt setting.bus core table → Fits setting.bus request → HasRoom setting view (idle_room setting.bus request core) → IsQuiet entries → IsRun table entries last → IsHandled setting.bus request want (idled core) after status body → AsksWhenIdle setting request want view entries end →
    IsSaid setting.bus after status body (idle_room setting.bus request core) entries end last
idle-asks-calm setting request want view core after status body table entries end last at fits has quiet run is asks =
    let bus = setting.bus in
    let split = run-split table last asks.polling asks.rest (subst (λ (xs : List Entry). IsRun table xs last) asks.parts run) in
    let quiets = quiet-both asks.polling asks.rest (subst (λ (xs : List Entry). IsQuiet xs) asks.parts quiet) in
    let polled = poll-calm 1100 setting view core table asks.polling asks.reached split.0 (omega arith) at (record { on = has.on; enough = omega (arith, has.enough) }) quiets.0 split.1 asks.polled in
    let leads = subst (λ (reached : PollEnd). PollLeads reached (Asks setting request want (view_after asks.polling view) asks.rest end) asks.rest end) polled.end_is asks.leads in
    let behind = room-behind setting view asks.polling (poll_room bus core.live.erase) (ask_room bus request (handled (idled core) (packet_limit bus) (packet_of request))) quiets.0 polled.takes has in
    let told = asks-calm setting request want (view_after asks.polling view) (idled core) after status body split.0 asks.rest end last (at-open bus (idled core) split.0 polled.at) fits (can-send setting (view_after asks.polling view) _ behind) quiets.1 split.2 is leads in
    let sized = ap (λ (outcome : Outcome). ask_room bus request outcome) is.is in
    record {
      end_is = told.end_is;
      at = told.at;
      takes = ap (λ (xs : List Entry). length (calls_of xs)) asks.parts ∙ calls-both asks.polling asks.rest ∙
          omega (arith, polled.takes, told.takes, no-waiting bus (is_waiting (split.0).power) (at-rest bus (idled core) split.0 polled.at), sized);
    }

-- the core behind such a poll is one that a valid table has
pub idle-sound : (setting : Setting) (request : RequestView) (want : ℕ) (view : HostView) (core : Core) (table : Table) (entries : List Entry) (end : Got) (last : Table) →
    IsAt setting.bus core table → HasRoom setting view (poll_room setting.bus core.live.erase) → IsQuiet entries → IsRun table entries last → AsksWhenIdle setting request want view entries end → IsSound setting.bus (idled core)
idle-sound setting request want view core table entries end last at has quiet run asks =
    let split = run-split table last asks.polling asks.rest (subst (λ (xs : List Entry). IsRun table xs last) asks.parts run) in
    let quiets = quiet-both asks.polling asks.rest (subst (λ (xs : List Entry). IsQuiet xs) asks.parts quiet) in
    let polled = poll-calm 1100 setting view core table asks.polling asks.reached split.0 (omega arith) at has quiets.0 split.1 asks.polled in
    at-sound setting.bus (idled core) split.0 polled.at

-- no erase is pending behind a poll
idled-by : (core : Core) (erase : Option EraseJob) → core.live.erase ≡ erase → 1 ≤ poll_waits erase → (idled core).live.erase ≡ None
idled-by core None same some = (idled-none core same).0
idled-by core (Some job) same some = (idled-erase core job same some).0

pub idled-free : (bus : BusKind) (core : Core) → IsSound bus core → (idled core).live.erase ≡ None
idled-free bus core sound = idled-by core core.live.erase refl (waits-few bus core sound).some
