-- The looks of a restart that nothing disturbs: they wait for the pending erase, and end with none pending.
use Rattle.std.proofs.Common.{◌≡◌, refl, sym, ap, ◌∙◌, subst, ℕ, zero, suc, ◌+◌, ◌*◌, ◌≤◌, Bool, true, false, if◌then◌else◌, List, [], ◌++◌, length, Option, Some, None, is_some, arith}
use Rattle.ec_types.specs.LittleEndian.{bit_if}
use Rattle.ec_types.specs.Tables.{packet_limit}
use Rattle.ec_types.specs.declared.bus.BusKind.{BusKind}
use Rattle.ec_model.specs.declared.event.Entry.{Entry}
use Rattle.ec_model.specs.declared.live.EraseJob.{EraseJob}
use Rattle.ec_model.specs.Answer.{Outcome, Answered, Restarts as AnswerRestarts}
use Rattle.ec_model.specs.Asks.{Setting, Got, Status, packet_of}
use Rattle.ec_model.specs.Bodies.{comms_say}
use Rattle.ec_model.specs.Handle.{handled}
use Rattle.ec_model.specs.HostCalls.{HostCall, HostView, calls_of, view_after}
use Rattle.ec_model.specs.Polls.{PollEnd, Idle, Turn, turn_of, TurnLeads, comms_request}
use Rattle.ec_model.specs.Run.{IsRun}
use Rattle.ec_model.specs.Table.{Table, Core}
use Rattle.ec_model.specs.Tries.{Said, resend_request}
use Rattle.ec_model.proofs.RunLaws.{run-split}
use Rattle.exchange_laws.specs.Resting.{is_waiting}
use Rattle.host_framing.specs.Room.{send_room, waiting_room}
use Rattle.command_laws.specs.Carried.{led_on, handled_idle, past_erase, carried}
use Rattle.command_laws.specs.Commands.{IsCarried, IsProper}
use Rattle.command_laws.specs.Idle.{ticked, after_ticks, poll_waits}
use Rattle.command_laws.specs.Restarting.{got_of, WaitsBehind, Looks, LooksUpTo, blocks_left}
use Rattle.command_laws.specs.Room.{turn_room, ask_room, led_room, idle_room, try_room, command_room}
use Rattle.command_laws.specs.Standing.{HasRoom, IsAt, IsOpen, IsQuiet}
use Rattle.command_laws.proofs.Answering.{open-sound, waits-few}
use Rattle.command_laws.proofs.Commanding.{command-calm}
use Rattle.command_laws.proofs.HostRequests.{comms-handled}
use Rattle.command_laws.proofs.Parts.{quiet-both, calls-both}
use Rattle.command_laws.proofs.PastErase.{room-of, run-none}
use Rattle.command_laws.proofs.Polling.{comms-fits, shown_turn, turn-shown, no-waiting, room-behind, LeavesWaits, tick-waits}
use Rattle.command_laws.proofs.Waiting.{at-open, at-rest, waits-calm}

-- what GET_COMMS_STATUS says
abbrev said_comms : Core → List ℕ
said_comms core = comms_say (bit_if 0x01 (is_some core.live.erase))

-- the parts of an outcome
abbrev status_in : Outcome → ℕ
status_in (Answered after status body) = status
status_in AnswerRestarts = 1

-- its body
abbrev body_in : Outcome → List ℕ
body_in (Answered after status body) = body
body_in AnswerRestarts = []

-- the core behind it
abbrev core_in : Core → Outcome → Core
core_in core (Answered after status body) = after
core_in core AnswerRestarts = core

-- each success of it has 4 bytes
comms-sized : (core after : Core) (limit : ℕ) (body : List ℕ) → handled core limit (packet_of comms_request) ≡ Answered after 0 body → length body ≡ 4
comms-sized core after limit body same = sym (ap (λ (outcome : Outcome). length (body_in outcome)) (sym (comms-handled core limit) ∙ same))

-- it is a request of a command
comms-proper : (bus : BusKind) → IsProper bus comms_request 4
comms-proper bus =
    record { fits = comms-fits bus; number = omega arith; body = omega arith; steady = refl; wanted = λ core after state body valid kind same. comms-sized core after (packet_limit bus) body same }

-- as a command it comes to its row
past-comms : (core : Core) (limit : ℕ) → past_erase limit comms_request core ≡ Answered core 0 (said_comms core)
past-comms core limit = ap (led_on 16 (handled_idle limit comms_request)) (comms-handled core limit)

-- so does the whole command
carried-comms : (core : Core) (limit : ℕ) → carried limit comms_request core ≡ Answered core 0 (said_comms core)
carried-comms core limit = ap (led_on 8 (handled_idle limit resend_request)) (past-comms core limit)

-- and takes the room of one send
comms-room : (bus : BusKind) (core : Core) → command_room bus comms_request core ≡ send_room bus 8 12
comms-room bus core =
    let limit = packet_limit bus in
    let again = idle_room bus comms_request in
    let resends = idle_room bus resend_request in
    let thrice : Core → ℕ = λ after. 2 * try_room bus comms_request after in
    let one : ask_room bus comms_request (handled core limit (packet_of comms_request)) ≡ send_room bus 8 12 = ap (λ (outcome : Outcome). ask_room bus comms_request outcome) (comms-handled core limit) in
    let none : led_room 16 again (handled core limit (packet_of comms_request)) ≡ 0 = ap (led_room 16 again) (comms-handled core limit) in
    let neither : led_room 8 resends (past_erase limit comms_request core) ≡ 0 = ap (led_room 8 resends) (past-comms core limit) in
    let once : led_room 3 thrice (carried limit comms_request core) ≡ 0 = ap (led_room 3 thrice) (carried-comms core limit) in
    sums (ask_room bus comms_request (handled core limit (packet_of comms_request))) (led_room 16 again (handled core limit (packet_of comms_request))) (led_room 8 resends (past_erase limit comms_request core))
    (led_room 3 thrice (carried limit comms_request core)) (send_room bus 8 12) one none neither once where
      sums : (asks again resends thrice room : ℕ) → asks ≡ room → again ≡ 0 → resends ≡ 0 → thrice ≡ 0 → asks + again + resends + thrice ≡ room
      sums asks again resends thrice room a b c d = omega arith

-- a command that asks whether an erase is pending
record IsSeen (bus : BusKind) (core : Core) (room : ℕ) (entries : List Entry) (said : Said) (last : Table) : Type 0 where
  pub shows : turn_of (got_of said) ≡ shown_turn (is_some core.live.erase)
  pub at : IsAt bus core last
  pub takes : length (calls_of entries) ≡ room

-- it shows whether one is, and leaves the controller as it was
seen-calm : (setting : Setting) (view : HostView) (core : Core) (table : Table) (entries : List Entry) (said : Said) (last : Table) (room : ℕ) →
    IsCarried setting.bus comms_request core room entries said last → IsSeen setting.bus core room entries said last
seen-calm setting view core table entries said last room is =
    let same = sym is.is ∙ carried-comms core (packet_limit setting.bus) in
    let after : is.after ≡ core = ap (core_in core) same in
    let status : is.status ≡ 0 = ap status_in same in
    let body : is.body ≡ said_comms core = ap body_in same in
    let got : got_of said ≡ Status 0 (said_comms core) = ap (λ (s : Said). got_of s) is.said_is ∙ ap (λ (n : ℕ). Status n is.body) status ∙ ap (Status 0) body in
    record {
      shows = ap (λ (g : Got). turn_of g) got ∙ turn-shown (is_some core.live.erase);
      at = subst (λ (c : Core). IsAt setting.bus c last) after is.at;
      takes = is.takes;
    }

-- the core behind a look: where an erase is pending, that of the wait behind it
abbrev looked_core : Bool → Core → Core
looked_core pending core = if pending then ticked core else core

-- how many waits a look takes
abbrev waits_of : Bool → ℕ
waits_of pending = if pending then 1 else 0

-- a look that nothing disturbs
record IsLooked (bus : BusKind) (core : Core) (pending : Bool) (room : ℕ) (entries : List Entry) (turn : Turn) (last : Table) : Type 0 where
  pub turn_is : turn ≡ shown_turn pending
  pub at : IsAt bus (looked_core pending core) last
  pub takes : length (calls_of entries) ≡ waits_of pending + room

-- the host waits behind a look that shows an erase
behind-look : (bus : BusKind) (core : Core) (pending : Bool) (room : ℕ) (entries asking waiting : List Entry) (turn : Turn) (middle last : Table) →
    entries ≡ asking ++ waiting → turn ≡ shown_turn pending → IsAt bus core middle → length (calls_of asking) ≡ room →
    IsQuiet waiting → IsRun middle waiting last → WaitsBehind (shown_turn pending) waiting → IsLooked bus core pending room entries turn last
behind-look bus core true room entries asking waiting turn middle last parts shown at takes quiet run waits =
    let one : length (calls_of waiting) ≡ 1 = ap (λ (calls : List HostCall). length calls) waits.waited in
    record {
      turn_is = shown;
      at = waits-calm bus core middle waiting last at waits.waited quiet run;
      takes = ap (λ (xs : List Entry). length (calls_of xs)) parts ∙ calls-both asking waiting ∙ omega (arith, takes, one);
    }
behind-look bus core false room entries asking waiting turn middle last parts shown at takes quiet run waits =
    let same = run-none waiting middle last waits run in
    let none : length (calls_of waiting) ≡ 0 = ap (λ (xs : List Entry). length (calls_of xs)) waits in
    record {
      turn_is = shown;
      at = subst (λ (t : Table). IsAt bus core t) (sym same) at;
      takes = ap (λ (xs : List Entry). length (calls_of xs)) parts ∙ calls-both asking waiting ∙ omega (arith, takes, none);
    }

-- the look itself
look-calm : (setting : Setting) (view : HostView) (core : Core) (table : Table) (entries : List Entry) (turn : Turn) (last : Table) (waiting : ℕ) →
    IsOpen setting.bus core table → waiting ≡ waiting_room setting.bus (is_waiting table.power) →
    HasRoom setting view (send_room setting.bus 8 12 + waiting) → IsQuiet entries → IsRun table entries last → Looks setting view entries turn →
    IsLooked setting.bus core (is_some core.live.erase) (send_room setting.bus 8 12 + waiting) entries turn last
look-calm setting view core table entries turn last waiting open_ waits has quiet run looks =
    let bus = setting.bus in
    let split = run-split table last looks.asking looks.waiting (subst (λ (xs : List Entry). IsRun table xs last) looks.parts run) in
    let quiets = quiet-both looks.asking looks.waiting (subst (λ (xs : List Entry). IsQuiet xs) looks.parts quiet) in
    let same = comms-room bus core in
    let room = room-of setting view (send_room bus 8 12 + waiting) (command_room bus comms_request core + waiting) (omega (arith, same)) has in
    let carried_is = command-calm setting comms_request 4 view core table looks.asking looks.said split.0 waiting
    open_ (comms-proper bus) waits room quiets.0 split.1 looks.asked in
    let seen = seen-calm setting view core table looks.asking looks.said split.0 (command_room bus comms_request core + waiting) carried_is in
    let shown = looks.turn_is ∙ seen.shows in
    behind-look bus core (is_some core.live.erase) (send_room bus 8 12 + waiting) entries looks.asking looks.waiting turn split.0 last looks.parts shown seen.at (omega (arith, seen.takes, same)) quiets.1 split.2
    (subst (λ (t : Turn). WaitsBehind t looks.waiting) shown looks.waits)

-- all looks that nothing disturbs
pub record AreLooks (bus : BusKind) (core : Core) (left room : ℕ) (entries : List Entry) (reached : PollEnd) (last : Table) : Type 0 where
  pub end_is : reached ≡ Idle
  pub at : IsAt bus (after_ticks left core) last
  pub free : (after_ticks left core).live.erase ≡ None
  pub takes : length (calls_of entries) ≡ room

-- the room of the looks at an erase of so many blocks
abbrev pub looks_room : BusKind → ℕ → ℕ
looks_room bus left = left * turn_room bus + send_room bus 8 12

-- the last look: no erase is pending
last-look : (looks : ℕ) (setting : Setting) (view : HostView) (core : Core) (entries first rest : List Entry) (turn : Turn) (reached : PollEnd) (middle last : Table) (room : ℕ) → entries ≡ first ++ rest → core.live.erase ≡ None →
    IsLooked setting.bus core (is_some core.live.erase) room first turn middle → IsRun middle rest last →
    TurnLeads turn (LooksUpTo looks setting (view_after first view) rest reached) rest reached → AreLooks setting.bus core 0 room entries reached last
last-look looks setting view core entries first rest turn reached middle last room parts none looked_at run leads =
    let pending : is_some core.live.erase ≡ false = ap (λ (erase : Option EraseJob). is_some erase) none in
    let looked = subst (λ (p : Bool). IsLooked setting.bus core p room first turn middle) pending looked_at in
    let over = subst (λ (t : Turn). TurnLeads t (LooksUpTo looks setting (view_after first view) rest reached) rest reached) looked.turn_is leads in
    let same = run-none rest middle last over.0 run in
    record {
      end_is = over.1;
      at = subst (λ (t : Table). IsAt setting.bus core t) (sym same) looked.at;
      free = none;
      takes = ap (λ (xs : List Entry). length (calls_of xs)) parts ∙ calls-both first rest ∙ omega (arith, looked.takes, ap (λ (xs : List Entry). length (calls_of xs)) over.0);
    }

-- where looks are left, they wait for the whole erase, and end with none pending
looks-on : (left looks : ℕ) (setting : Setting) (view : HostView) (core : Core) (table : Table) (entries : List Entry) (reached : PollEnd) (last : Table) (waiting : ℕ) → IsOpen setting.bus core table → waiting ≡ waiting_room setting.bus (is_waiting table.power) →
    LeavesWaits left core.live.erase → suc left ≤ looks → HasRoom setting view (looks_room setting.bus left + waiting) → IsQuiet entries →
    IsRun table entries last → LooksUpTo looks setting view entries reached →
    AreLooks setting.bus core left (looks_room setting.bus left + waiting) entries reached last
looks-on left zero setting view core table entries reached last waiting open_ waits blocks few has quiet run looks = absurd (omega (arith, few))
looks-on zero (suc looks) setting view core table entries reached last waiting open_ waits blocks few has quiet run (first, rest, turn, parts, looked, leads) =
    let split = run-split table last first rest (subst (λ (xs : List Entry). IsRun table xs last) parts run) in
    let quiets = quiet-both first rest (subst (λ (xs : List Entry). IsQuiet xs) parts quiet) in
    let same : send_room setting.bus 8 12 + waiting ≡ looks_room setting.bus 0 + waiting = omega arith in
    let look = look-calm setting view core table first turn split.0 waiting open_ waits (record { on = has.on; enough = omega (arith, has.enough) }) quiets.0 split.1 looked in
    last-look looks setting view core entries first rest turn reached split.0 last (looks_room setting.bus 0 + waiting) parts blocks
    (subst (λ (room : ℕ). IsLooked setting.bus core (is_some core.live.erase) room first turn split.0) same look) split.2 leads
looks-on (suc left) (suc looks) setting view core table entries reached last waiting open_ waits blocks few has quiet run (first, rest, turn, parts, looked, leads) =
    let bus = setting.bus in
    let split = run-split table last first rest (subst (λ (xs : List Entry). IsRun table xs last) parts run) in
    let quiets = quiet-both first rest (subst (λ (xs : List Entry). IsQuiet xs) parts quiet) in
    let seen = look-calm setting view core table first turn split.0 waiting open_ waits (record { on = has.on; enough = omega (arith, has.enough) }) quiets.0 split.1 looked in
    let pending : is_some core.live.erase ≡ true = ap (λ (erase : Option EraseJob). is_some erase) blocks.1 in
    let look = subst (λ (p : Bool). IsLooked bus core p (send_room bus 8 12 + waiting) first turn split.0) pending seen in
    let going = subst (λ (t : Turn). TurnLeads t (LooksUpTo looks setting (view_after first view) rest reached) rest reached) look.turn_is leads in
    let fewer = tick-waits (Some blocks.0) core left blocks.1 blocks.2 in
    let still = no-waiting bus (is_waiting (split.0).power) (at-rest bus (ticked core) split.0 look.at) in
    let behind = room-behind setting view first (turn_room bus + waiting) (looks_room bus left) quiets.0 (omega (arith, look.takes)) (record { on = has.on; enough = omega (arith, has.enough) }) in
    let rest_looks = looks-on left looks setting (view_after first view) (ticked core) split.0 rest reached last 0
    (at-open bus (ticked core) split.0 look.at) (sym still)
    fewer (omega (arith, few)) (record { on = behind.on; enough = omega (arith, behind.enough) }) quiets.1 split.2 going in
    record {
      end_is = rest_looks.end_is;
      at = rest_looks.at;
      free = rest_looks.free;
      takes = ap (λ (xs : List Entry). length (calls_of xs)) parts ∙ calls-both first rest ∙ omega (arith, look.takes, rest_looks.takes);
    }

-- the blocks of an erase, as one more than others
blocks-as : (left : ℕ) (job : EraseJob) → job.left ≡ left → 1 ≤ left → LeavesWaits left (Some job)
blocks-as zero job same some = absurd (omega (arith, some))
blocks-as (suc left) job same some = (job, refl, same)

-- the blocks that are left of an erase
blocks-in : (erase : Option EraseJob) → 1 ≤ poll_waits erase → LeavesWaits (blocks_left erase) erase
blocks-in None some = refl
blocks-in (Some job) some = blocks-as job.left job refl some

-- an erase has no more blocks than a poll waits for
blocks-few : (erase : Option EraseJob) → blocks_left erase ≤ poll_waits erase
blocks-few None = omega arith
blocks-few (Some job) = omega arith

-- the looks of a restart
pub looks-calm : (looks : ℕ) (setting : Setting) (view : HostView) (core : Core) (table : Table) (entries : List Entry) (reached : PollEnd) (last : Table) (waiting : ℕ) → 1025 ≤ looks → IsOpen setting.bus core table → waiting ≡ waiting_room setting.bus (is_waiting table.power) →
    HasRoom setting view (looks_room setting.bus (blocks_left core.live.erase) + waiting) → IsQuiet entries → IsRun table entries last →
    LooksUpTo looks setting view entries reached →
    AreLooks setting.bus core (blocks_left core.live.erase) (looks_room setting.bus (blocks_left core.live.erase) + waiting) entries reached last
looks-calm looks setting view core table entries reached last waiting many open_ waits has quiet run looked =
    let few = waits-few setting.bus core (open-sound setting.bus core table open_) in
    looks-on (blocks_left core.live.erase) looks setting view core table entries reached last waiting open_ waits
    (blocks-in core.live.erase few.some) (omega (arith, many, few.few, blocks-few core.live.erase)) has quiet run looked
