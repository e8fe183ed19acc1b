-- A command of a line where nothing disturbs it: what it comes to is said, and left behind.
use Rattle.std.proofs.Common.{◌≡◌, refl, sym, ap, ◌∙◌, subst, ℕ, zero, suc, ◌+◌, ◌≤◌, ◌<◌, ◌==◌, Bool, true, false, not, ◌&&◌, if◌then◌else◌, List, [], ◌∷◌, ◌++◌, length, arith}
use Rattle.ec_types.specs.LittleEndian.{u16_at}
use Rattle.ec_types.specs.Tables.{packet_limit}
use Rattle.ec_types.specs.declared.bus.BusKind.{BusKind}
use Rattle.ec_model.specs.declared.event.Entry.{Entry}
use Rattle.ec_model.specs.Asks.{got}
use Rattle.ec_model.specs.Packet.{request_packet, response_packet}
use Rattle.ec_model.specs.HostCalls.{HostView}
use Rattle.ec_model.specs.Heard.{Reply}
use Rattle.ec_model.specs.Table.{Table, Awake, Power, Off, On, Core, Valid, is_on, core_of, table_of}
use Rattle.ec_model.specs.Answer.{Outcome, Answered as Outcomes, Restarts as OutcomeRestarts}
use Rattle.ec_model.specs.Handle.{handled}
use Rattle.ec_model.specs.Syncable.{settled}
use Rattle.ec_model.specs.Run.{IsRun}
use Rattle.ec_model.specs.Tries.{Said, SaidShort, Tries}
use Rattle.ec_model.specs.Upset.{IsUndisturbed}
use Rattle.ec_model.proofs.ValidRows.{IsCoreValid}
use Rattle.ec_wire.proofs.Calm.{determined}
use Rattle.exchange_laws.specs.Resting.{is_waiting}
use Rattle.exchange_laws.specs.Served.{IsPlain, IsAnswer}
use Rattle.exchange_laws.proofs.CalmRun.{calm_lead}
use Rattle.exchange_laws.proofs.AnyBus.{exchange-of}
use Rattle.exchange_laws.proofs.Plain.{plain-answered}
use Rattle.exchange_laws.proofs.Response.{eq-true}
use Rattle.exchange_laws.proofs.Settled.{bus-facts}
use Rattle.host_framing.specs.Room.{waiting_room}
use Rattle.command_laws.specs.Carried.{tells_any}
use Rattle.command_laws.specs.Commands.{IsProper as IsCommand}
use Rattle.command_laws.specs.Restarting.{Restarts, restarted, restart_room}
use Rattle.command_laws.specs.Room.{ask_room, command_room}
use Rattle.command_laws.specs.Standing.{IsQuiet}
use Rattle.command_laws.proofs.Answering.{open-sound, sound-valid}
use Rattle.command_laws.proofs.Asking.{sent-told}
use Rattle.command_laws.proofs.Commanding.{command-calm}
use Rattle.command_laws.proofs.Opening.{HasAwake, awake-in, settled-on, opens}
use Rattle.command_laws.proofs.MoreRoom.{seen, tries-more}
use Rattle.command_laws.proofs.Parts.{quiet-on}
use Rattle.command_laws.proofs.Restarting.{restart-calm}
use Rattle.command_laws.proofs.RestartParts.{restarts-more, tries-off, off-restarts}
use Rattle.command_laws.proofs.Waiting.{awake_of}
use Rattle.host_transport.specs.Once.{Said as Told, Bad, SentOnce, NotSent, AskedOnce, ended, heard_as}
use Rattle.ectool_lines.specs.declared.tool.Tool.{Tool}
use Rattle.ectool_lines.specs.Tools.{IsInRange}
use Rattle.ectool_lines.specs.Requests.{Asked, Way, Once, Restart, Try, way_of, is_cold, request_of, packet_of, first_of, count_of, command_of, commands_of}
use Rattle.ectool_lines.specs.Asking.{said_once, IsSentOnce, said_restart, IsRestart, GoesBy, Hears}
use Rattle.ectool_lines.specs.Answering.{outcome_by, room_by, IsAnswered, IsUnanswered, AnswersBy, Answers}
use Rattle.ectool_lines.proofs.SendLemmas.{eq-of, limit-least, limit-most, once-test, try-test, command-short, plain-at, once-plain, command-number}
use Rattle.ectool_lines.proofs.WantLemmas.{HasWanted, command-wanted}

-- a controller on this bus that is on or off
pub record Ready (bus : BusKind) (on : Bool) (table : Table) : Type 0 where
  pub valid : Valid table
  pub kind : table.kind ≡ bus
  pub on_is : is_on table.power ≡ on

-- a command that fits into a packet on this bus, and whose success has as many bytes as are wanted
pub record IsProper (bus : BusKind) (asked : Asked) : Type 0 where
  pub plain : is_cold asked ≡ false → IsPlain (packet_of asked)
  pub short : length (packet_of asked) ≤ packet_limit bus
  pub number : asked.command < 65536
  pub body : length asked.body < 65536
  pub wanted : (core : Core) → IsCoreValid core → HasWanted asked.want (handled core (packet_limit bus) (packet_of asked))

-- what is wanted of an outcome that is known
wanted-of : (want : ℕ) (outcome : Outcome) (after : Core) (status : ℕ) (body : List ℕ) → outcome ≡ Outcomes after status body → HasWanted want outcome → (status < 65536) × (status ≡ 0 → length body ≡ want)
wanted-of want outcome after status body same wanted = subst (HasWanted want) same wanted

-- such a command, where it is tried
pub tried-proper : (bus : BusKind) (asked : Asked) → tells_any asked.command ≡ false → IsPlain (packet_of asked) → IsProper bus asked → IsCommand bus (request_of asked) asked.want
tried-proper bus asked steady plain proper =
    record {
      fits = record { plain = plain; short = proper.short };
      number = proper.number;
      body = proper.body;
      steady = steady;
      wanted = λ core after state body valid kind same.
          (wanted-of asked.want (handled core (packet_limit bus) (packet_of asked)) after 0 body same (proper.wanted core (bus-facts (table_of core state) (awake_of core state) valid refl).core)).1 refl;
    }

-- a response's status
status-read : (status : ℕ) (body : List ℕ) → status < 65536 → u16_at 2 (response_packet status body) ≡ status
status-read status body small = omega (arith, small)

-- a status by two tests
told-by : (status : ℕ) (body : List ℕ) (success fits : Bool) → (success ≡ true → fits ≡ true) → (if success && not fits then Bad else Told status body) ≡ Told status body
told-by status body true true same = refl
told-by status body true false same = absurd (let e = same refl in cc)
told-by status body false fits same = refl

-- what is heard of a response that has the bytes that are wanted
heard-told : (want status : ℕ) (body : List ℕ) → status < 65536 → (status ≡ 0 → length body ≡ want) → heard_as want (Reply (response_packet status body)) ≡ Told status body
heard-told want status body small wanted =
    let read = status-read status body small in
    rw read (told-by status body (status == 0) (length body == want) (λ success. eq-true (length body) want (wanted (eq-of status 0 success))))

-- a request that was sent once to a controller that is on
once-answered : (table last : Table) (has : HasAwake (settled table).power) (asked : Asked) (entries : List Entry) (said : Said) (outcome : Outcome) → Valid table → way_of asked ≡ Once → IsPlain (packet_of asked) → IsProper table.kind asked → IsQuiet entries → IsRun table entries last →
    (sent : IsSentOnce table.kind true asked entries said) → handled (core_of (settled table) has.awake) (packet_limit table.kind) (packet_of asked) ≡ outcome → IsAnswer outcome → IsAnswered table asked entries said last
once-answered table last has asked entries said OutcomeRestarts valid once plain proper quiet run sent same answer = absurd answer
once-answered table last has asked entries said (Outcomes after status body) valid once plain proper quiet run sent same answer =
    let bus = table.kind in
    let core = core_of (settled table) has.awake in
    let open_ = opens table has valid in
    let asks : SentOnce bus (packet_of asked) asked.want entries sent.ending = sent.once in
    let wanted = wanted-of asked.want (handled core (packet_limit bus) (packet_of asked)) after status body same (proper.wanted core (sound-valid bus core (open-sound bus core table open_))) in
    let told = sent-told bus (request_of asked) asked.want core after status body table entries (got asked.want asks.heard) last open_ (record { plain = plain; short = proper.short }) quiet run
    (record { is = same; small = wanted.0; wanted = wanted.1 }) (record { heard = asks.heard; sent = asks.sent; end_is = refl }) in
    let exchange = exchange-of table has.awake (packet_of asked) entries asks.heard last after status body valid has.on plain proper.short asks.sent run quiet.calm quiet.steps same in
    let heard : sent.ending ≡ Told status body =
    asks.ending_is ∙ ap (λ (o : Bool). ended o (heard_as asked.want asks.heard)) (quiet-on entries true quiet) ∙ ap (heard_as asked.want) exchange.heard_is ∙ heard-told asked.want status body wanted.0 wanted.1 in
    let room : room_by Once bus (request_of asked) core ≡ _ = ap (λ (o : Outcome). ask_room bus (request_of asked) o) same in
    record {
      awake = has.awake;
      after = after;
      status = status;
      body = body;
      on = has.on;
      comes = ap (λ (way : Way). outcome_by way (packet_limit bus) (request_of asked) core) once ∙ same;
      said_is = sent.said_is ∙ ap said_once heard;
      entries_are = determined entries quiet.steps quiet.calm;
      leads = calm_lead table entries last quiet.calm run;
      takes = told.takes ∙ ap (λ (n : ℕ). n + waiting_room bus (is_waiting table.power)) (sym room ∙ ap (λ (way : Way). room_by way bus (request_of asked) core) (sym once));
      leaves = (told.at).leaves;
      kind = (told.at).kind_is;
    }

-- more room than any command takes
plenty : (spare room : ℕ) → 1500 + room ≤ spare + (1500 + room)
plenty spare room = omega arith

-- a command that was tried on a controller that is on
tried-answered : (table last : Table) (has : HasAwake (settled table).power) (asked : Asked) (entries : List Entry) (said : Said) (spare : ℕ) → Valid table → way_of asked ≡ Try → tells_any asked.command ≡ false → IsPlain (packet_of asked) → IsProper table.kind asked → IsQuiet entries → IsRun table entries last → ¬ (said ≡ SaidShort) →
    Tries (record { bus = table.kind; floor = 0 }) (request_of asked) asked.want (seen true spare) entries said → IsAnswered table asked entries said last
tried-answered table last has asked entries said spare valid tried steady plain proper quiet run long tries =
    let bus = table.kind in
    let core = core_of (settled table) has.awake in
    let waiting = waiting_room bus (is_waiting table.power) in
    let room = command_room bus (request_of asked) core + waiting in
    let many = spare + (1500 + room) in
    let more = tries-more (record { bus = bus; floor = 0 }) (request_of asked) asked.want true spare many entries said (omega arith) long tries in
    let done = command-calm (record { bus = bus; floor = 0 }) (request_of asked) asked.want (seen true many) core table entries said last waiting (opens table has valid) (tried-proper bus asked steady plain proper) refl (record { on = refl; enough = plenty spare room }) quiet run more in
    record {
      awake = has.awake;
      after = done.after;
      status = done.status;
      body = done.body;
      on = has.on;
      comes = ap (λ (way : Way). outcome_by way (packet_limit bus) (request_of asked) core) tried ∙ done.is;
      said_is = done.said_is;
      entries_are = determined entries quiet.steps quiet.calm;
      leads = calm_lead table entries last quiet.calm run;
      takes = done.takes ∙ ap (λ (n : ℕ). n + waiting) (ap (λ (way : Way). room_by way bus (request_of asked) core) (sym tried));
      leaves = (done.at).leaves;
      kind = (done.at).kind_is;
    }

-- a restart of a controller that is on
restart-answered : (table last : Table) (has : HasAwake (settled table).power) (asked : Asked) (entries : List Entry) (said : Said) (spare : ℕ) → Valid table → way_of asked ≡ Restart → IsQuiet entries → IsRun table entries last → ¬ (said ≡ SaidShort) →
    IsRestart table.kind (seen true spare) entries said → IsAnswered table asked entries said last
restart-answered table last has asked entries said spare valid restarts quiet run long goes =
    let bus = table.kind in
    let core = core_of (settled table) has.awake in
    let waiting = waiting_room bus (is_waiting table.power) in
    let room = restart_room bus core.live.erase + waiting in
    let many = spare + (1500 + room) in
    let more = restarts-more (record { bus = bus; floor = 0 }) true spare many entries goes.end (omega arith) (λ short. long (goes.said_is ∙ ap said_restart short)) goes.restarts in
    let done = restart-calm (record { bus = bus; floor = 0 }) (seen true many) core table entries goes.end last waiting (opens table has valid) refl (record { on = refl; enough = plenty spare room }) quiet run more in
    record {
      awake = has.awake;
      after = restarted core;
      status = 0;
      body = [];
      on = has.on;
      comes = ap (λ (way : Way). outcome_by way (packet_limit bus) (request_of asked) core) restarts;
      said_is = goes.said_is ∙ ap said_restart done.end_is;
      entries_are = determined entries quiet.steps quiet.calm;
      leads = calm_lead table entries last quiet.calm run;
      takes = done.takes ∙ ap (λ (n : ℕ). n + waiting) (ap (λ (way : Way). room_by way bus (request_of asked) core) (sym restarts));
      leaves = (done.at).leaves;
      kind = (done.at).kind_is;
    }

-- a command, by the way that it goes, on a controller that is on
answers-on : (way : Way) (table last : Table) (first : Awake) (asked : Asked) (view : HostView) (entries : List Entry) (said : Said) → table.power ≡ On first → Valid table → view.on ≡ true → way_of asked ≡ way → IsProper table.kind asked → IsQuiet entries → IsRun table entries last → ¬ (said ≡ SaidShort) →
    GoesBy way table.kind view asked entries said → IsAnswered table asked entries said last
answers-on Once table last first asked view entries said power valid on once proper quiet run long goes =
    let has = awake-in (settled table).power (settled-on table first power) in
    let core = core_of (settled table) has.awake in
    let plain = proper.plain (once-plain asked (once-test (tells_any asked.command) (is_cold asked) once)) in
    once-answered table last has asked entries said (handled core (packet_limit table.kind) (packet_of asked)) valid once plain proper quiet run (subst (λ (o : Bool). IsSentOnce table.kind o asked entries said) on goes) refl
    (plain-answered (packet_of asked) core (packet_limit table.kind) plain)
answers-on Restart table last first asked view entries said power valid on restarts proper quiet run long goes =
    restart-answered table last (awake-in (settled table).power (settled-on table first power)) asked entries said view.spare valid restarts quiet run long
    (subst (λ (o : Bool). IsRestart table.kind (seen o view.spare) entries said) on goes)
answers-on Try table last first asked view entries said power valid on tried proper quiet run long goes =
    let tests = try-test (tells_any asked.command) (is_cold asked) tried in
    tried-answered table last (awake-in (settled table).power (settled-on table first power)) asked entries said view.spare valid tried tests.0 (proper.plain tests.1) proper quiet run long
    (subst (λ (o : Bool). Tries (record { bus = table.kind; floor = 0 }) (request_of asked) asked.want (seen o view.spare) entries said) on goes)

-- a command, by the way that it goes, on a controller that is off
pub answers-off : (way : Way) (table last : Table) (asked : Asked) (view : HostView) (entries : List Entry) (said : Said) → view.on ≡ false → IsRun table entries last → GoesBy way table.kind view asked entries said → IsUnanswered table entries said last
answers-off Once table last asked view entries said off run goes =
    let unsent : NotSent entries goes.ending = subst (λ (o : Bool). AskedOnce o table.kind (packet_of asked) asked.want entries goes.ending) off goes.once in
    record { none = unsent.none; said_is = goes.said_is ∙ ap said_once unsent.ending_is; same = subst (λ (e : List Entry). IsRun table e last) unsent.none run }
answers-off Restart table last asked view entries said off run goes =
    let nothing = off-restarts (record { bus = table.kind; floor = 0 }) view.spare entries goes.end (subst (λ (o : Bool). Restarts (record { bus = table.kind; floor = 0 }) (seen o view.spare) entries goes.end) off goes.restarts) in
    record { none = nothing.0; said_is = goes.said_is ∙ ap said_restart nothing.1; same = subst (λ (e : List Entry). IsRun table e last) nothing.0 run }
answers-off Try table last asked view entries said off run goes =
    let nothing = tries-off (record { bus = table.kind; floor = 0 }) (request_of asked) asked.want view.spare entries said
    (subst (λ (o : Bool). Tries (record { bus = table.kind; floor = 0 }) (request_of asked) asked.want (seen o view.spare) entries said) off goes) in
    record { none = nothing.none; said_is = nothing.said_is; same = subst (λ (e : List Entry). IsRun table e last) nothing.none run }

-- the same by the state that the table has
answers-by : (power : Power) (table last : Table) (asked : Asked) (view : HostView) (entries : List Entry) (said : Said) (after : HostView) → table.power ≡ power → is_on power ≡ view.on → Valid table → IsProper table.kind asked → Hears table.kind view asked entries said after → IsRun table entries last → IsUndisturbed entries →
    ¬ (said ≡ SaidShort) → AnswersBy power table asked entries said last
answers-by Off table last asked view entries said after power on valid proper hears run calm long = answers-off (way_of asked) table last asked view entries said (sym on) run hears.goes
answers-by (On first) table last asked view entries said after power on valid proper hears run calm long =
    answers-on (way_of asked) table last first asked view entries said power valid (sym on) refl proper (record { calm = calm; steps = hears.steps }) run long hears.goes

-- one command on the bus of its controller
pub heard : (bus : BusKind) (view : HostView) (table last : Table) (asked : Asked) (entries : List Entry) (said : Said) (after : HostView) → Ready bus view.on table → IsProper bus asked → Hears bus view asked entries said after → IsRun table entries last → IsUndisturbed entries → ¬ (said ≡ SaidShort) → Answers table asked entries said last
heard bus view table last asked entries said after ready proper hears run calm long =
    let own = sym ready.kind in
    answers-by table.power table last asked view entries said after refl ready.on_is ready.valid (subst (λ (b : BusKind). IsProper b asked) own proper) (subst (λ (b : BusKind). Hears b view asked entries said after) own hears) run calm long

-- each of some commands is proper
abbrev pub AreProper : BusKind → List Asked → Type 0
AreProper bus [] = Unit {0}
AreProper bus (asked ∷ more) = IsProper bus asked × AreProper bus more

-- the proper ones before a command, and itself
pub proper-split : (bus : BusKind) (before : List Asked) (asked : Asked) (after : List Asked) → AreProper bus (before ++ asked ∷ after) → AreProper bus before × IsProper bus asked
proper-split bus [] asked after proper = (tt, proper.0)
proper-split bus (first ∷ before) asked after proper =
    let rest = proper-split bus before asked after proper.1 in
    ((proper.0, rest.0), rest.1)

-- a short body makes a short packet
packet-short : (limit command version : ℕ) (body : List ℕ) → 8 + length body ≤ limit → length (request_packet command version body) ≤ limit
packet-short limit command version body short = omega (arith, short)

-- proper commands behind others
proper-more : (bus : BusKind) (commands : List Asked) (asked : Asked) → AreProper bus commands → IsProper bus asked → AreProper bus (commands ++ asked ∷ [])
proper-more bus [] asked proper here = (here, tt)
proper-more bus (first ∷ commands) asked proper here = (proper.0, proper-more bus commands asked proper.1 here)

-- the first ones of proper commands
proper-first : (bus : BusKind) (f : ℕ → Asked) (count : ℕ) → ((k : ℕ) → IsProper bus (f k)) → AreProper bus (first_of count f)
proper-first bus f zero each = tt
proper-first bus f (suc count) each = proper-more bus (first_of count f) (f count) (proper-first bus f count each) (each count)

-- a command of a line is proper
pub command-proper : (bus : BusKind) (tool : Tool) → IsInRange tool → (k : ℕ) → IsProper bus (command_of (packet_limit bus) tool k)
command-proper bus tool within k =
    let limit = packet_limit bus in
    let least = limit-least bus in
    let most = limit-most bus in
    let asked = command_of limit tool k in
    let short = command-short limit tool k least within in
    record {
      plain = λ other. plain-at asked (command-number limit tool k) other (omega (arith, short, most));
      short = packet-short limit asked.command asked.version asked.body short;
      number = command-number limit tool k;
      body = omega (arith, short, most);
      wanted = λ core valid. command-wanted limit tool k core least most valid within;
    }

-- each command of a line is proper
pub tool-proper : (bus : BusKind) (tool : Tool) → IsInRange tool → AreProper bus (commands_of (packet_limit bus) tool)
tool-proper bus tool within = proper-first bus (command_of (packet_limit bus) tool) (count_of (packet_limit bus) tool) (command-proper bus tool within)
