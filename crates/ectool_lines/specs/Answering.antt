-- How a command goes where nothing disturbs it.
use Rattle.std.specs.Prelude.{◌≡◌, ◌+◌, ℕ, List, [], length, map}
use Rattle.ec_types.specs.Tables.{packet_limit}
use Rattle.ec_types.specs.declared.bus.BusKind.{BusKind}
use Rattle.ec_model.specs.declared.event.Entry.{Entry}
use Rattle.ec_model.specs.Packet.{RequestView}
use Rattle.ec_model.specs.HostCalls.{calls_of}
use Rattle.ec_model.specs.Table.{Table, Awake, Power, Off, On, Core, core_of}
use Rattle.ec_model.specs.Answer.{Outcome, Answered}
use Rattle.ec_model.specs.Asks.{packet_of as request_packet_of}
use Rattle.ec_model.specs.Handle.{handled}
use Rattle.ec_model.specs.Syncable.{settled}
use Rattle.ec_model.specs.Tries.{Said, Answered as SaidAnswered, SaidNoPower}
use Rattle.ec_wire.specs.Quiet.{quiet_entry}
use Rattle.exchange_laws.specs.Calm.{CallsLead}
use Rattle.exchange_laws.specs.Resting.{is_waiting}
use Rattle.exchange_laws.specs.Served.{LeavesCore}
use Rattle.host_framing.specs.Room.{waiting_room}
use Rattle.command_laws.specs.Carried.{carried}
use Rattle.command_laws.specs.Restarting.{restarted, restart_room}
use Rattle.command_laws.specs.Room.{ask_room, command_room}
use Rattle.ectool_lines.specs.Requests.{Asked, Way, Once, Restart, Try, way_of, request_of}

-- what a command comes to: one that is sent once is handled, a restart leaves a controller that booted, and any other one is
-- carried out, past a pending erase
abbrev pub outcome_by : Way → ℕ → RequestView → Core → Outcome
outcome_by Once limit request core = handled core limit (request_packet_of request)
outcome_by Restart limit request core = Answered (restarted core) 0 []
outcome_by Try limit request core = carried limit request core

abbrev pub outcome_of : ℕ → Asked → Core → Outcome
outcome_of limit asked core = outcome_by (way_of asked) limit (request_of asked) core

-- how many calls it takes
abbrev pub room_by : Way → BusKind → RequestView → Core → ℕ
room_by Once bus request core = ask_room bus request (handled core (packet_limit bus) (request_packet_of request))
room_by Restart bus request core = restart_room bus core.live.erase
room_by Try bus request core = command_room bus request core

abbrev pub room_of : BusKind → Asked → Core → ℕ
room_of bus asked core = room_by (way_of asked) bus (request_of asked) core

-- On LPC the request that waits is served first; then the command is carried out, which is said, and it leaves its core, on the
-- same bus, and no request that waits. Each entry is that of a call that nothing disturbs, and there are just so many.
pub record IsAnswered (old : Table) (asked : Asked) (entries : List Entry) (said : Said) (new : Table) : Type 0 where
  pub awake : Awake
  pub after : Core
  pub status : ℕ
  pub body : List ℕ
  pub on : (settled old).power ≡ On awake
  pub comes : outcome_of (packet_limit old.kind) asked (core_of (settled old) awake) ≡ Answered after status body
  pub said_is : said ≡ SaidAnswered status body
  pub entries_are : entries ≡ map quiet_entry (calls_of entries)
  pub leads : CallsLead old (calls_of entries) new
  pub takes : length (calls_of entries) ≡ room_of old.kind asked (core_of (settled old) awake) + waiting_room old.kind (is_waiting old.power)
  pub leaves : LeavesCore after new
  pub kind : new.kind ≡ old.kind

-- nothing is sent to a controller that is off
pub record IsUnanswered (old : Table) (entries : List Entry) (said : Said) (new : Table) : Type 0 where
  pub none : entries ≡ []
  pub said_is : said ≡ SaidNoPower
  pub same : new ≡ old

-- by whether the controller is on
abbrev pub AnswersBy : Power → Table → Asked → List Entry → Said → Table → Type 0
AnswersBy Off old asked entries said new = IsUnanswered old entries said new
AnswersBy (On awake) old asked entries said new = IsAnswered old asked entries said new

-- a command, asked of a controller in this state
abbrev pub Answers : Table → Asked → List Entry → Said → Table → Type 0
Answers old asked entries said new = AnswersBy old.power old asked entries said new
