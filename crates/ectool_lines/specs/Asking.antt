-- The commands of a line, sent one after the other up to the first that is no success.
--
-- How one command goes is a parameter: a relation of a state before it, the command, its entries, what is said of it and the
-- state behind it. So the same words tell what the host sees of any controller (the state is whether it is on, and what room is
-- left), and what becomes of a controller whose flash tells its bytes (the state is all that it holds beside that room).
use Rattle.std.specs.Prelude.{◌≡◌, ℕ, Bool, List, [], ◌∷◌, ◌++◌, IsTrue}
use Rattle.std.specs.List.{list_all}
use Rattle.ec_types.specs.Tables.{packet_limit}
use Rattle.ec_types.specs.declared.bus.BusKind.{BusKind}
use Rattle.ec_model.specs.declared.event.Entry.{Entry}
use Rattle.ec_model.specs.HostCalls.{HostView, view_after}
use Rattle.ec_model.specs.Tries.{Said, Answered, SaidNoPower, SaidUpset, SaidShort, Tries}
use Rattle.ec_wire.specs.Calls.{WireView, Grows, is_wire_step}
use Rattle.command_laws.specs.Restarting.{RestartEnd, Sent, NoPower as RestartNoPower, Upset as RestartUpset, Short as RestartShort, Restarts}
use Rattle.host_transport.specs.Asking.{host_view}
use Rattle.host_transport.specs.Once.{Ending, Said as Told, Bad, Silent, NoPower, AskedOnce}
use Rattle.ectool_lines.specs.declared.tool.Tool.{Tool}
use Rattle.ectool_lines.specs.Requests.{Asked, Way, Once, Restart, Try, way_of, request_of, packet_of, commands_of}
use Rattle.ectool_lines.specs.Texts.{LineEnd, Succeeded, Stopped, line_text, printed}

-- each command was a success, with these bodies of their replies
abbrev pub AllSucceed : {State : Type 0} → (State → Asked → List Entry → Said → State → Type 0) →
    State → List Asked → List Entry → List (List ℕ) → State → Type 0
AllSucceed asks old [] entries bodies new = (entries ≡ []) × (bodies ≡ []) × (new ≡ old)
AllSucceed {State} asks old (asked ∷ more) entries bodies new =
    (first rest : List Entry) × (body : List ℕ) × (others : List (List ℕ)) × (middle : State)
    × (entries ≡ first ++ rest) × (bodies ≡ body ∷ others)
    × asks old asked first (Answered 0 body) middle × AllSucceed asks middle more rest others new

-- whether a command was a success
abbrev pub IsSuccess : Said → Type 0
IsSuccess said = (body : List ℕ) × (said ≡ Answered 0 body)

-- some commands were a success, and the one behind them was none
pub record StopsAt {State : Type 0} (asks : State → Asked → List Entry → Said → State → Type 0)
    (old : State) (commands : List Asked) (entries : List Entry) (said : Said) (new : State) : Type 0 where
  pub before : List Asked
  pub asked : Asked
  pub after : List Asked
  pub first : List Entry
  pub last : List Entry
  pub bodies : List (List ℕ)
  pub middle : State
  pub commands_are : commands ≡ before ++ asked ∷ after
  pub entries_are : entries ≡ first ++ last
  pub succeeded : AllSucceed asks old before first bodies middle
  pub asks_last : asks middle asked last said new
  pub refused : ¬ IsSuccess said

-- the commands were sent one after the other up to the first that was no success, and this is how they ended
abbrev pub AsksEach : {State : Type 0} → (State → Asked → List Entry → Said → State → Type 0) →
    State → List Asked → List Entry → LineEnd → State → Type 0
AsksEach asks old commands entries (Succeeded bodies) new = AllSucceed asks old commands entries bodies new
AsksEach asks old commands entries (Stopped said) new = StopsAt asks old commands entries said new

-- what is said of a request that was sent once: no reply is as a command that was upset
abbrev pub said_once : Ending → Said
said_once (Told status body) = Answered status body
said_once Bad = SaidUpset
said_once Silent = SaidUpset
said_once NoPower = SaidNoPower

-- a request was sent once, and this is said of it
pub record IsSentOnce (bus : BusKind) (on : Bool) (asked : Asked) (entries : List Entry) (said : Said) : Type 0 where
  pub ending : Ending
  pub once : AskedOnce on bus (packet_of asked) asked.want entries ending
  pub said_is : said ≡ said_once ending

-- what is said of a restart
abbrev pub said_restart : RestartEnd → Said
said_restart Sent = Answered 0 []
said_restart RestartNoPower = SaidNoPower
said_restart RestartUpset = SaidUpset
said_restart RestartShort = SaidShort

-- the controller was restarted, and this is said of it
pub record IsRestart (bus : BusKind) (view : HostView) (entries : List Entry) (said : Said) : Type 0 where
  pub end : RestartEnd
  pub restarts : Restarts (record { bus = bus; floor = 0 }) view entries end
  pub said_is : said ≡ said_restart end

-- a command by the way that it goes, with no room left to others
abbrev pub GoesBy : Way → BusKind → HostView → Asked → List Entry → Said → Type 0
GoesBy Once bus view asked entries said = IsSentOnce bus view.on asked entries said
GoesBy Restart bus view asked entries said = IsRestart bus view entries said
GoesBy Try bus view asked entries said = Tries (record { bus = bus; floor = 0 }) (request_of asked) asked.want view entries said

-- what the host sees of one command: how it went, and that each entry is one that a call of a wire adds
pub record Hears (bus : BusKind) (view : HostView) (asked : Asked) (entries : List Entry) (said : Said) (after : HostView) : Type 0 where
  pub goes : GoesBy (way_of asked) bus view asked entries said
  pub steps : IsTrue (list_all is_wire_step entries)
  pub after_is : after ≡ view_after entries view

-- the same, on a wire
pub record HearsOn (asked : Asked) (said : Said) (old new : WireView) : Type 0 where
  pub added : List Entry
  pub grows : Grows added old new
  pub hears : Hears old.bus (host_view old) asked added said (host_view new)

-- a line was carried out on a wire: its commands were sent, and this is its text
pub record CarriesTool (tool : Tool) (text : List ℕ) (old new : WireView) : Type 0 where
  pub added : List Entry
  pub end : LineEnd
  pub grows : Grows added old new
  pub asks : AsksEach (Hears old.bus) (host_view old) (commands_of (packet_limit old.bus) tool) added end (host_view new)
  pub text_is : text ≡ printed (line_text tool end)
