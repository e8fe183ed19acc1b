-- A poll of the host until no erase is pending, and a request that is asked behind it.
use Rattle.std.specs.Prelude.{◌≡◌, ℕ, zero, suc, not, ◌==◌, if◌then◌else◌, List, [], ◌∷◌, ◌++◌, IsTrue}
use Rattle.ec_types.specs.LittleEndian.{u32_at, has_bit}
use Rattle.ec_model.specs.declared.event.Entry.{Entry}
use Rattle.ec_model.specs.Packet.{RequestView}
use Rattle.ec_model.specs.HostCalls.{HostView, Waited, calls_of, are_calls, view_after}
use Rattle.ec_model.specs.Asks.{Setting, Got, NoPower, Short, NoReply, Status, got, Asks}

-- the most turns of a poll until the erase is over
abbrev pub poll_turns : ℕ
poll_turns = 1100

-- GET_COMMS_STATUS
abbrev pub comms_request : RequestView
comms_request = record { command = 0x0009; version = 0; body = [] }

-- the end of a poll until no erase is pending
pub data PollEnd : Type 0 where
  Idle : PollEnd
  Lost : PollEnd
  Stopped : Got → PollEnd

-- what one turn of a poll shows: an erase is pending (none), or the poll ends so
pub data Turn : Type 0 where
  Pending : Turn
  Ends : PollEnd → Turn

-- what the end of an ask says about the poll
abbrev pub turn_of : Got → Turn
turn_of NoPower = Ends (Stopped NoPower)
turn_of Short = Ends (Stopped Short)
turn_of NoReply = Ends Lost
turn_of (Status status body) =
    if not (status == 0) then Ends Lost else
    if has_bit 0x01 (u32_at 0 body) then Pending else
    Ends Idle

-- one turn of a poll: a wait, and then an ask
pub record TakesTurn (setting : Setting) (view : HostView) (entries : List Entry) (turn : Turn) : Type 0 where
  pub waiting : List Entry
  pub asking : List Entry
  pub end : Got
  pub parts : entries ≡ waiting ++ asking
  pub waits : IsTrue (are_calls waiting)
  pub waited : calls_of waiting ≡ Waited ∷ []
  pub asked : Asks setting comms_request 4 (view_after waiting view) asking end
  pub turn_is : turn ≡ turn_of end

-- a poll goes on behind a turn that shows an erase, and ends with any other
abbrev pub TurnLeads : Turn → Type 0 → List Entry → PollEnd → Type 0
TurnLeads Pending more rest end = more
TurnLeads (Ends reached) more rest end = (rest ≡ []) × (end ≡ reached)

-- a poll of at most so many turns
abbrev pub Polls : ℕ → Setting → HostView → List Entry → PollEnd → Type 0
Polls zero setting view entries end = (entries ≡ []) × (end ≡ Lost)
Polls (suc turns) setting view entries end =
    (first rest : List Entry) × (turn : Turn) × (entries ≡ first ++ rest) × TakesTurn setting view first turn
    × TurnLeads turn (Polls turns setting (view_after first view) rest end) rest end

-- more is asked behind a poll that ended idle; another leaves no reply, or what stopped it
abbrev pub PollLeads : PollEnd → Type 0 → List Entry → Got → Type 0
PollLeads Idle more rest end = more
PollLeads Lost more rest end = (rest ≡ []) × (end ≡ NoReply)
PollLeads (Stopped got) more rest end = (rest ≡ []) × (end ≡ got)

-- a request is asked behind a poll that ends idle
pub record AsksWhenIdle (setting : Setting) (request : RequestView) (want : ℕ) (view : HostView) (entries : List Entry) (end : Got) : Type 0 where
  pub polling : List Entry
  pub rest : List Entry
  pub reached : PollEnd
  pub parts : entries ≡ polling ++ rest
  pub polled : Polls poll_turns setting view polling reached
  pub leads : PollLeads reached (Asks setting request want (view_after polling view) rest end) rest end
