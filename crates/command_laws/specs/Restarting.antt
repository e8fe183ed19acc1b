-- A restart that the host asks for: it looks whether an erase is pending until none is, sends a COLD, and brings the bus to rest.
use Rattle.std.specs.Prelude.{◌≡◌, ℕ, zero, suc, ◌+◌, ◌*◌, false, List, [], ◌∷◌, ◌++◌, length, IsTrue, Option, Some, None}
use Rattle.ec_types.specs.declared.bus.BusKind.{BusKind}
use Rattle.ec_types.specs.declared.bus.BusKind.TheVariants.{Lpc, I2c, Spi}
use Rattle.ec_types.specs.declared.reset.ResetCause.TheVariants.{Cold as ColdReset}
use Rattle.ec_model.specs.declared.event.Entry.{Entry}
use Rattle.ec_model.specs.declared.live.EraseJob.{EraseJob}
use Rattle.ec_model.specs.Asks.{Setting, Got, NoPower as EndNoPower, Short as EndShort, NoReply as EndNoReply, Status as EndStatus, Unsent, WithoutPower, WithoutRoom, IsSent, unsent}
use Rattle.ec_model.specs.Boot.{booted}
use Rattle.ec_model.specs.HostCalls.{HostView, Waited, calls_of, are_calls, view_after}
use Rattle.ec_model.specs.Polls.{PollEnd, Idle, Lost, Stopped, Turn, Pending, Ends, turn_of, TurnLeads, poll_turns, comms_request}
use Rattle.ec_model.specs.Send.{Cold, Quiet, cold_packet}
use Rattle.ec_model.specs.Table.{Table, Core}
use Rattle.ec_model.specs.Tries.{Said, Answered, SaidNoPower, SaidUpset, SaidShort, Tries}
use Rattle.host_framing.specs.Room.{send_room}
use Rattle.command_laws.specs.Idle.{after_ticks}
use Rattle.command_laws.specs.Room.{turn_room}
use Rattle.command_laws.specs.Standing.{IsAt}

-- how it ended: the COLD was sent, or why not
pub data RestartEnd : Type 0 where
  Sent NoPower Upset Short : RestartEnd

-- what was said of a command, as the end of an ask
abbrev pub got_of : Said → Got
got_of (Answered status body) = EndStatus status body
got_of SaidNoPower = EndNoPower
got_of SaidUpset = EndNoReply
got_of SaidShort = EndShort

-- one wait
pub record IsOneWait (entries : List Entry) : Type 0 where
  pub waits : IsTrue (are_calls entries)
  pub waited : calls_of entries ≡ Waited ∷ []

-- behind a look that shows an erase the host waits once
abbrev pub WaitsBehind : Turn → List Entry → Type 0
WaitsBehind Pending entries = IsOneWait entries
WaitsBehind (Ends end) entries = entries ≡ []

-- one look: GET_COMMS_STATUS by a command, and a wait where an erase is pending
pub record Looks (setting : Setting) (view : HostView) (entries : List Entry) (turn : Turn) : Type 0 where
  pub asking : List Entry
  pub waiting : List Entry
  pub said : Said
  pub parts : entries ≡ asking ++ waiting
  pub asked : Tries setting comms_request 4 view asking said
  pub turn_is : turn ≡ turn_of (got_of said)
  pub waits : WaitsBehind turn waiting

-- at most so many looks; the first one that shows no pending erase ends them
abbrev pub LooksUpTo : ℕ → Setting → HostView → List Entry → PollEnd → Type 0
LooksUpTo zero setting view entries end = (entries ≡ []) × (end ≡ Lost)
LooksUpTo (suc looks) setting view entries end =
    (first rest : List Entry) × (turn : Turn) × (entries ≡ first ++ rest) × Looks setting view first turn
    × TurnLeads turn (LooksUpTo looks setting (view_after first view) rest end) rest end

-- a COLD, and what brings the bus to rest behind it
pub record ResetsQuietly (bus : BusKind) (entries : List Entry) : Type 0 where
  pub sending : List Entry
  pub resting : List Entry
  pub parts : entries ≡ sending ++ resting
  pub sent : Cold bus cold_packet sending
  pub rests : Quiet bus resting

-- the COLD is sent, by why it may not be
abbrev pub ResetsBy : Unsent → BusKind → List Entry → RestartEnd → Type 0
ResetsBy WithoutPower bus entries end = (entries ≡ []) × (end ≡ NoPower)
ResetsBy WithoutRoom bus entries end = (entries ≡ []) × (end ≡ Short)
ResetsBy IsSent bus entries end = ResetsQuietly bus entries × (end ≡ Sent)

-- what stopped the looks
abbrev pub stopped_end : Got → RestartEnd
stopped_end EndNoPower = NoPower
stopped_end EndShort = Short
stopped_end EndNoReply = Upset
stopped_end (EndStatus status body) = Upset

-- more is done behind looks that end with no erase pending
abbrev pub LooksLead : PollEnd → Type 0 → List Entry → RestartEnd → Type 0
LooksLead Idle more rest end = more
LooksLead Lost more rest end = (rest ≡ []) × (end ≡ Upset)
LooksLead (Stopped got) more rest end = (rest ≡ []) × (end ≡ stopped_end got)

-- a whole restart: at most as many looks as a poll has turns, and the COLD
pub record Restarts (setting : Setting) (view : HostView) (entries : List Entry) (end : RestartEnd) : Type 0 where
  pub looking : List Entry
  pub rest : List Entry
  pub reached : PollEnd
  pub parts : entries ≡ looking ++ rest
  pub looked : LooksUpTo poll_turns setting view looking reached
  pub leads : LooksLead reached (ResetsBy (unsent (view_after looking view) setting.floor) setting.bus rest end) rest end

-- how many blocks of a pending erase are left
abbrev pub blocks_left : Option EraseJob → ℕ
blocks_left None = 0
blocks_left (Some job) = job.left

-- the core once the pending erase is over
abbrev pub erased : Core → Core
erased core = after_ticks (blocks_left core.live.erase) core

-- the core behind a restart: it booted over what the erase left
abbrev pub restarted : Core → Core
restarted core = booted (erased core).flash (erased core).pin ColdReset false

-- the calls of a COLD of 10 bytes and of what brings the bus to rest
abbrev pub cold_room : BusKind → ℕ
cold_room Lpc = 14
cold_room I2c = 15
cold_room Spi = 14

-- the calls of an undisturbed restart: a look and a wait for each block, another look, and the COLD
abbrev pub restart_room : BusKind → Option EraseJob → ℕ
restart_room bus erase = blocks_left erase * turn_room bus + send_room bus 8 12 + cold_room bus

-- a restart that nothing disturbs: the COLD was sent, and the controller booted
pub record IsRestarted (bus : BusKind) (core : Core) (room : ℕ) (entries : List Entry) (end : RestartEnd) (last : Table) : Type 0 where
  pub end_is : end ≡ Sent
  pub at : IsAt bus (restarted core) last
  pub takes : length (calls_of entries) ≡ room
