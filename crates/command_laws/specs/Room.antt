-- How many calls an undisturbed command takes, by the lengths of its packets and the blocks of an erase that is pending.
use Rattle.std.specs.Prelude.{ℕ, ◌+◌, ◌*◌, ◌==◌, if◌then◌else◌, List, [], length, Option}
use Rattle.ec_types.specs.Tables.{packet_limit}
use Rattle.ec_types.specs.declared.bus.BusKind.{BusKind}
use Rattle.ec_model.specs.declared.live.EraseJob.{EraseJob}
use Rattle.ec_model.specs.Packet.{RequestView}
use Rattle.ec_model.specs.Answer.{Outcome, Answered, Restarts}
use Rattle.ec_model.specs.Asks.{packet_of}
use Rattle.ec_model.specs.Tries.{resend_request}
use Rattle.ec_model.specs.Handle.{handled}
use Rattle.ec_model.specs.Table.{Core}
use Rattle.host_framing.specs.Room.{send_room}
use Rattle.command_laws.specs.Idle.{poll_waits}
use Rattle.command_laws.specs.Carried.{handled_idle, past_erase, carried}

-- one turn of a poll: a wait, and GET_COMMS_STATUS with its reply of 4 bytes
abbrev pub turn_room : BusKind → ℕ
turn_room bus = 1 + send_room bus 8 12

-- a poll, by the erase that is pending
abbrev pub poll_room : BusKind → Option EraseJob → ℕ
poll_room bus erase = poll_waits erase * turn_room bus

-- the body that is answered
abbrev pub told_body : Outcome → List ℕ
told_body (Answered after status body) = body
told_body Restarts = []

-- one ask, by what it is answered
abbrev pub ask_room : BusKind → RequestView → Outcome → ℕ
ask_room bus request outcome = send_room bus (length (packet_of request)) (8 + length (told_body outcome))

-- the room of what an outcome with this status leads to
abbrev pub led_room : ℕ → (Core → ℕ) → Outcome → ℕ
led_room status more Restarts = 0
led_room status more (Answered after told body) = if told == status then more after else 0

-- a request behind a poll
abbrev pub idle_room : BusKind → RequestView → Core → ℕ
idle_room bus request core = poll_room bus core.live.erase + ask_room bus request (handled_idle (packet_limit bus) request core)

-- a request, and where an erase was pending, the same behind a poll
abbrev pub past_room : BusKind → RequestView → Core → ℕ
past_room bus request core =
    let outcome = handled core (packet_limit bus) (packet_of request) in
    ask_room bus request outcome + led_room 16 (idle_room bus request) outcome

-- a try: where the request goes on in the background, its status is asked for behind a poll
abbrev pub try_room : BusKind → RequestView → Core → ℕ
try_room bus request core = past_room bus request core + led_room 8 (idle_room bus resend_request) (past_erase (packet_limit bus) request core)

-- a command: one that is refused for its parameters (3, INVALID_PARAM) is tried three times
abbrev pub command_room : BusKind → RequestView → Core → ℕ
command_room bus request core =
    try_room bus request core + led_room 3 (λ after. 2 * try_room bus request after) (carried (packet_limit bus) request core)
