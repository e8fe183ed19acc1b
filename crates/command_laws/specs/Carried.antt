-- What an undisturbed command comes to, on a controller seen without its bus.
use Rattle.std.specs.Prelude.{◌≡◌, ℕ, Bool, ◌||◌, ◌==◌, if◌then◌else◌, List, length}
use Rattle.ec_types.specs.Tables.{packet_limit}
use Rattle.ec_types.specs.declared.bus.BusKind.{BusKind}
use Rattle.ec_model.specs.Packet.{RequestView}
use Rattle.ec_model.specs.Answer.{Outcome, Answered, Restarts}
use Rattle.ec_model.specs.Asks.{packet_of}
use Rattle.ec_model.specs.Tries.{resend_request}
use Rattle.ec_model.specs.Handle.{handled}
use Rattle.ec_model.specs.Bus.{BusState, kind_of}
use Rattle.ec_model.specs.Table.{Core, Valid, table_of}
use Rattle.command_laws.specs.Idle.{idled}

-- an outcome with this status leads on, from the core behind it; any other stands
abbrev pub led_on : ℕ → (Core → Outcome) → Outcome → Outcome
led_on status more Restarts = Restarts
led_on status more (Answered after told body) = if told == status then more after else Answered after told body

-- a request behind a poll
abbrev pub handled_idle : ℕ → RequestView → Core → Outcome
handled_idle limit request core = handled (idled core) limit (packet_of request)

-- a request that is refused because an erase is pending (16, BUSY) is handled behind a poll
abbrev pub past_erase : ℕ → RequestView → Core → Outcome
past_erase limit request core = led_on 16 (handled_idle limit request) (handled core limit (packet_of request))

-- a command: where the request goes on in the background (8, IN_PROGRESS), its saved status is asked for behind a poll
abbrev pub carried : ℕ → RequestView → Core → Outcome
carried limit request core = led_on 8 (handled_idle limit resend_request) (past_erase limit request core)

-- so many bytes are what a success of the request has, whatever the state of the controller
abbrev pub IsWanted : BusKind → RequestView → ℕ → Type 0
IsWanted bus request want =
    (core after : Core) (state : BusState) (body : List ℕ) → Valid (table_of core state) → kind_of state ≡ bus →
    handled core (packet_limit bus) (packet_of request) ≡ Answered after 0 body → length body ≡ want

-- the commands that are answered with whatever status was asked for or is saved: TEST_PROTOCOL and RESEND_RESPONSE
abbrev pub tells_any : ℕ → Bool
tells_any command = (command == 0x0A) || (command == 0xDB)
