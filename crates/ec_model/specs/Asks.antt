-- One ask of the host: a request that is sent once, where there is power and room.
use Rattle.std.specs.Prelude.{◌≡◌, ℕ, ◌+◌, Bool, false, not, ◌&&◌, ◌==◌, nat_lt, if◌then◌else◌, List, [], length}
use Rattle.ec_types.specs.declared.bus.BusKind.{BusKind}
use Rattle.ec_model.specs.declared.event.Entry.{Entry}
use Rattle.ec_model.specs.Packet.{RequestView, ResponseView, request_packet, response_view}
use Rattle.ec_model.specs.HostCalls.{HostView}
use Rattle.ec_model.specs.Heard.{Heard, Reply, Bad, Silent}
use Rattle.ec_model.specs.Send.{Send}

-- the room that one send may take
abbrev pub send_room : ℕ
send_room = 1500

-- what stays the same through a command: the bus, and the room that it leaves to later ones
pub record Setting : Type 0 where
  pub bus : BusKind
  pub floor : ℕ

-- the end of one ask: not sent, for want of power or room; no reply; or a reply
pub data Got : Type 0 where
  NoPower : Got
  Short : Got
  NoReply : Got
  Status : ℕ → List ℕ → Got

-- a reply of success has the wanted length
abbrev pub got_view : ℕ → ResponseView → Got
got_view want view = if (view.status == 0) && not (length view.body == want) then NoReply else Status view.status view.body

-- what was heard, as the end of an ask
abbrev pub got : ℕ → Heard → Got
got want (Reply bytes) = got_view want (response_view bytes)
got want Bad = NoReply
got want Silent = NoReply

-- the packet of a request
abbrev pub packet_of : RequestView → List ℕ
packet_of request = request_packet request.command request.version request.body

-- why a request is not sent
pub data Unsent : Type 0 where
  WithoutPower : Unsent
  WithoutRoom : Unsent
  IsSent : Unsent

-- why a request is not sent, by what the host can see
abbrev pub unsent : HostView → ℕ → Unsent
unsent view floor =
    if not view.on then WithoutPower else
    if nat_lt view.spare (floor + send_room) then WithoutRoom else
    IsSent

-- one send, and what came of it
pub record SendsOnce (bus : BusKind) (request : RequestView) (want : ℕ) (entries : List Entry) (end : Got) : Type 0 where
  pub heard : Heard
  pub sent : Send bus entries (packet_of request) heard
  pub end_is : end ≡ got want heard

-- one ask, by why it may not be sent
abbrev pub AsksBy : Unsent → BusKind → RequestView → ℕ → List Entry → Got → Type 0
AsksBy WithoutPower bus request want entries end = (entries ≡ []) × (end ≡ NoPower)
AsksBy WithoutRoom bus request want entries end = (entries ≡ []) × (end ≡ Short)
AsksBy IsSent bus request want entries end = SendsOnce bus request want entries end

-- one ask: the request is sent, unless the power is off or the room too small
abbrev pub Asks : Setting → RequestView → ℕ → HostView → List Entry → Got → Type 0
Asks setting request want view entries end = AsksBy (unsent view setting.floor) setting.bus request want entries end

-- whether an ask ended with this status
abbrev pub has_status : ℕ → Got → Bool
has_status status (Status other body) = other == status
has_status status other = false
