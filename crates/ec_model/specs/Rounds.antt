-- The rounds of a sync.
use Rattle.std.specs.Prelude.{◌≡◌, ◌≤◌, ◌-◌, ◌*◌, ℕ, List, [], ◌∷◌, ◌++◌, length, IsTrue, MatchBool, flat_map, ⊤}
use Rattle.ec_types.specs.declared.bus.BusKind.{BusKind}
use Rattle.ec_model.specs.declared.event.Entry.{Entry}
use Rattle.ec_model.specs.Packet.{RequestView}
use Rattle.ec_model.specs.HostCalls.{HostView, calls_of, are_calls, view_after}
use Rattle.ec_model.specs.Send.{PutBy, Quiet}
use Rattle.ec_model.specs.Asks.{Setting, packet_of}
use Rattle.ec_model.specs.Tries.{Tries, Said, Answered}

-- GET_PROTOCOL_INFO, which begins a round
abbrev pub protocol_request : RequestView
protocol_request = record { command = 0x000B; version = 0; body = [] }

-- the entries put no GET_PROTOCOL_INFO on the bus
abbrev pub AsksNoProtocol : BusKind → List Entry → Type 0
AsksNoProtocol bus entries =
    (before asked after : List Entry) → entries ≡ before ++ asked ++ after → PutBy bus (packet_of protocol_request) (calls_of asked) → ⊥

-- a round goes on with GET_PROTOCOL_INFO, and asks it no more
pub record AsksProtocol (setting : Setting) (view : HostView) (entries : List Entry) : Type 0 where
  pub asking : List Entry
  pub rest : List Entry
  pub said : Said
  pub parts : entries ≡ asking ++ rest
  pub asked : Tries setting protocol_request 12 view asking said
  pub no_more : AsksNoProtocol setting.bus rest

-- one round: the bus is brought to rest, and GET_PROTOCOL_INFO is asked where the power is on
pub record IsRound (setting : Setting) (view : HostView) (entries : List Entry) : Type 0 where
  pub quieting : List Entry
  pub rest : List Entry
  pub calls : IsTrue (are_calls entries)
  pub parts : entries ≡ quieting ++ rest
  pub quiet : Quiet setting.bus quieting
  pub begins : MatchBool (view_after quieting view).on (AsksProtocol setting (view_after quieting view) rest) (rest ≡ [])

-- the room of a round
abbrev pub round_room : ℕ
round_room = 4000000

-- the parts are rounds, with room left for as many as may follow
abbrev pub AreRounds : ℕ → BusKind → HostView → List (List Entry) → Type 0
AreRounds left bus view [] = ⊤
AreRounds left bus view (part ∷ parts) =
    IsRound (record { bus = bus; floor = (left - 1) * round_room }) view part × AreRounds (left - 1) bus (view_after part view) parts

-- the entries of a sync are at most three rounds
pub record Rounds (bus : BusKind) (view : HostView) (entries : List Entry) (parts : List (List Entry)) : Type 0 where
  pub few : length parts ≤ 3
  pub whole : flat_map (λ part. part) parts ≡ entries
  pub each : AreRounds 3 bus view parts

-- in these entries a command that wants so many bytes ended in this reply
pub record IsShown (setting : Setting) (entries : List Entry) (request : RequestView) (want : ℕ) (status : ℕ) (body : List ℕ) : Type 0 where
  pub before : List Entry
  pub asking : List Entry
  pub after : List Entry
  pub view : HostView
  pub parts : entries ≡ before ++ asking ++ after
  pub asked : Tries setting request want view asking (Answered status body)
