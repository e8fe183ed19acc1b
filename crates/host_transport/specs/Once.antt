-- One request that is sent once, without a second try.
use Rattle.std.specs.Prelude.{◌≡◌, ℕ, Bool, true, false, not, ◌&&◌, ◌==◌, if◌then◌else◌, List, [], length}
use Rattle.ec_types.specs.declared.bus.BusKind.{BusKind}
use Rattle.ec_model.specs.declared.event.Entry.{Entry}
use Rattle.ec_model.specs.Packet.{ResponseView, response_view}
use Rattle.ec_model.specs.HostCalls.{on_after}
use Rattle.ec_model.specs.Heard.{Heard, Reply, Bad as HeardBad, Silent as HeardSilent}
use Rattle.ec_model.specs.Send.{Send}
use Rattle.ec_wire.specs.Calls.{WireView, Grows}

-- how it ended: with a status and the reply's body, with a reply that is none, with no reply, or with no power
pub data Ending : Type 0 where
  Said : ℕ → List ℕ → Ending
  Bad Silent NoPower : Ending

-- a reply by what it says: a success has as many bytes as were wanted
abbrev pub said_by : ℕ → ResponseView → Ending
said_by want reply = if (reply.status == 0) && not (length reply.body == want) then Bad else Said reply.status reply.body

-- by what the host heard
abbrev pub heard_as : ℕ → Heard → Ending
heard_as want (Reply packet) = said_by want (response_view packet)
heard_as want HeardBad = Bad
heard_as want HeardSilent = Silent

-- by whether the controller is on behind the send
abbrev pub ended : Bool → Ending → Ending
ended true ending = ending
ended false ending = NoPower

-- the entries are one send of the packet from a controller that is on, which ended so
pub record SentOnce (bus : BusKind) (packet : List ℕ) (want : ℕ) (entries : List Entry) (ending : Ending) : Type 0 where
  pub heard : Heard
  pub sent : Send bus entries packet heard
  pub ending_is : ending ≡ ended (on_after entries true) (heard_as want heard)

-- nothing was sent, since there is no power
pub record NotSent (entries : List Entry) (ending : Ending) : Type 0 where
  pub none : entries ≡ []
  pub ending_is : ending ≡ NoPower

-- the request was sent once, where the controller is on
abbrev pub AskedOnce : Bool → BusKind → List ℕ → ℕ → List Entry → Ending → Type 0
AskedOnce true bus packet want entries ending = SentOnce bus packet want entries ending
AskedOnce false bus packet want entries ending = NotSent entries ending

-- the same, on a wire
pub record AsksOnce (packet : List ℕ) (want : ℕ) (ending : Ending) (old new : WireView) : Type 0 where
  pub added : List Entry
  pub grows : Grows added old new
  pub asked : AskedOnce old.on old.bus packet want added ending
