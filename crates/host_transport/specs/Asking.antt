-- One ask of a command on a wire.
use Rattle.std.specs.Prelude.{◌≡◌, ◌≤◌, ◌<◌, ◌+◌, ℕ, ⊤, false, List}
use Rattle.ec_model.specs.declared.event.Entry.{Entry}
use Rattle.ec_model.specs.Packet.{RequestView}
use Rattle.ec_model.specs.HostCalls.{HostView}
use Rattle.ec_model.specs.Asks.{Setting, Asks, send_room, Got as AskEnd, NoPower as EndNoPower, Short as EndShort, NoReply as EndNoReply, Status as EndStatus}
use Rattle.ec_wire.specs.Calls.{WireView, Grows}
use Rattle.host_transport.specs.declared.asking.Got.{Got}
use Rattle.host_transport.specs.declared.asking.Got.TheVariants.{NoPower, Short, NoReply, Status}

-- what the host can ask of a wire
abbrev pub host_view : WireView → HostView
host_view view = record { on = view.on; spare = view.spare }

-- what stays the same through a command that leaves so much room to later ones
abbrev pub setting_of : ℕ → WireView → Setting
setting_of floor view = record { bus = view.bus; floor = floor }

-- the entries that were added are this part of a command
pub record OnWire (Part : Setting → HostView → List Entry → Type 0) (floor : ℕ) (old new : WireView) : Type 0 where
  pub added : List Entry
  pub grows : Grows added old new
  pub part : Part (setting_of floor old) (host_view old) added

-- the entries that were added are one ask
abbrev pub AsksOn : ℕ → RequestView → ℕ → AskEnd → WireView → WireView → Type 0
AsksOn floor request want end old new = OnWire (λ setting view added. Asks setting request want view added end) floor old new

-- the end of an ask, with the reply's body
abbrev pub got_of : Got → List ℕ → AskEnd
got_of NoPower body = EndNoPower
got_of Short body = EndShort
got_of NoReply body = EndNoReply
got_of (Status status) body = EndStatus status body

-- what is known of the wire behind an ask: why it was not sent, or that a reply left room for a wait
abbrev pub Leaves : ℕ → Got → WireView → Type 0
Leaves floor NoPower view = view.on ≡ false
Leaves floor Short view = view.spare < floor + send_room
Leaves floor NoReply view = ⊤
Leaves floor (Status status) view = 1 ≤ view.spare
