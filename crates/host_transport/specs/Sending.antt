-- One send of a request on a wire, and what came back.
use Rattle.std.specs.Prelude.{◌≡◌, ℕ, List}
use Rattle.ec_model.specs.declared.event.Entry.{Entry}
use Rattle.ec_model.specs.Heard.{Heard as HostHeard}
use Rattle.ec_model.specs.Send.{Send}
use Rattle.ec_wire.specs.Calls.{WireView, Grows}
use Rattle.host_transport.specs.Once.{Ending, Said, Bad as BadEnding, Silent as SilentEnding, heard_as}
use Rattle.host_transport.specs.declared.sending.Heard.{Heard}
use Rattle.host_transport.specs.declared.sending.Heard.TheVariants.{Status, Bad, Silent}

-- the ending of a send, by what came back and the reply's body
abbrev pub heard_ending : Heard → List ℕ → Ending
heard_ending (Status status) body = Said status body
heard_ending Bad body = BadEnding
heard_ending Silent body = SilentEnding

-- the entries that were added are one send of the packet, which ended so
pub record SendsRequest (packet : List ℕ) (want : ℕ) (ending : Ending) (old new : WireView) : Type 0 where
  pub added : List Entry
  pub heard : HostHeard
  pub grows : Grows added old new
  pub sent : Send old.bus added packet heard
  pub ending_is : ending ≡ heard_as want heard
