-- One send, as one request that was sent once.
use Rattle.std.proofs.Common.{◌≡◌, sym, ap, ◌∙◌, subst, ℕ, Bool, true, List}
use Rattle.ec_model.specs.HostCalls.{on_after}
use Rattle.ec_model.specs.Heard.{Heard}
use Rattle.ec_model.specs.Send.{Send}
use Rattle.ec_wire.specs.Calls.{WireView}
use Rattle.host_framing.specs.Parts.{Sends}
use Rattle.host_transport.specs.Once.{Ending, SentOnce, AskedOnce, AsksOnce, ended, heard_as}
use Rattle.host_transport.specs.Sending.{SendsRequest}

-- a send of the packet that was spelled, by what came back
pub sends-request : (packet request : List ℕ) (want : ℕ) (heard : Heard) (ending : Ending) (old new : WireView) → packet ≡ request →
    Sends old.bus packet heard old new → ending ≡ heard_as want heard → SendsRequest request want ending old new
sends-request packet request want heard ending old new same sends end =
    record {
      added = sends.added;
      heard = heard;
      grows = sends.grows;
      sent = subst (λ (bytes : List ℕ). Send old.bus sends.added bytes heard) same sends.sent;
      ending_is = end;
    }

-- a send from a controller that is on, with its end by the power behind it
pub asks-once : (request : List ℕ) (want : ℕ) (said ending : Ending) (old new : WireView) → old.on ≡ true →
    SendsRequest request want said old new → ending ≡ ended new.on said → AsksOnce request want ending old new
asks-once request want said ending old new on sends end =
    let behind : new.on ≡ on_after sends.added true = sends.grows.on ∙ ap (λ (before : Bool). on_after sends.added before) on in
    let sent : SentOnce old.bus request want sends.added ending = record {
      heard = sends.heard;
      sent = sends.sent;
      ending_is = end ∙ ap (λ (power : Bool). ended power said) behind ∙ ap (λ (e : Ending). ended (on_after sends.added true) e) sends.ending_is;
    } in
    record {
      added = sends.added;
      grows = sends.grows;
      asked = subst (λ (before : Bool). AskedOnce before old.bus request want sends.added ending) (sym on) sent;
    }
