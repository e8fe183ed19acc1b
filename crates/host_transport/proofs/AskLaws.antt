-- One ask, by why it may not be sent.
use Rattle.std.proofs.Common.{◌≡◌, refl, sym, ap, ◌∙◌, subst, ℕ, ◌+◌, ◌<◌, ◌≤◌, Bool, true, false, if◌then◌else◌, List, []}
use Rattle.std.proofs.lemmas.Bool.{lt-ltb, le-ltb}
use Rattle.ec_model.specs.Packet.{RequestView}
use Rattle.ec_model.specs.HostCalls.{HostView}
use Rattle.ec_model.specs.Heard.{Heard, Reply, Bad as HeardBad, Silent as HeardSilent}
use Rattle.ec_model.specs.Asks.{Got, NoPower, Short, NoReply, Status, Unsent, WithoutPower, WithoutRoom, IsSent, AsksBy, unsent, got, packet_of}
use Rattle.ec_wire.specs.Calls.{WireView}
use Rattle.ec_wire.proofs.Growth.{grows-nil}
use Rattle.host_transport.specs.Once.{Ending, Said, Bad, Silent, NoPower as EndedOff, heard_as}
use Rattle.host_transport.specs.Sending.{SendsRequest}
use Rattle.host_transport.specs.Asking.{AsksOn}

-- the end of an ask, by the ending of its send
abbrev pub end_of : Ending → Got
end_of (Said status body) = Status status body
end_of Bad = NoReply
end_of Silent = NoReply
end_of EndedOff = NoPower

said-got : (test : Bool) (status : ℕ) (body : List ℕ) → end_of (if test then Bad else Said status body) ≡ (if test then NoReply else Status status body)
said-got true status body = refl
said-got false status body = refl

-- the same of what was heard
heard-got : (want : ℕ) (heard : Heard) → end_of (heard_as want heard) ≡ got want heard
heard-got want (Reply packet) = said-got _ _ _
heard-got want HeardBad = refl
heard-got want HeardSilent = refl

-- what the host sees
abbrev seen : Bool → ℕ → HostView
seen on spare = record { on = on; spare = spare }

pub off-unsent : (on : Bool) (spare floor : ℕ) → on ≡ false → unsent (seen on spare) floor ≡ WithoutPower
off-unsent on spare floor off = rw (off) refl

pub short-unsent : (on : Bool) (spare floor : ℕ) → on ≡ true → spare < floor + 1500 → unsent (seen on spare) floor ≡ WithoutRoom
short-unsent on spare floor is small = rw (is, lt-ltb spare (floor + 1500) small) refl

pub is-sent : (on : Bool) (spare floor : ℕ) → on ≡ true → floor + 1500 ≤ spare → unsent (seen on spare) floor ≡ IsSent
is-sent on spare floor is large = rw (is, le-ltb spare (floor + 1500) large) refl

-- nothing is sent from a controller that is off
pub ask-off : (floor : ℕ) (request : RequestView) (want : ℕ) (view : WireView) → view.on ≡ false → AsksOn floor request want NoPower view view
ask-off floor request want view off = record {
  added = [];
  grows = grows-nil view;
  part = subst (λ (why : Unsent). AsksBy why view.bus request want [] NoPower) (sym (off-unsent view.on view.spare floor off)) (refl, refl);
}

-- nothing is sent where the room is too small
pub ask-short : (floor : ℕ) (request : RequestView) (want : ℕ) (view : WireView) → view.on ≡ true → view.spare < floor + 1500 → AsksOn floor request want Short view view
ask-short floor request want view on small = record {
  added = [];
  grows = grows-nil view;
  part = subst (λ (why : Unsent). AsksBy why view.bus request want [] Short) (sym (short-unsent view.on view.spare floor on small)) (refl, refl);
}

-- a request is sent where power and room allow
pub ask-sent : (floor : ℕ) (request : RequestView) (want : ℕ) (ending : Ending) (end : Got) (old new : WireView) → old.on ≡ true → floor + 1500 ≤ old.spare →
    SendsRequest (packet_of request) want ending old new → end ≡ end_of ending → AsksOn floor request want end old new
ask-sent floor request want ending end old new on large sends same = record {
  added = sends.added;
  grows = sends.grows;
  part = subst (λ (why : Unsent). AsksBy why old.bus request want sends.added end) (sym (is-sent old.on old.spare floor on large)) (record {
    heard = sends.heard;
    sent = sends.sent;
    end_is = same ∙ ap end_of sends.ending_is ∙ heard-got want sends.heard;
  });
}
