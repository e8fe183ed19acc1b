-- A part that a loop makes: what is done from where the loop stands ends the whole.
use Rattle.std.proofs.Common.{sym, subst, ℕ, List, ◌++◌, append_assoc}
use Rattle.ec_model.specs.declared.event.Entry.{Entry}
use Rattle.ec_model.specs.Asks.{Setting}
use Rattle.ec_model.specs.HostCalls.{HostView, view_after}
use Rattle.ec_wire.specs.Calls.{WireView, Grows}
use Rattle.ec_wire.proofs.Growth.{grows-then}
use Rattle.host_transport.specs.Asking.{OnWire, host_view, setting_of}
use Rattle.host_transport.proofs.WireParts.{view-after, part-at}

-- whatever does the rest from here, does the whole with what was added
abbrev pub GoesOn : {E : Type 0} → (whole rest : HostView → List Entry → E → Type 0) → HostView → HostView → List Entry → Type 0
GoesOn {E} whole rest start view added = (more : List Entry) (end : E) → rest view more end → whole start (added ++ more) end

-- one more step
pub goes-on : {E : Type 0} → (whole now next : HostView → List Entry → E → Type 0) (start : HostView) (added step : List Entry) (middle new : WireView) →
    GoesOn whole now start (host_view middle) added → Grows step middle new →
    ((more : List Entry) (end : E) → next (view_after step (host_view middle)) more end → now (host_view middle) (step ++ more) end) →
    GoesOn whole next start (host_view new) (added ++ step)
goes-on whole now next start added step middle new goes grows link more end part =
    subst (λ (entries : List Entry). whole start entries end) (sym (append_assoc added step more))
    (goes (step ++ more) end (link more end (subst (λ (view : HostView). next view more end) (view-after step middle new grows) part)))

-- the last step
pub goes-end : {E : Type 0} → (whole now : Setting → HostView → List Entry → E → Type 0) (floor : ℕ) (end : E) (added : List Entry) (old middle new : WireView) →
    Grows added old middle → GoesOn (whole (setting_of floor old)) (now (setting_of floor old)) (host_view old) (host_view middle) added →
    OnWire (λ setting view entries. now setting view entries end) floor middle new → OnWire (λ setting view entries. whole setting view entries end) floor old new
goes-end whole now floor end added old middle new grows goes last = record {
  added = added ++ last.added;
  grows = grows-then added last.added old middle new grows last.grows;
  part = goes last.added end (part-at (λ setting view entries. now setting view entries end) floor added old middle new grows last);
}
