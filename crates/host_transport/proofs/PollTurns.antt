-- A poll, one turn at a time.
use Rattle.std.proofs.Common.{◌≡◌, refl, sym, subst, ℕ, suc, List, [], ◌∷◌, ◌++◌, append_assoc, append-nil}
use Rattle.ec_model.specs.declared.event.Entry.{Entry}
use Rattle.ec_model.specs.HostCalls.{HostView, Waited, view_after}
use Rattle.ec_model.specs.Asks.{Setting, Got, Asks}
use Rattle.ec_model.specs.Polls.{Turn, Pending, Ends, PollEnd, Lost, Polls, TakesTurn, comms_request, turn_of}
use Rattle.ec_wire.specs.Calls.{WireView, Grows, Made}
use Rattle.ec_wire.proofs.Growth.{grows-then}
use Rattle.host_transport.specs.Asking.{AsksOn, host_view, setting_of}
use Rattle.host_transport.specs.Polling.{TakesTurnOn, PollsOn}
use Rattle.host_transport.proofs.WireParts.{view-after, part-at, part-behind}

-- a wait and an ask are a turn
pub turn-taken : (floor : ℕ) (end : Got) (turn : Turn) (old middle new : WireView) → Made (Waited ∷ []) old middle → AsksOn floor comms_request 4 end middle new → turn ≡ turn_of end → TakesTurnOn floor turn old new
turn-taken floor end turn old middle new waiting asks shown =
    record {
      added = waiting.added ++ asks.added;
      grows = grows-then waiting.added asks.added old middle new waiting.grows asks.grows;
      part = record {
        waiting = waiting.added;
        asking = asks.added;
        end = end;
        parts = refl;
        waits = waiting.grows.calls;
        waited = waiting.calls_are;
        asked = part-behind (λ setting view added. Asks setting comms_request 4 view added end) floor waiting.added old middle new waiting.grows asks;
        turn_is = shown;
      };
    }

-- a poll stands where it goes on: what is polled from there with so many turns ends the whole poll
abbrev pub Goes : ℕ → ℕ → Setting → HostView → HostView → List Entry → Type 0
Goes total left setting start view added = (more : List Entry) (end : PollEnd) → Polls left setting view more end → Polls total setting start (added ++ more) end

-- one more turn
goes-on : (total left : ℕ) (setting : Setting) (start view next : HostView) (added first : List Entry) → Goes total (suc left) setting start view added → TakesTurn setting view first Pending → next ≡ view_after first view → Goes total left setting start next (added ++ first)
goes-on total left setting start view next added first goes takes same more end polls =
    let whole : Polls (suc left) setting view (first ++ more) end = (first, more, Pending, refl, takes, subst (λ (v : HostView). Polls left setting v more end) same polls) in
    subst (λ (entries : List Entry). Polls total setting start entries end) (sym (append_assoc added first more)) (goes (first ++ more) end whole)

-- the last turn
ends-with : (total left : ℕ) (setting : Setting) (start view : HostView) (added first : List Entry) (reached : PollEnd) → Goes total (suc left) setting start view added → TakesTurn setting view first (Ends reached) → Polls total setting start (added ++ first) reached
ends-with total left setting start view added first reached goes takes =
    let whole : Polls (suc left) setting view first reached = (first, [], Ends reached, sym (append-nil first), takes, (refl, refl)) in
    goes first reached whole

-- no turn is left
runs-out : (total : ℕ) (setting : Setting) (start view : HostView) (added : List Entry) → Goes total 0 setting start view added → Polls total setting start added Lost
runs-out total setting start view added goes =
    let none : Polls 0 setting view [] Lost = (refl, refl) in
    subst (λ (entries : List Entry). Polls total setting start entries Lost) (append-nil added) (goes [] Lost none)

-- the turns that are left, by another spelling of their number
goes-as : (total left more : ℕ) (setting : Setting) (start view : HostView) (added : List Entry) → more ≡ left → Goes total more setting start view added → Goes total left setting start view added
goes-as total left more setting start view added same goes = subst (λ (n : ℕ). Goes total n setting start view added) same goes

-- a poll on a wire: one more turn
pub poll-goes : (total left more floor : ℕ) (added : List Entry) (old middle new : WireView) → more ≡ suc left → Grows added old middle → Goes total more (setting_of floor old) (host_view old) (host_view middle) added → (turn : TakesTurnOn floor Pending middle new) →
    Goes total left (setting_of floor old) (host_view old) (host_view new) (added ++ turn.added)
poll-goes total left more floor added old middle new one grows goes turn =
    goes-on total left (setting_of floor old) (host_view old) (host_view middle) (host_view new) added turn.added
    (goes-as total (suc left) more (setting_of floor old) (host_view old) (host_view middle) added one goes)
    (part-at (λ setting view entries. TakesTurn setting view entries Pending) floor added old middle new grows turn) (view-after turn.added middle new turn.grows)

-- a poll on a wire: its last turn
pub poll-ends : (left more floor : ℕ) (reached : PollEnd) (added : List Entry) (old middle new : WireView) → more ≡ suc left → Grows added old middle → Goes 1100 more (setting_of floor old) (host_view old) (host_view middle) added → TakesTurnOn floor (Ends reached) middle new →
    PollsOn floor reached old new
poll-ends left more floor reached added old middle new one grows goes turn =
    record {
      added = added ++ turn.added;
      grows = grows-then added turn.added old middle new grows turn.grows;
      part = ends-with 1100 left (setting_of floor old) (host_view old) (host_view middle) added turn.added reached
          (goes-as 1100 (suc left) more (setting_of floor old) (host_view old) (host_view middle) added one goes)
          (part-at (λ setting view entries. TakesTurn setting view entries (Ends reached)) floor added old middle new grows turn);
    }

-- a poll on a wire: no turn is left
pub poll-lost : (more floor : ℕ) (added : List Entry) (old new : WireView) → more ≡ 0 → Grows added old new → Goes 1100 more (setting_of floor old) (host_view old) (host_view new) added → PollsOn floor Lost old new
poll-lost more floor added old new none grows goes =
    record {
      added = added;
      grows = grows;
      part = runs-out 1100 (setting_of floor old) (host_view old) (host_view new) added (goes-as 1100 0 more (setting_of floor old) (host_view old) (host_view new) added none goes);
    }
