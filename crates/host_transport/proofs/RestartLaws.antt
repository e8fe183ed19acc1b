-- A restart on a wire, one look at a time, and its COLD.
use Rattle.std.proofs.Common.{◌≡◌, refl, sym, subst, ℕ, suc, ◌+◌, ◌<◌, ◌≤◌, true, false, List, [], ◌∷◌, ◌++◌, append_assoc, append-nil}
use Rattle.ec_model.specs.declared.event.Entry.{Entry}
use Rattle.ec_model.specs.Asks.{Setting, Unsent, unsent}
use Rattle.ec_model.specs.HostCalls.{HostView, Waited}
use Rattle.ec_model.specs.Polls.{Pending, Ends, PollEnd, Idle, Lost, turn_of, comms_request, poll_turns}
use Rattle.ec_model.specs.Send.{Cold, Quiet, cold_packet}
use Rattle.ec_model.specs.Tries.{Said, Tries}
use Rattle.ec_wire.specs.Calls.{WireView, Grows, Made}
use Rattle.ec_wire.proofs.Growth.{grows-nil, grows-then}
use Rattle.command_laws.specs.Restarting.{RestartEnd, Sent, NoPower, Short, got_of, Looks, LooksUpTo, LooksLead, ResetsBy, Restarts}
use Rattle.host_framing.specs.Parts.{Quiets}
use Rattle.host_framing.specs.ColdParts.{SendsCold}
use Rattle.host_transport.specs.Asking.{host_view, setting_of}
use Rattle.host_transport.specs.Polling.{turn_view, end_view}
use Rattle.host_transport.specs.Trying.{TriesOn}
use Rattle.host_transport.specs.declared.polling.Turn.{Turn as TurnOf}
use Rattle.host_transport.specs.declared.polling.Turn.TheVariants.{Pending as PendingOf, Ends as EndsOf}
use Rattle.host_transport.specs.Restarting.{LooksOn, LooksUpToOn, ResetsOn, RestartsOn}
use Rattle.host_transport.proofs.AskLaws.{off-unsent, short-unsent, is-sent}
use Rattle.host_transport.proofs.WireParts.{view-after, part-at, part-as, parts-as}

-- a look that shows a pending erase, with its wait
pub looked-pending : (floor : ℕ) (said : Said) (turn : TurnOf) (old middle new : WireView) → TriesOn floor comms_request 4 said old middle → Made (Waited ∷ []) middle new → turn ≡ PendingOf → turn_view turn ≡ turn_of (got_of said) → LooksOn floor (turn_view turn) old new
looked-pending floor said PendingOf old middle new tries waiting pending shown =
    record {
      added = tries.added ++ waiting.added;
      grows = grows-then tries.added waiting.added old middle new tries.grows waiting.grows;
      part = record {
        asking = tries.added;
        waiting = waiting.added;
        said = said;
        parts = refl;
        asked = tries.part;
        turn_is = shown;
        waits = record { waits = waiting.grows.calls; waited = waiting.calls_are };
      };
    }
looked-pending floor said (EndsOf end) old middle new tries waiting pending shown = absurd (cc)

-- a look that ends the looks
pub looked-end : (floor : ℕ) (said : Said) (turn : TurnOf) (old new : WireView) → TriesOn floor comms_request 4 said old new → ¬ (turn ≡ PendingOf) → turn_view turn ≡ turn_of (got_of said) → LooksOn floor (turn_view turn) old new
looked-end floor said PendingOf old new tries other shown = absurd (other refl)
looked-end floor said (EndsOf end) old new tries other shown =
    part-as (λ setting view added. Tries setting comms_request 4 view added said) (λ setting view added. Looks setting view added (Ends (end_view end))) floor old new tries
    (λ added asked. record { asking = added; waiting = []; said = said; parts = sym (append-nil added); asked = asked; turn_is = shown; waits = refl })

-- the looks stand where they go on: what is looked from there, so often at most, ends all of them
abbrev pub GoesOn : ℕ → ℕ → Setting → HostView → HostView → List Entry → Type 0
GoesOn total left setting start view added = (more : List Entry) (end : PollEnd) → LooksUpTo left setting view more end → LooksUpTo total setting start (added ++ more) end

-- the looks that are left, by another spelling of their number
goes-as : (total left more : ℕ) (setting : Setting) (start view : HostView) (added : List Entry) → more ≡ left → GoesOn total more setting start view added → GoesOn total left setting start view added
goes-as total left more setting start view added same goes = subst (λ (n : ℕ). GoesOn total n setting start view added) same goes

-- one more look
pub looks-go : (total left more floor : ℕ) (added : List Entry) (old middle new : WireView) → more ≡ suc left → Grows added old middle → GoesOn total more (setting_of floor old) (host_view old) (host_view middle) added → (look : LooksOn floor Pending middle new) →
    GoesOn total left (setting_of floor old) (host_view old) (host_view new) (added ++ look.added)
looks-go total left more floor added old middle new one grows goes look rest end looks =
    let on = goes-as total (suc left) more (setting_of floor old) (host_view old) (host_view middle) added one goes in
    let behind = subst (λ (view : HostView). LooksUpTo left (setting_of floor old) view rest end) (view-after look.added middle new look.grows) looks in
    let here = part-at (λ setting view entries. Looks setting view entries Pending) floor added old middle new grows look in
    let whole : LooksUpTo (suc left) (setting_of floor old) (host_view middle) (look.added ++ rest) end = (look.added, rest, Pending, refl, here, behind) in
    subst (λ (entries : List Entry). LooksUpTo total (setting_of floor old) (host_view old) entries end) (sym (append_assoc added look.added rest)) (on (look.added ++ rest) end whole)

-- the last look
pub looks-end : (left more floor : ℕ) (reached : PollEnd) (added : List Entry) (old middle new : WireView) → more ≡ suc left → Grows added old middle → GoesOn 1100 more (setting_of floor old) (host_view old) (host_view middle) added → LooksOn floor (Ends reached) middle new →
    LooksUpToOn floor reached old new
looks-end left more floor reached added old middle new one grows goes look =
    let on = goes-as 1100 (suc left) more (setting_of floor old) (host_view old) (host_view middle) added one goes in
    let here = part-at (λ setting view entries. Looks setting view entries (Ends reached)) floor added old middle new grows look in
    let whole : LooksUpTo (suc left) (setting_of floor old) (host_view middle) look.added reached = (look.added, [], Ends reached, sym (append-nil look.added), here, (refl, refl)) in
    record { added = added ++ look.added; grows = grows-then added look.added old middle new grows look.grows; part = on look.added reached whole }

-- no look is left
pub looks-out : (more floor : ℕ) (added : List Entry) (old new : WireView) → more ≡ 0 → Grows added old new → GoesOn 1100 more (setting_of floor old) (host_view old) (host_view new) added → LooksUpToOn floor Lost old new
looks-out more floor added old new none grows goes =
    let on = goes-as 1100 0 more (setting_of floor old) (host_view old) (host_view new) added none goes in
    let whole : LooksUpTo 0 (setting_of floor old) (host_view new) [] Lost = (refl, refl) in
    record { added = added; grows = grows; part = subst (λ (entries : List Entry). LooksUpTo 1100 (setting_of floor old) (host_view old) entries Lost) (append-nil added) (on [] Lost whole) }

-- no COLD is sent from a controller that is off
pub reset-off : (floor : ℕ) (view : WireView) → view.on ≡ false → ResetsOn floor NoPower view view
reset-off floor view off = record {
  added = [];
  grows = grows-nil view;
  part = subst (λ (why : Unsent). ResetsBy why view.bus [] NoPower) (sym (off-unsent view.on view.spare floor off)) (refl, refl);
}

-- nor where the room is too small
pub reset-short : (floor : ℕ) (view : WireView) → view.on ≡ true → view.spare < floor + 1500 → ResetsOn floor Short view view
reset-short floor view on small = record {
  added = [];
  grows = grows-nil view;
  part = subst (λ (why : Unsent). ResetsBy why view.bus [] Short) (sym (short-unsent view.on view.spare floor on small)) (refl, refl);
}

-- it is sent where power and room allow
pub reset-sent : (floor : ℕ) (packet : List ℕ) (old middle new : WireView) → old.on ≡ true → floor + 1500 ≤ old.spare → packet ≡ cold_packet → SendsCold old.bus packet old middle → Quiets middle.bus middle new → ResetsOn floor Sent old new
reset-sent floor packet old middle new on large is sends rests = record {
  added = sends.added ++ rests.added;
  grows = grows-then sends.added rests.added old middle new sends.grows rests.grows;
  part = subst (λ (why : Unsent). ResetsBy why old.bus (sends.added ++ rests.added) Sent) (sym (is-sent old.on old.spare floor on large)) (
    record {
      sending = sends.added;
      resting = rests.added;
      parts = refl;
      sent = subst (λ (bytes : List ℕ). Cold old.bus bytes sends.added) is sends.sent;
      rests = subst (λ bus. Quiet bus rests.added) sends.grows.bus rests.quiet;
    },
    refl,
  );
}

-- behind looks that ended idle
pub restarted : (floor : ℕ) (end : RestartEnd) (old middle new : WireView) → LooksUpToOn floor Idle old middle → ResetsOn floor end middle new → RestartsOn floor end old new
restarted floor end old middle new looks resets =
    parts-as (λ setting view added. LooksUpTo poll_turns setting view added Idle) (λ setting view added. ResetsBy (unsent view setting.floor) setting.bus added end) (λ setting view added. Restarts setting view added end) floor old middle new looks resets
    (λ added more looked reset. record { looking = added; rest = more; reached = Idle; parts = refl; looked = looked; leads = reset })

-- behind looks that ended otherwise nothing is sent
pub not-restarted : (floor : ℕ) (reached : PollEnd) (end : RestartEnd) (old new : WireView) → LooksUpToOn floor reached old new → ((more : Type 0) → LooksLead reached more [] end) → RestartsOn floor end old new
not-restarted floor reached end old new looks leads =
    part-as (λ setting view added. LooksUpTo poll_turns setting view added reached) (λ setting view added. Restarts setting view added end) floor old new looks
    (λ added looked. record { looking = added; rest = []; reached = reached; parts = sym (append-nil added); looked = looked; leads = leads _ })
