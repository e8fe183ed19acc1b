-- A try on a wire, part by part.
use Rattle.std.proofs.Common.{◌≡◌, refl, sym, ap, ◌∙◌, ℕ, ◌≤◌, Bool, true, false, if◌then◌else◌, List, [], append-nil, MatchBool}
use Rattle.ec_model.specs.Packet.{RequestView}
use Rattle.ec_model.specs.Asks.{Got, Asks, has_status}
use Rattle.ec_model.specs.Polls.{PollEnd, Idle, Polls, PollLeads, AsksWhenIdle, poll_turns}
use Rattle.ec_model.specs.Tries.{TryEnd, Final, Again, Answered, SaidNoPower, SaidShort, AsksPastErase, TriesOnce, try_end, resend_request}
use Rattle.ec_wire.specs.Calls.{WireView}
use Rattle.host_transport.specs.Asking.{AsksOn, Leaves, got_of}
use Rattle.host_transport.specs.Polling.{PollsOn}
use Rattle.host_transport.specs.Trying.{try_of, AsksWhenIdleOn, AsksPastEraseOn, TriesOnceOn, TryLeaves}
use Rattle.host_transport.specs.declared.ending.Said.TheVariants.{Ok as OkOf, Status as StatusOf, NoPower as NoPowerOf, Upset as UpsetOf, Short as ShortOf}
use Rattle.host_transport.specs.declared.trying.TryEnd.{TryEnd as TryEndOf}
use Rattle.host_transport.specs.declared.trying.TryEnd.TheVariants.{Final as FinalOf, Again as AgainOf}
use Rattle.host_transport.specs.declared.asking.Got.{Got as EndOf}
use Rattle.host_transport.specs.declared.asking.Got.TheVariants.{NoPower as EndNoPower, Short as EndShort, NoReply as EndNoReply, Status as EndStatus}
use Rattle.host_transport.proofs.WireParts.{part-as, parts-as}

-- an ask behind a poll that ended idle
pub idle-asked : (floor : ℕ) (request : RequestView) (want : ℕ) (end : Got) (old middle new : WireView) → PollsOn floor Idle old middle → AsksOn floor request want end middle new → AsksWhenIdleOn floor request want end old new
idle-asked floor request want end old middle new polls asks =
    parts-as (λ setting view added. Polls poll_turns setting view added Idle) (λ setting view added. Asks setting request want view added end) (λ setting view added. AsksWhenIdle setting request want view added end) floor old middle new polls asks
    (λ added more polled asked. record { polling = added; rest = more; reached = Idle; parts = refl; polled = polled; leads = asked })

-- behind a poll that ended otherwise nothing is asked
pub not-asked : (floor : ℕ) (request : RequestView) (want : ℕ) (reached : PollEnd) (end : Got) (old new : WireView) → PollsOn floor reached old new → ((more : Type 0) → PollLeads reached more [] end) → AsksWhenIdleOn floor request want end old new
not-asked floor request want reached end old new polls leads =
    part-as (λ setting view added. Polls poll_turns setting view added reached) (λ setting view added. AsksWhenIdle setting request want view added end) floor old new polls
    (λ added polled. record { polling = added; rest = []; reached = reached; parts = sym (append-nil added); polled = polled; leads = leads _ })

-- by a test that holds
on-yes : (test : Bool) (more other : Type 0) → test ≡ true → more → MatchBool test more other
on-yes true more other is proof = proof
on-yes false more other is proof = absurd (cc)

-- by one that does not
on-no : (test : Bool) (more other : Type 0) → test ≡ false → other → MatchBool test more other
on-no false more other is proof = proof
on-no true more other is proof = absurd (cc)

-- an ask that was not told of a pending erase
pub past-told : (floor : ℕ) (request : RequestView) (want : ℕ) (end : Got) (old new : WireView) → AsksOn floor request want end old new → has_status 16 end ≡ false → AsksPastEraseOn floor request want end old new
past-told floor request want end old new asks other =
    part-as (λ setting view added. Asks setting request want view added end) (λ setting view added. AsksPastErase setting request want view added end) floor old new asks
    (λ added asked. record { first = added; rest = []; told = end; parts = sym (append-nil added); asked = asked; again = on-no (has_status 16 end) _ _ other (refl, refl) })

-- an ask behind one that was
pub past-again : (floor : ℕ) (request : RequestView) (want : ℕ) (told end : Got) (old middle new : WireView) → AsksOn floor request want told old middle → has_status 16 told ≡ true → AsksWhenIdleOn floor request want end middle new → AsksPastEraseOn floor request want end old new
past-again floor request want told end old middle new asks busy idle =
    parts-as (λ setting view added. Asks setting request want view added told) (λ setting view added. AsksWhenIdle setting request want view added end) (λ setting view added. AsksPastErase setting request want view added end) floor old middle new asks idle
    (λ added more asked again. record { first = added; rest = more; told = told; parts = refl; asked = asked; again = on-yes (has_status 16 told) _ _ busy again })

-- a try whose status is its own
pub try-told : (floor : ℕ) (request : RequestView) (want : ℕ) (told : Got) (end : TryEnd) (old new : WireView) → AsksPastEraseOn floor request want told old new → has_status 8 told ≡ false → end ≡ try_end false told → TriesOnceOn floor request want end old new
try-told floor request want told end old new asks other meant =
    part-as (λ setting view added. AsksPastErase setting request want view added told) (λ setting view added. TriesOnce setting request want view added end) floor old new asks
    (λ added asked. record {
      first = added;
      rest = [];
      told = told;
      last = told;
      parts = sym (append-nil added);
      asked = asked;
      resent = on-no (has_status 8 told) _ _ other (refl, refl);
      end_is = meant ∙ ap (λ (test : Bool). try_end test told) (sym other);
    })

-- a try whose saved status was asked for
pub try-resent : (floor : ℕ) (request : RequestView) (want : ℕ) (told last : Got) (end : TryEnd) (old middle new : WireView) → AsksPastEraseOn floor request want told old middle → has_status 8 told ≡ true → AsksWhenIdleOn floor resend_request 0 last middle new → end ≡ try_end true last →
    TriesOnceOn floor request want end old new
try-resent floor request want told last end old middle new asks going idle meant =
    parts-as (λ setting view added. AsksPastErase setting request want view added told) (λ setting view added. AsksWhenIdle setting resend_request 0 view added last) (λ setting view added. TriesOnce setting request want view added end) floor old middle new asks idle
    (λ added more asked resent. record {
      first = added;
      rest = more;
      told = told;
      last = last;
      parts = refl;
      asked = asked;
      resent = on-yes (has_status 8 told) _ _ going resent;
      end_is = meant ∙ ap (λ (test : Bool). try_end test last) (sym going);
    })

-- an ask with a status left room for a wait
pub room-with : (floor status : ℕ) (end : EndOf) (body : List ℕ) (view : WireView) → has_status status (got_of end body) ≡ true → Leaves floor end view → 1 ≤ view.spare
room-with floor status EndNoPower body view is room = absurd (cc)
room-with floor status EndShort body view is room = absurd (cc)
room-with floor status EndNoReply body view is room = absurd (cc)
room-with floor status (EndStatus other) body view is room = room

-- a try that ends its command with a reply or tries again says neither that power is wanted nor that room is
not-stopped : (unclean three : Bool) (status : ℕ) (body : List ℕ) → ¬ (Final SaidNoPower ≡ (if unclean then Again three else Final (Answered status body)))
not-stopped true three status body = λ same. cc
not-stopped false three status body = λ same. cc

not-short : (unclean three : Bool) (status : ℕ) (body : List ℕ) → ¬ (Final SaidShort ≡ (if unclean then Again three else Final (Answered status body)))
not-short true three status body = λ same. cc
not-short false three status body = λ same. cc

-- what is known of the wire behind a try, by what is known behind its last ask
pub meant-leaves : (floor : ℕ) (resent : Bool) (end : EndOf) (meant : TryEndOf) (view : WireView) → ((body : List ℕ) → try_of meant body ≡ try_end resent (got_of end body)) → ¬ (meant ≡ FinalOf (StatusOf 0)) → Leaves floor end view → TryLeaves floor meant view
meant-leaves floor resent end (AgainOf invalid) view is success leaves = tt
meant-leaves floor resent end (FinalOf UpsetOf) view is success leaves = tt
meant-leaves floor resent end (FinalOf (StatusOf status)) view is success leaves = λ none. success (ap (λ (s : ℕ). FinalOf (StatusOf s)) none)
meant-leaves floor resent EndNoPower (FinalOf OkOf) view is success leaves = let same = is [] in absurd (cc)
meant-leaves floor resent EndShort (FinalOf OkOf) view is success leaves = let same = is [] in absurd (cc)
meant-leaves floor resent EndNoReply (FinalOf OkOf) view is success leaves = let same = is [] in absurd (cc)
meant-leaves floor resent (EndStatus status) (FinalOf OkOf) view is success leaves = leaves
meant-leaves floor resent EndNoPower (FinalOf NoPowerOf) view is success leaves = leaves
meant-leaves floor resent EndShort (FinalOf NoPowerOf) view is success leaves = let same = is [] in absurd (cc)
meant-leaves floor resent EndNoReply (FinalOf NoPowerOf) view is success leaves = let same = is [] in absurd (cc)
meant-leaves floor resent (EndStatus status) (FinalOf NoPowerOf) view is success leaves = absurd (not-stopped _ _ _ _ (is []))
meant-leaves floor resent EndNoPower (FinalOf ShortOf) view is success leaves = let same = is [] in absurd (cc)
meant-leaves floor resent EndShort (FinalOf ShortOf) view is success leaves = leaves
meant-leaves floor resent EndNoReply (FinalOf ShortOf) view is success leaves = let same = is [] in absurd (cc)
meant-leaves floor resent (EndStatus status) (FinalOf ShortOf) view is success leaves = absurd (not-short _ _ _ _ (is []))
