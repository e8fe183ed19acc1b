-- Entries behind others: their calls, their runs, and whether the controller is on behind them.
use Rattle.std.proofs.Common.{◌≡◌, refl, ap, ◌∙◌, subst, ℕ, ◌+◌, Bool, true, cond, List, [], ◌∷◌, ◌++◌, Option, Some, None}
use Rattle.std.specs.Prelude.{count_by}
use Rattle.std.proofs.lemmas.List.Sums.{sum_by-append}
use Rattle.ec_model.specs.declared.event.Event.{Event}
use Rattle.ec_model.specs.declared.event.Event.TheVariants.{Access as AccessEvent, Tick, Reset, Power as PowerEvent, Pin as PinEvent}
use Rattle.ec_model.specs.declared.event.Entry.{Entry}
use Rattle.ec_model.specs.declared.event.Entry.TheVariants.{Step, Mark}
use Rattle.ec_model.specs.HostCalls.{HostCall, call_before, calls_of, are_calls, on_after, on_after_entry}
use Rattle.ec_model.specs.Table.{Table}
use Rattle.ec_model.specs.Run.{IsRun}
use Rattle.ec_wire.specs.Calls.{RunsAlong}

-- an event's call stands before those of both
call_before-append : (event : Event) (meant seen : ℕ) (calls more : List HostCall) → call_before event meant seen (calls ++ more) ≡ call_before event meant seen calls ++ more
call_before-append (AccessEvent access) meant seen calls more = refl
call_before-append Tick meant seen calls more = refl
call_before-append (Reset cause) meant seen calls more = refl
call_before-append (PowerEvent on) meant seen calls more = refl
call_before-append (PinEvent on) meant seen calls more = refl

-- the calls of both
pub calls_of-append : (entries more : List Entry) → calls_of (entries ++ more) ≡ calls_of entries ++ calls_of more
calls_of-append [] more = refl
calls_of-append (Step event answer meant seen hurt ∷ entries) more =
    ap (λ (calls : List HostCall). call_before event meant seen calls) (calls_of-append entries more) ∙ call_before-append event meant seen (calls_of entries) (calls_of more)
calls_of-append (Mark line ∷ entries) more = calls_of-append entries more

-- calls behind calls
pub are_calls-append : (entries more : List Entry) → are_calls entries ≡ true → are_calls more ≡ true → are_calls (entries ++ more) ≡ true
are_calls-append [] more first second = second
are_calls-append (Mark line ∷ entries) more first second = cc
are_calls-append (Step event answer meant seen hurt ∷ []) [] first second = first
are_calls-append (Step event answer meant seen hurt ∷ []) (entry ∷ more) first second = second
are_calls-append (Step event answer meant seen hurt ∷ entry ∷ entries) more first second = are_calls-append (entry ∷ entries) more first second

-- a run behind a run
pub run-append : (entries more : List Entry) (old middle new : Table) → IsRun old entries middle → IsRun middle more new → IsRun old (entries ++ more) new
run-append [] more old middle new first second = subst (λ (table : Table). IsRun table more new) first second
run-append (entry ∷ entries) more old middle new first second = (first.0, first.1, run-append entries more first.0 middle new first.2 second)

-- the same where the tables may be untold
pub runs-append : (entries more : List Entry) (old middle new : Option Table) → RunsAlong entries old middle → RunsAlong more middle new → RunsAlong (entries ++ more) old new
runs-append entries more None None None first second = tt
runs-append entries more None None (Some new) first second = second
runs-append entries more None (Some middle) new first second = absurd first
runs-append entries more (Some old) None new first second = absurd first
runs-append entries more (Some old) (Some middle) None first second = second
runs-append entries more (Some old) (Some middle) (Some new) first second = run-append entries more old middle new first second

-- no entry leaves the table
pub runs-nil : (table : Option Table) → RunsAlong [] table table
runs-nil None = tt
runs-nil (Some table) = refl

-- whether the controller is on behind both
pub on_after-append : (entries more : List Entry) (on : Bool) → on_after (entries ++ more) on ≡ on_after more (on_after entries on)
on_after-append [] more on = refl
on_after-append (entry ∷ entries) more on = on_after-append entries more (on_after_entry entry on)

-- how many of both pass a test
pub count_by-append : (test : Entry → Bool) (entries more : List Entry) → count_by test (entries ++ more) ≡ count_by test entries + count_by test more
count_by-append test entries more = sum_by-append (λ (entry : Entry). cond (test entry) 1 0) entries more
