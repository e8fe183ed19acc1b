-- Calls on a bench are a run of its controller, and lists of calls join and part.
use Rattle.std.proofs.Common.{◌≡◌, inl, inr, ℕ, refl, sym, ap, ◌∙◌, subst, List, [], ◌∷◌, ◌++◌, append_assoc}
use Rattle.ec_model.specs.declared.event.Access.{Access}
use Rattle.ec_model.specs.declared.event.Event.{Event}
use Rattle.ec_model.specs.declared.event.WorldEvent.{WorldEvent}
use Rattle.ec_model.specs.declared.event.Entry.{Entry}
use Rattle.ec_model.specs.declared.event.Entry.TheVariants.{Step, Mark}
use Rattle.flash_dev.specs.declared.hurt.Hurt.{Hurt}
use Rattle.flash_dev.specs.declared.hurt.Hurt.TheVariants.{Whole, Failed, Cut}
use Rattle.ec_model.specs.Table.{Table, Power, Off, On}
use Rattle.ec_model.specs.Work.{After}
use Rattle.ec_model.specs.Step.{IsStep, EventLeavesBy}
use Rattle.ec_model.specs.Run.{IsRun}
use Rattle.ec_model.specs.Bench.{Bench, BenchCall, Accesses, Waits, Happens, Marks, Arms, ArmsCut, events_among}
use Rattle.ec_model.specs.Played.{EventBegins, PlaysEvents, PlaysAccess, PlaysWait, PlaysBehindDue, Played, PlayedAll}
use Rattle.ec_model.proofs.RunLaws.{run-append}

-- an event that began some operations is a step
pub begins-step : (hurt : Hurt) (begun : ℕ) (table : Table) (event : Event) (power : Power) (after : After) → EventBegins hurt begun table event power after → EventLeavesBy hurt table event power after
begins-step hurt begun table event Off after begins = begins.1
begins-step Whole begun table event (On awake) after begins = begins.1
begins-step Failed begun table event (On awake) after (inl unread) = inl unread.1
begins-step Failed begun table event (On awake) after (inr failed) = inr failed.0
begins-step Cut begun table event (On awake) after begins = begins.0

-- events of the world are a run
events-run : (old : Bench) (events : List Event) (entries : List Entry) (new : Bench) → PlaysEvents old events entries new → IsRun old.table entries new.table
events-run old [] [] new same = ap (λ (bench : Bench). bench.table) same
events-run old [] (entry ∷ entries) new plays = absurd plays
events-run old (event ∷ events) [] new plays = absurd plays
events-run old (event ∷ events) (Mark line ∷ entries) new plays = absurd plays
events-run old (event ∷ events) (Step did answer meant seen hurt ∷ entries) new plays =
    let middle = plays.0 in (
      middle.table,
      subst (λ (e : Event). IsStep old.table (Step e answer meant seen hurt) middle.table) (sym plays.1)
          (begins-step hurt plays.4.begun old.table event old.table.power (record { table = middle.table; answer = answer }) plays.4.step),
      events-run middle events entries new plays.5,
    )

-- the own entry of an access is a step, and so is that of a wait
access-step : (access : Access) (due : List WorldEvent) (old : Bench) (own : Entry) (new : Bench) → PlaysAccess access due old own new → IsStep old.table own new.table
access-step access due old (Step event answer meant seen hurt) new plays = begins-step hurt plays.3.begun old.table event old.table.power (record { table = new.table; answer = answer }) plays.3.step
access-step access due old (Mark line) new plays = absurd plays

wait-step : (due : List WorldEvent) (old : Bench) (own : Entry) (new : Bench) → PlaysWait due old own new → IsStep old.table own new.table
wait-step due old (Step event answer meant seen hurt) new plays = begins-step hurt plays.3.begun old.table event old.table.power (record { table = new.table; answer = answer }) plays.3.step
wait-step due old (Mark line) new plays = absurd plays

-- a call that comes behind the due events
due-run : (Own : List WorldEvent → Bench → Entry → Bench → Type 0) (old : Bench) (entries : List Entry) (new : Bench)
    → ((due : List WorldEvent) (middle : Bench) (own : Entry) → Own due middle own new → IsStep middle.table own new.table)
    → PlaysBehindDue Own old entries new → IsRun old.table entries new.table
due-run Own old entries new step plays =
    rw plays.parts
    (run-append old.table plays.middle.table new.table plays.world (plays.own ∷ [])
    (events-run _ _ plays.world plays.middle plays.events)
    (new.table, step _ plays.middle plays.own plays.own_is, refl))

call-run : (old : Bench) (call : BenchCall) (entries : List Entry) (new : Bench) → Played old call entries new → IsRun old.table entries new.table
call-run old (Accesses access) entries new plays = due-run (PlaysAccess access) old entries new (λ due middle own. access-step access due middle own new) plays
call-run old Waits entries new plays = due-run PlaysWait old entries new (λ due middle own. wait-step due middle own new) plays
call-run old (Happens event) entries new plays = events-run old (events_among (event ∷ [])) entries new plays
call-run old (Marks line) entries new plays = rw plays.0 (new.table, ap (λ (bench : Bench). bench.table) plays.1, refl)
call-run old (Arms left event taken) entries new plays = rw plays.0 (ap (λ (bench : Bench). bench.table) plays.2)
call-run old (ArmsCut left torn) entries new plays = rw plays.0 (ap (λ (bench : Bench). bench.table) plays.1)

-- calls on a bench are a run of its controller
pub calls-run : (old : Bench) (calls : List BenchCall) (entries : List Entry) (new : Bench) → PlayedAll old calls entries new → IsRun old.table entries new.table
calls-run old [] entries new plays = rw plays.0 (ap (λ (bench : Bench). bench.table) plays.1)
calls-run old (call ∷ calls) entries new plays =
    rw plays.3
    (run-append old.table plays.2.table new.table plays.0 plays.1 (call-run old call plays.0 plays.2 plays.4)
    (calls-run plays.2 calls plays.1 new plays.5))

-- two lists of calls, one behind the other
pub calls-append : (old middle new : Bench) (first second : List BenchCall) (before after : List Entry) → PlayedAll old first before middle → PlayedAll middle second after new → PlayedAll old (first ++ second) (before ++ after) new
calls-append old middle new [] second before after plays more =
    rw plays.0 (subst (λ (bench : Bench). PlayedAll bench second after new) plays.1 more)
calls-append old middle new (call ∷ first) second before after plays more =
    (plays.0, plays.1 ++ after, plays.2, ap (λ (entries : List Entry). entries ++ after) plays.3 ∙ append_assoc plays.0 plays.1 after, plays.4, calls-append plays.2 middle new first second plays.1 after plays.5 more)

-- a list of calls, parted
pub calls-split : (old new : Bench) (first second : List BenchCall) (entries : List Entry) → PlayedAll old (first ++ second) entries new
    → (before after : List Entry) × (middle : Bench) × (entries ≡ before ++ after) × PlayedAll old first before middle × PlayedAll middle second after new
calls-split old new [] second entries plays = ([], entries, old, refl, (refl, refl), plays)
calls-split old new (call ∷ first) second entries plays =
    let rest = calls-split plays.2 new first second plays.1 plays.5 in
    (plays.0 ++ rest.0, rest.1, rest.2, plays.3 ∙ ap (λ (more : List Entry). plays.0 ++ more) rest.3 ∙ sym (append_assoc plays.0 rest.0 rest.1), (plays.0, rest.0, plays.2, refl, plays.4, rest.4), rest.5)
