-- Where the flash of a bench counted nothing, the calls and the journal determine what they leave.
use Rattle.std.proofs.Common.{◌≡◌, refl, sym, ap, ◌∙◌, subst, ℕ, suc, ◌+◌, inl, inr, ◌⊎◌, List, [], ◌∷◌, ◌++◌, length, length-append, take, drop, Option, Some, None}
use Rattle.std.proofs.Math.Seq.{take-append_seam, drop-append_seam}
use Rattle.flash_dev.specs.Flash.{overwritten}
use Rattle.flash_dev.specs.Counts.{Rose}
use Rattle.ec_model.specs.declared.event.Access.{Access}
use Rattle.ec_model.specs.declared.event.Event.{Event}
use Rattle.ec_model.specs.declared.event.WorldEvent.{WorldEvent}
use Rattle.ec_model.specs.declared.event.Entry.{Entry}
use Rattle.ec_model.specs.declared.event.Entry.TheVariants.{Step, Mark}
use Rattle.flash_dev.specs.declared.hurt.Hurt.{Hurt}
use Rattle.flash_dev.specs.declared.hurt.Hurt.TheVariants.{Whole, Failed, Cut}
use Rattle.ec_model.specs.Table.{Table, Power, Off, On, off_table}
use Rattle.ec_model.specs.Bus.{kind_of}
use Rattle.ec_model.specs.Work.{After, operations_of, operations_by_power, bus_after}
use Rattle.ec_model.specs.Operations.{Operation, operation_range, operated_all}
use Rattle.ec_model.specs.Step.{IsStep, EventLeavesBy}
use Rattle.ec_model.specs.Bench.{Armed, ArmedCut, Bench, BenchCall, CountsNothing, Accesses, Waits, Happens, Marks, Arms, ArmsCut, due_events, events_among, cut_after}
use Rattle.ec_model.specs.Played.{EventBegins, TornAt, Falls, CutFalls, PlaysEntry, PlaysEvents, PlaysAccess, PlaysWait, PlaysBehindDue, Played, PlayedAll}
use Rattle.ec_model.proofs.StepLaws.{step-stepped}
use Rattle.ec_model.proofs.PlayRuns.{begins-step}
use Rattle.ec_model.proofs.PlayCounts.{Later, entry-later, events-later, access-later, wait-later, disarmed, call-later, calls-later, still-first, still-rest, count-same}

-- a cut that falls leaves one flash
torn-same : (k : ℕ) (torn : List ℕ) (Faulty Faulted : Type 0) (operations : List Operation) (old one other : List ℕ) → ¬ Faulty → ¬ Faulted
    → TornAt k torn Faulty operations old one → TornAt k torn Faulted operations old other → one ≡ other
torn-same k torn Faulty Faulted operations old one other still again first second =
    leaves first.leaves second.leaves where
      result : Operation → List ℕ
      result stopped = overwritten (operation_range stopped).at (take (operation_range stopped).size torn) (operated_all (take k operations) old)

      some : (a b : Operation) → Some a ≡ Some b → a ≡ b
      some a b same = cc

      leaves : (one ≡ result first.stopped) ⊎ Faulty → (other ≡ result second.stopped) ⊎ Faulted → one ≡ other
      leaves (inl one_is) (inl other_is) = one_is ∙ ap result (some first.stopped second.stopped (sym first.is_there ∙ second.is_there)) ∙ sym other_is
      leaves (inr faulty) right = absurd (still faulty)
      leaves (inl one_is) (inr faulty) = absurd (again faulty)

-- an armed cut that falls leaves one flash, behind so many operations
falls-same : (cut : Option ArmedCut) (Faulty Faulted : Type 0) (begun other_begun : ℕ) (operations : List Operation) (old one other : List ℕ) → ¬ Faulty → ¬ Faulted
    → Falls cut begun → Falls cut other_begun → CutFalls Faulty cut begun Cut operations old one → CutFalls Faulted cut other_begun Cut operations old other
    → (one ≡ other) × (begun ≡ other_begun)
falls-same None Faulty Faulted begun other_begun operations old one other still again first second once twice = absurd first
falls-same (Some cut) Faulty Faulted begun other_begun operations old one other still again first second once twice =
    (torn-same _ cut.torn Faulty Faulted operations old one other still again (once.1 first).1 (twice.1 second).1, first.1 ∙ sym second.1)

-- a step that is cut leaves one table for one flash, by whether the controller is on
cut-same : (old : Table) (event : Event) (power : Power) (one other : After) → EventLeavesBy Cut old event power one → EventLeavesBy Cut old event power other
    → one.table.flash ≡ other.table.flash → one.table ≡ other.table
cut-same old event Off one other first second same = absurd first
cut-same old event (On awake) one other first second same =
    let kind = kind_of (bus_after awake.bus event).state in
    let flash = sym (ap (λ (after : After). after.table.flash) first.leaves) ∙ same ∙ ap (λ (after : After). after.table.flash) second.leaves in
    ap (λ (after : After). after.table) first.leaves ∙ ap (λ (bytes : List ℕ). off_table bytes old.pin kind) flash ∙ sym (ap (λ (after : After). after.table) second.leaves)

-- an entry of a bench is a step of its controller
step-of : (old : Bench) (event : Event) (answer meant seen : ℕ) (hurt : Hurt) (new : Bench) → PlaysEntry old event answer meant seen hurt new → IsStep old.table (Step event answer meant seen hurt) new.table
step-of old event answer meant seen hurt new plays = begins-step hurt plays.begun old.table event old.table.power (record { table = new.table; answer = answer }) plays.step

-- a whole step began all operations of its event
whole-begun : (begun : ℕ) (table : Table) (event : Event) (power : Power) (after : After) → EventBegins Whole begun table event power after → begun ≡ length (operations_by_power table event power)
whole-begun begun table event Off after begins = begins.0
whole-begun begun table event (On awake) after begins = begins.0

-- two benches are one where all that they have is
bench-same : (one other : Bench) → one.table ≡ other.table → one.armed ≡ other.armed → one.cut ≡ other.cut → one.faults ≡ other.faults → one.cuts ≡ other.cuts → one ≡ other
bench-same one other table armed cut faults cuts =
    ap (λ (t : Table). made t one.armed one.cut one.faults one.cuts) table
    ∙ ap (λ (a : List Armed). made other.table a one.cut one.faults one.cuts) armed
    ∙ ap (λ (c : Option ArmedCut). made other.table other.armed c one.faults one.cuts) cut
    ∙ ap (λ (n : ℕ). made other.table other.armed other.cut n one.cuts) faults
    ∙ ap (λ (n : ℕ). made other.table other.armed other.cut other.faults n) cuts where
      made : Table → List Armed → Option ArmedCut → ℕ → ℕ → Bench
      made table armed cut faults cuts = record { table = table; armed = armed; cut = cut; faults = faults; cuts = cuts }

-- two entries that were played so, and counted nothing, are one once their tables and their operations are
entry-same-by : (old : Bench) (event : Event) (answer meant seen : ℕ) (hurt : Hurt) (one other : Bench) → CountsNothing old one → CountsNothing old other
    → (first : PlaysEntry old event answer meant seen hurt one) (second : PlaysEntry old event answer meant seen hurt other)
    → one.table ≡ other.table → first.begun ≡ second.begun → one ≡ other
entry-same-by old event answer meant seen hurt one other still again first second table begun =
    bench-same one other table (first.armed_is ∙ sym second.armed_is)
    (first.cut_is ∙ ap (λ (n : ℕ). cut_after n old.cut) begun ∙ sym second.cut_is)
    (count-same old.faults one.faults first.faults_later still.faults ∙ sym (count-same old.faults other.faults second.faults_later again.faults))
    (count-same old.cuts one.cuts first.cuts_later still.cuts ∙ sym (count-same old.cuts other.cuts second.cuts_later again.cuts))

-- the same of a cut entry, by what cut it
cut-entry-same : (old : Bench) (event : Event) (answer meant seen : ℕ) (one other : Bench) → CountsNothing old one → CountsNothing old other
    → (first : PlaysEntry old event answer meant seen Cut one) (second : PlaysEntry old event answer meant seen Cut other)
    → Falls old.cut first.begun ⊎ Rose old.cuts one.cuts → Falls old.cut second.begun ⊎ Rose old.cuts other.cuts → one ≡ other
cut-entry-same old event answer meant seen one other still again first second (inr rose) cause = absurd (still.cuts rose)
cut-entry-same old event answer meant seen one other still again first second (inl falls) (inr rose) = absurd (again.cuts rose)
cut-entry-same old event answer meant seen one other still again first second (inl falls) (inl fell) =
    let same = falls-same old.cut (Rose old.faults one.faults) (Rose old.faults other.faults) first.begun second.begun (operations_of old.table event) old.table.flash one.table.flash other.table.flash still.faults again.faults falls fell first.falls second.falls in
    entry-same-by old event answer meant seen Cut one other still again first second
    (cut-same old.table event old.table.power (record { table = one.table; answer = answer }) (record { table = other.table; answer = answer })
    (step-of old event answer meant seen Cut one first) (step-of old event answer meant seen Cut other second) same.0)
    same.1

entry-same : (old : Bench) (event : Event) (answer meant seen : ℕ) (hurt : Hurt) (one other : Bench) → CountsNothing old one → CountsNothing old other
    → PlaysEntry old event answer meant seen hurt one → PlaysEntry old event answer meant seen hurt other → one ≡ other
entry-same old event answer meant seen Whole one other still again first second =
    entry-same-by old event answer meant seen Whole one other still again first second
    (ap (λ (after : After). after.table)
    (step-stepped old.table event answer meant seen one.table (step-of old event answer meant seen Whole one first)
    ∙ sym (step-stepped old.table event answer meant seen other.table (step-of old event answer meant seen Whole other second))))
    (whole-begun first.begun old.table event old.table.power _ first.step ∙ sym (whole-begun second.begun old.table event old.table.power _ second.step))
entry-same old event answer meant seen Failed one other still again first second = absurd (still.faults first.cause)
entry-same old event answer meant seen Cut one other still again first second = cut-entry-same old event answer meant seen one other still again first second first.cause second.cause

-- events of the world along one list of entries
events-same : (old : Bench) (events : List Event) (entries : List Entry) (one other : Bench) → CountsNothing old one → CountsNothing old other
    → PlaysEvents old events entries one → PlaysEvents old events entries other → one ≡ other
events-same old [] [] one other still again first second = first ∙ sym second
events-same old [] (entry ∷ entries) one other still again first second = absurd first
events-same old (event ∷ events) [] one other still again first second = absurd first
events-same old (event ∷ events) (Mark line ∷ entries) one other still again first second = absurd first
events-same old (event ∷ events) (Step did answer meant seen hurt ∷ entries) one other still again first second =
    let middle = first.0 in
    let rest = events-later middle events entries one first.5 in
    let same = entry-same old event answer meant seen hurt middle second.0 (still-first old middle one rest still) (still-first old second.0 other (events-later second.0 events entries other second.5) again) first.4 second.4 in
    let begins = entry-later old event answer meant seen hurt middle first.4 in
    events-same middle events entries one other (still-rest old middle one begins still) (still-rest old middle other begins again) first.5
    (subst (λ (bench : Bench). PlaysEvents bench events entries other) (sym same) second.5)

access-same : (access : Access) (due : List WorldEvent) (old : Bench) (own : Entry) (one other : Bench) → CountsNothing old one → CountsNothing old other
    → PlaysAccess access due old own one → PlaysAccess access due old own other → one ≡ other
access-same access due old (Step event answer meant seen hurt) one other still again first second = entry-same old event answer meant seen hurt one other still again first.3 second.3
access-same access due old (Mark line) one other still again first second = absurd first

wait-same : (due : List WorldEvent) (old : Bench) (own : Entry) (one other : Bench) → CountsNothing old one → CountsNothing old other
    → PlaysWait due old own one → PlaysWait due old own other → one ≡ other
wait-same due old (Step event answer meant seen hurt) one other still again first second = entry-same old event answer meant seen hurt one other still again first.3 second.3
wait-same due old (Mark line) one other still again first second = absurd first

-- each event has one entry
length-events : (old : Bench) (events : List Event) (entries : List Entry) (new : Bench) → PlaysEvents old events entries new → length entries ≡ length events
length-events old [] [] new same = refl
length-events old [] (entry ∷ entries) new plays = absurd plays
length-events old (event ∷ events) [] new plays = absurd plays
length-events old (event ∷ events) (Mark line ∷ entries) new plays = absurd plays
length-events old (event ∷ events) (Step did answer meant seen hurt ∷ entries) new plays = ap (λ (n : ℕ). suc n) (length-events plays.0 events entries new plays.5)

-- two partings of a list at one place
parts-same : (entries front back other_front other_back : List Entry) → entries ≡ front ++ back → entries ≡ other_front ++ other_back → length front ≡ length other_front
    → (front ≡ other_front) × (back ≡ other_back)
parts-same entries front back other_front other_back first second same =
    let whole = sym first ∙ second in (
      sym (take-append_seam front back) ∙ ap (λ (n : ℕ). take n (front ++ back)) same ∙ ap (λ (xs : List Entry). take (length other_front) xs) whole ∙ take-append_seam other_front other_back,
      sym (drop-append_seam front back) ∙ ap (λ (n : ℕ). drop n (front ++ back)) same ∙ ap (λ (xs : List Entry). drop (length other_front) xs) whole ∙ drop-append_seam other_front other_back,
    )

-- a list of one entry
only-same : (one other : Entry) → one ∷ [] ≡ other ∷ [] → one ≡ other
only-same one other same = cc

-- a call that comes behind the due events
due-same : (Own : List WorldEvent → Bench → Entry → Bench → Type 0) (old : Bench) (entries : List Entry) (one other : Bench)
    → ((due : List WorldEvent) (middle : Bench) (own : Entry) (new : Bench) → Own due middle own new → Later middle new)
    → ((due : List WorldEvent) (middle : Bench) (own : Entry) (new another : Bench) → CountsNothing middle new → CountsNothing middle another → Own due middle own new → Own due middle own another → new ≡ another)
    → CountsNothing old one → CountsNothing old other → PlaysBehindDue Own old entries one → PlaysBehindDue Own old entries other → one ≡ other
due-same Own old entries one other own_later own_same still again first second =
    let due = due_events old.armed in
    let events = events_among due in
    let start = disarmed old in
    let parts = parts-same entries first.world (first.own ∷ []) second.world (second.own ∷ []) first.parts second.parts
    (length-events start events first.world first.middle first.events ∙ sym (length-events start events second.world second.middle second.events)) in
    let quiet : CountsNothing start one = record { faults = still.faults; cuts = still.cuts } in
    let calm : CountsNothing start other = record { faults = again.faults; cuts = again.cuts } in
    let moved = subst (λ (world : List Entry). PlaysEvents start events world second.middle) (sym parts.0) second.events in
    let same = events-same start events first.world first.middle second.middle
    (still-first start first.middle one (own_later due first.middle first.own one first.own_is) quiet)
    (still-first start second.middle other (own_later due second.middle second.own other second.own_is) calm)
    first.events moved in
    let begins = events-later start events first.world first.middle first.events in
    let own = subst (λ (bench : Bench). Own due bench first.own other) (sym same)
    (subst (λ (entry : Entry). Own due second.middle entry other) (sym (only-same first.own second.own parts.1)) second.own_is) in
    own_same due first.middle first.own one other (still-rest start first.middle one begins quiet) (still-rest start first.middle other begins calm) first.own_is own

call-same : (old : Bench) (call : BenchCall) (entries : List Entry) (one other : Bench) → CountsNothing old one → CountsNothing old other
    → Played old call entries one → Played old call entries other → one ≡ other
call-same old (Accesses access) entries one other still again first second = due-same (PlaysAccess access) old entries one other (access-later access) (access-same access) still again first second
call-same old Waits entries one other still again first second = due-same PlaysWait old entries one other wait-later wait-same still again first second
call-same old (Happens event) entries one other still again first second = events-same old (events_among (event ∷ [])) entries one other still again first second
call-same old (Marks line) entries one other still again first second = first.1 ∙ sym second.1
call-same old (Arms left event taken) entries one other still again first second = first.2 ∙ sym second.2
call-same old (ArmsCut left torn) entries one other still again first second = first.1 ∙ sym second.1

-- how many entries a call has
abbrev call_length : Bench → BenchCall → ℕ
call_length old (Accesses access) = length (events_among (due_events old.armed)) + 1
call_length old Waits = length (events_among (due_events old.armed)) + 1
call_length old (Happens event) = length (events_among (event ∷ []))
call_length old (Marks line) = 1
call_length old (Arms left event taken) = 0
call_length old (ArmsCut left torn) = 0

length-due : (Own : List WorldEvent → Bench → Entry → Bench → Type 0) (old : Bench) (entries : List Entry) (new : Bench) → PlaysBehindDue Own old entries new
    → length entries ≡ length (events_among (due_events old.armed)) + 1
length-due Own old entries new plays =
    ap (λ (xs : List Entry). length xs) plays.parts ∙ length-append plays.world (plays.own ∷ [])
    ∙ ap (λ (n : ℕ). n + 1) (length-events (disarmed old) (events_among (due_events old.armed)) plays.world plays.middle plays.events)

length-call : (old : Bench) (call : BenchCall) (entries : List Entry) (new : Bench) → Played old call entries new → length entries ≡ call_length old call
length-call old (Accesses access) entries new plays = length-due (PlaysAccess access) old entries new plays
length-call old Waits entries new plays = length-due PlaysWait old entries new plays
length-call old (Happens event) entries new plays = length-events old (events_among (event ∷ [])) entries new plays
length-call old (Marks line) entries new plays = ap (λ (xs : List Entry). length xs) plays.0
length-call old (Arms left event taken) entries new plays = ap (λ (xs : List Entry). length xs) plays.0
length-call old (ArmsCut left torn) entries new plays = ap (λ (xs : List Entry). length xs) plays.0

-- where nothing was counted, the calls and the journal determine the bench
pub calls-same : (old : Bench) (calls : List BenchCall) (entries : List Entry) (one other : Bench) → CountsNothing old one → CountsNothing old other
    → PlayedAll old calls entries one → PlayedAll old calls entries other → one ≡ other
calls-same old [] entries one other still again first second = first.1 ∙ sym second.1
calls-same old (call ∷ calls) entries one other still again first second =
    let middle = first.2 in
    let parts = parts-same entries first.0 first.1 second.0 second.1 first.3 second.3 (length-call old call first.0 middle first.4 ∙ sym (length-call old call second.0 second.2 second.4)) in
    let moved = subst (λ (front : List Entry). Played old call front second.2) (sym parts.0) second.4 in
    let same = call-same old call first.0 middle second.2
    (still-first old middle one (calls-later middle calls first.1 one first.5) still)
    (still-first old second.2 other (calls-later second.2 calls second.1 other second.5) again) first.4 moved in
    let begins = call-later old call first.0 middle first.4 in
    let rest = subst (λ (bench : Bench). PlayedAll bench calls first.1 other) (sym same)
    (subst (λ (back : List Entry). PlayedAll second.2 calls back other) (sym parts.1) second.5) in
    calls-same middle calls first.1 one other (still-rest old middle one begins still) (still-rest old middle other begins again) first.5 rest
