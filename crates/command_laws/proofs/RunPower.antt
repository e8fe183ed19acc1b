-- Whether the controller is on behind a run, by the entries of the run.
use Rattle.std.proofs.Common.{◌≡◌, refl, sym, ap, ◌∙◌, inl, inr, ℕ, Bool, true, false, List, [], ◌∷◌, Option, Some, None}
use Rattle.ec_types.specs.Tables.{packet_limit}
use Rattle.ec_model.specs.declared.event.Event.{Event}
use Rattle.ec_model.specs.declared.event.Event.TheVariants.{Access, Tick, Reset, Power as PowerEvent, Pin}
use Rattle.ec_model.specs.declared.event.Entry.{Entry}
use Rattle.ec_model.specs.declared.event.Entry.TheVariants.{Step, Mark}
use Rattle.flash_dev.specs.declared.hurt.Hurt.{Hurt}
use Rattle.flash_dev.specs.declared.hurt.Hurt.TheVariants.{Whole, Failed, Cut}
use Rattle.ec_model.specs.declared.live.EraseJob.{EraseJob}
use Rattle.ec_model.specs.declared.live.HashView.{HashView}
use Rattle.ec_model.specs.declared.live.HashView.TheVariants.{Idle, Busy, Done}
use Rattle.ec_model.specs.Answer.{Outcome, Answered, Restarts}
use Rattle.ec_model.specs.Bus.{BusAnswer, bus_step, due_now, due_at_tick, kind_of}
use Rattle.ec_model.specs.Handle.{handled}
use Rattle.ec_model.specs.HostCalls.{on_after, on_after_entry, on_after_event}
use Rattle.ec_model.specs.Run.{IsRun}
use Rattle.ec_model.specs.Step.{IsStep, EventLeavesBy, WorkLeaves, unread, unfinished, after_unread}
use Rattle.ec_model.specs.Table.{Table, Core, Power, Off, On, Awake, core_of, is_on}
use Rattle.ec_model.specs.WholeStep.{after_outcome, worked, stepped_by}
use Rattle.ec_model.specs.Work.{After, Work, Rest, Serve, EraseNext, HashNext, Boot, Stop, SetPin, bus_after, hash_work, idle_work, is_power_on, lost_answer, serve_or, work_on}

-- whether some work takes the power from a controller
abbrev is_stop : Work → Bool
is_stop Stop = true
is_stop other = false

-- a controller that is on stays on in any other work
worked-on : (core : Core) (bus : BusAnswer) (lost : ℕ) (work : Work) → is_stop work ≡ false → is_on (worked core bus lost work).table.power ≡ true
worked-on core bus lost Rest going = refl
worked-on core bus lost (Serve request) going = served (handled core (packet_limit (kind_of bus.state)) request) where
  served : (outcome : Outcome) → is_on (after_outcome core bus lost outcome).table.power ≡ true
  served (Answered after status body) = refl
  served Restarts = refl
worked-on core bus lost (EraseNext job) going = refl
worked-on core bus lost HashNext going = refl
worked-on core bus lost (Boot cause) going = refl
worked-on core bus lost Stop going = cc
worked-on core bus lost (SetPin on) going = refl

-- the work of an access or of a tick is none that does
serve-going : (due : Option (List ℕ)) (other : Work) → is_stop other ≡ false → is_stop (serve_or due other) ≡ false
serve-going (Some request) other going = refl
serve-going None other going = going

-- nor is that of the hash
hash-going : (hash : HashView) → is_stop (hash_work hash) ≡ false
hash-going Idle = refl
hash-going (Busy at size left) = refl
hash-going (Done at size digest) = refl

-- nor is what is done where no request is due
idle-going : (job : Option EraseJob) (hash : HashView) → is_stop (idle_work job hash) ≡ false
idle-going (Some job) hash = refl
idle-going None hash = hash-going hash

-- whether the controller is on behind an event in which nothing fails
on-by : (event : Event) (power : Power) (on : Bool) (table : Table) → table.power ≡ power → is_on power ≡ on → is_on (stepped_by table event power).table.power ≡ on_after_event event on
on-by (Access access) Off on table same on_is = ap is_on same ∙ on_is
on-by Tick Off on table same on_is = ap is_on same ∙ on_is
on-by (Reset cause) Off on table same on_is = ap is_on same ∙ on_is
on-by (PowerEvent true) Off on table same on_is = refl
on-by (PowerEvent false) Off on table same on_is = ap is_on same
on-by (Pin pin) Off on table same on_is = on_is
on-by (Access access) (On awake) on table same on_is =
    worked-on (core_of table awake) (bus_after awake.bus (Access access)) (lost_answer (Access access)) (work_on awake (Access access)) (serve-going (due_now (bus_step awake.bus access).state) Rest refl) ∙ on_is
on-by Tick (On awake) on table same on_is =
    worked-on (core_of table awake) (bus_after awake.bus Tick) (lost_answer Tick) (work_on awake Tick) (serve-going (due_at_tick awake.bus) (idle_work awake.live.erase awake.live.hash) (idle-going awake.live.erase awake.live.hash)) ∙ on_is
on-by (Reset cause) (On awake) on table same on_is = on_is
on-by (PowerEvent true) (On awake) on table same on_is = refl
on-by (PowerEvent false) (On awake) on table same on_is = refl
on-by (Pin pin) (On awake) on table same on_is = on_is

-- an event that is the power-on leaves the power on
powered-on : (event : Event) (before : Bool) → is_power_on event ≡ true → on_after_event event before ≡ true
powered-on (PowerEvent on) before same = same
powered-on (Access access) before same = cc
powered-on Tick before same = cc
powered-on (Reset cause) before same = cc
powered-on (Pin on) before same = cc

-- a request that could not read the flash leaves the power on
after_unread-on : (core : Core) (bus : BusAnswer) (lost : ℕ) (outcome : Outcome) → is_on (after_unread core bus lost outcome).table.power ≡ true
after_unread-on core bus lost (Answered after status body) = refl
after_unread-on core bus lost Restarts = refl

-- and so does any work that could not
unread-on : (core : Core) (bus : BusAnswer) (lost : ℕ) (work : Work) → is_on (unread core bus lost work).table.power ≡ true
unread-on core bus lost (Serve request) = after_unread-on core bus lost (handled core (packet_limit _) request)
unread-on core bus lost HashNext = refl
unread-on core bus lost (Boot cause) = refl
unread-on core bus lost other = refl

-- and so does an operation that failed
unfinished-on : (core : Core) (bus : BusAnswer) (work : Work) → is_on (unfinished core bus work).table.power ≡ true
unfinished-on core bus (Serve request) = refl
unfinished-on core bus other = refl

-- nothing fails in an event that takes the power from a controller that is on
failed-stays : (event : Event) (core : Core) (awake : Awake) (bus : BusAnswer) (lost : ℕ) (after : After) → WorkLeaves Failed core bus lost (work_on awake event) after → on_after_event event true ≡ true
failed-stays (PowerEvent false) core awake bus lost after (inl failed) = let reads = failed.reads in cc
failed-stays (PowerEvent false) core awake bus lost after (inr failed) = let there = failed.stops.is_there in cc
failed-stays (PowerEvent true) core awake bus lost after leaves = refl
failed-stays (Access access) core awake bus lost after leaves = refl
failed-stays Tick core awake bus lost after leaves = refl
failed-stays (Reset cause) core awake bus lost after leaves = refl
failed-stays (Pin on) core awake bus lost after leaves = refl

-- work in which something failed leaves the power on
failed-on : (core : Core) (bus : BusAnswer) (lost : ℕ) (work : Work) (after : After) → WorkLeaves Failed core bus lost work after → is_on after.table.power ≡ true
failed-on core bus lost work after (inl failed) = ap (λ (a : After). is_on a.table.power) failed.leaves ∙ unread-on core bus lost work
failed-on core bus lost work after (inr failed) = ap (λ (a : After). is_on a.table.power) failed.leaves ∙ unfinished-on _ bus work

-- an event leaves the power as its entry says
event-power : (hurt : Hurt) (table : Table) (event : Event) (power : Power) (answer meant seen : ℕ) (after : After) → table.power ≡ power → EventLeavesBy hurt table event power after →
    is_on after.table.power ≡ on_after_entry (Step event answer meant seen hurt) (is_on power)
event-power Whole table event Off answer meant seen after same leaves = ap (λ (a : After). is_on a.table.power) leaves ∙ on-by event Off false table same refl
event-power Failed table event Off answer meant seen after same leaves = ap (λ (a : After). is_on a.table.power) leaves.1 ∙ sym (powered-on event false leaves.0)
event-power Cut table event Off answer meant seen after same leaves = absurd leaves
event-power Whole table event (On awake) answer meant seen after same leaves = ap (λ (a : After). is_on a.table.power) leaves ∙ on-by event (On awake) true table same refl
event-power Failed table event (On awake) answer meant seen after same leaves =
    failed-on (core_of table awake) (bus_after awake.bus event) (lost_answer event) (work_on awake event) after leaves
    ∙ sym (failed-stays event (core_of table awake) awake (bus_after awake.bus event) (lost_answer event) after leaves)
event-power Cut table event (On awake) answer meant seen after same leaves = ap (λ (a : After). is_on a.table.power) leaves.leaves

-- a step leaves the power as its entry says
step-power : (old : Table) (entry : Entry) (new : Table) → IsStep old entry new → is_on new.power ≡ on_after_entry entry (is_on old.power)
step-power old (Step event answer meant seen hurt) new step = event-power hurt old event old.power answer meant seen (record { table = new; answer = answer }) refl step
step-power old (Mark line) new step = ap (λ (t : Table). is_on t.power) step

-- a run leaves the power as its entries say
pub run-power : (old : Table) (entries : List Entry) (new : Table) → IsRun old entries new → is_on new.power ≡ on_after entries (is_on old.power)
run-power old [] new run = ap (λ (t : Table). is_on t.power) run
run-power old (entry ∷ entries) new run = run-power run.0 entries new run.2 ∙ ap (on_after entries) (step-power old entry run.0 run.1)
