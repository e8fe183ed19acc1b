-- After a wait, and along reads of ports, no request waits for a tick, whatever the world does.
use Rattle.std.proofs.Common.{◌≡◌, refl, sym, ap, ◌∙◌, subst, ℕ, Bool, true, false, ◌||◌, ◌==◌, ◌⊎◌, inl, inr, if◌then◌else◌, List, [], ◌∷◌, length, arith, Option, Some, None, bit_and}
use Rattle.std.specs.List.{list_all}
use Rattle.std.specs.Prelude.{is_some}
use Rattle.std.proofs.lemmas.Bool.Decides.{eqb_tells}
use Rattle.ec_types.specs.declared.bus.BusKind.{BusKind}
use Rattle.ec_types.specs.declared.bus.BusKind.TheVariants.{Lpc, I2c, Spi}
use Rattle.ec_model.specs.declared.event.Access.{Access}
use Rattle.ec_model.specs.declared.event.Access.TheVariants.{PortOut, PortIn, I2cStartWrite, I2cStartRead, I2cWrite, I2cRead, I2cStop, SpiSelect, SpiByte, SpiDeselect}
use Rattle.ec_model.specs.declared.event.Event.{Event}
use Rattle.ec_model.specs.declared.event.Event.TheVariants.{Access as AccessEvent, Tick, Reset, Power as PowerEvent, Pin as PinEvent}
use Rattle.ec_model.specs.declared.event.Entry.{Entry}
use Rattle.ec_model.specs.declared.event.Entry.TheVariants.{Step, Mark}
use Rattle.flash_dev.specs.declared.hurt.Hurt.{Hurt}
use Rattle.flash_dev.specs.declared.hurt.Hurt.TheVariants.{Whole, Failed, Cut}
use Rattle.ec_model.specs.Packet.{response_packet}
use Rattle.ec_model.specs.Bus.{BusState, BusAnswer, OnLpc, OnI2c, OnSpi, LpcState, fresh_bus, kind_of, bus_step, due_at_tick, replied}
use Rattle.ec_model.specs.HostCalls.{HostCall, call_before, calls_of}
use Rattle.ec_model.specs.Run.{IsRun}
use Rattle.ec_model.specs.Table.{Table, Awake, Power, Off, On, Core, Valid, IsPowerValid, IsBusValid, core_of}
use Rattle.ec_model.specs.Answer.{Outcome, Answered, Restarts}
use Rattle.ec_types.specs.Tables.{packet_limit}
use Rattle.ec_model.specs.Handle.{handled}
use Rattle.ec_model.specs.Work.{After, Work, Rest, Serve, EraseNext, HashNext, Boot, Stop, SetPin, serve_or, idle_work, work_on, bus_after, lost_answer}
use Rattle.ec_model.specs.WholeStep.{after_outcome}
use Rattle.ec_model.specs.Step.{after_unread, WorkLeaves, OffLeaves, EventLeavesBy}
use Rattle.ec_model.proofs.ValidEvents.{step-valid}
use Rattle.exchange_laws.specs.Resting.{is_waiting, Rests, is_port_read, ends_resting}

-- no request waits on a bus
abbrev rests : BusState → Type 0
rests bus = is_some (due_at_tick bus) ≡ false

-- a bus with its reply
replied-rests : (packet : List ℕ) (bus : BusState) → rests (replied packet bus)
replied-rests packet (OnLpc state) = refl
replied-rests packet (OnI2c state) = refl
replied-rests packet (OnSpi state) = refl

-- a bus after a boot
fresh-rests : (kind : BusKind) → rests (fresh_bus kind)
fresh-rests Lpc = refl
fresh-rests I2c = refl
fresh-rests Spi = refl

-- a request that was served
outcome-rests : (core : Core) (bus : BusAnswer) (lost : ℕ) (outcome : Outcome) → Rests (after_outcome core bus lost outcome).table
outcome-rests core bus lost (Answered after status body) = replied-rests (response_packet status body) bus.state
outcome-rests core bus lost Restarts = fresh-rests (kind_of bus.state)

-- a request during which a read failed
unread-rests : (core : Core) (bus : BusAnswer) (lost : ℕ) (outcome : Outcome) → Rests (after_unread core bus lost outcome).table
unread-rests core bus lost (Answered after status body) = replied-rests (response_packet 2 []) bus.state
unread-rests core bus lost Restarts = fresh-rests (kind_of bus.state)

-- the same table, written otherwise
rests-as : (after other : After) → after ≡ other → Rests other.table → Rests after.table
rests-as after other same at = ap (λ (a : After). is_waiting a.table.power) same ∙ at

-- a request, whatever failed in it
served-rests : (hurt : Hurt) (core : Core) (bus : BusAnswer) (lost : ℕ) (request : List ℕ) (after : After) → WorkLeaves hurt core bus lost (Serve request) after → Rests after.table
served-rests Whole core bus lost request after leaves = rests-as after _ leaves (outcome-rests core bus lost (handled core (packet_limit (kind_of bus.state)) request))
served-rests Failed core bus lost request after (inl unread) = rests-as after _ unread.leaves (unread-rests core bus lost (handled core (packet_limit (kind_of bus.state)) request))
served-rests Failed core bus lost request after (inr unfinished) = rests-as after _ unfinished.leaves (replied-rests (response_packet 2 []) bus.state)
served-rests Cut core bus lost request after cut = rests-as after _ cut.leaves refl

-- other work, whatever failed in it, from a bus on which no request waits
pub kept-rests : (hurt : Hurt) (core : Core) (bus : BusAnswer) (lost : ℕ) (work : Work) (after : After) → rests bus.state → WorkLeaves hurt core bus lost work after → Rests after.table
kept-rests hurt core bus lost (Serve request) after at leaves = served-rests hurt core bus lost request after leaves
kept-rests Cut core bus lost work after at cut = rests-as after _ cut.leaves refl
kept-rests Whole core bus lost Rest after at leaves = rests-as after _ leaves at
kept-rests Whole core bus lost (EraseNext job) after at leaves = rests-as after _ leaves at
kept-rests Whole core bus lost HashNext after at leaves = rests-as after _ leaves at
kept-rests Whole core bus lost (Boot cause) after at leaves = rests-as after _ leaves (fresh-rests (kind_of bus.state))
kept-rests Whole core bus lost Stop after at leaves = rests-as after _ leaves refl
kept-rests Whole core bus lost (SetPin on) after at leaves = rests-as after _ leaves at
kept-rests Failed core bus lost Rest after at (inl unread) = rests-as after _ unread.leaves at
kept-rests Failed core bus lost (EraseNext job) after at (inl unread) = rests-as after _ unread.leaves at
kept-rests Failed core bus lost HashNext after at (inl unread) = rests-as after _ unread.leaves at
kept-rests Failed core bus lost (Boot cause) after at (inl unread) = rests-as after _ unread.leaves (fresh-rests (kind_of bus.state))
kept-rests Failed core bus lost Stop after at (inl unread) = rests-as after _ unread.leaves at
kept-rests Failed core bus lost (SetPin on) after at (inl unread) = rests-as after _ unread.leaves at
kept-rests Failed core bus lost Rest after at (inr unfinished) = rests-as after _ unfinished.leaves at
kept-rests Failed core bus lost (EraseNext job) after at (inr unfinished) = rests-as after _ unfinished.leaves at
kept-rests Failed core bus lost HashNext after at (inr unfinished) = rests-as after _ unfinished.leaves at
kept-rests Failed core bus lost (Boot cause) after at (inr unfinished) = rests-as after _ unfinished.leaves at
kept-rests Failed core bus lost Stop after at (inr unfinished) = rests-as after _ unfinished.leaves at
kept-rests Failed core bus lost (SetPin on) after at (inr unfinished) = rests-as after _ unfinished.leaves at

-- the work of a tick
tick-work : (hurt : Hurt) (core : Core) (bus : BusAnswer) (lost : ℕ) (due : Option (List ℕ)) (other : Work) (after : After) → due_at_tick bus.state ≡ due → WorkLeaves hurt core bus lost (serve_or due other) after → Rests after.table
tick-work hurt core bus lost (Some request) other after same leaves = served-rests hurt core bus lost request after leaves
tick-work hurt core bus lost None other after same leaves = kept-rests hurt core bus lost other after (ap (λ (due : Option (List ℕ)). is_some due) same) leaves

-- an event of a controller that is off
pub off-rests : (hurt : Hurt) (table : Table) (event : Event) (after : After) → table.power ≡ Off → OffLeaves hurt table event after → Rests after.table
off-rests Cut table event after off leaves = absurd leaves
off-rests Whole table (AccessEvent access) after off leaves = rests-as after _ leaves (ap (λ (power : Power). is_waiting power) off)
off-rests Whole table Tick after off leaves = rests-as after _ leaves (ap (λ (power : Power). is_waiting power) off)
off-rests Whole table (Reset cause) after off leaves = rests-as after _ leaves (ap (λ (power : Power). is_waiting power) off)
off-rests Whole table (PowerEvent true) after off leaves = rests-as after _ leaves (fresh-rests table.kind)
off-rests Whole table (PowerEvent false) after off leaves = rests-as after _ leaves (ap (λ (power : Power). is_waiting power) off)
off-rests Whole table (PinEvent on) after off leaves = rests-as after _ leaves refl
off-rests Failed table event after off leaves = rests-as after _ leaves.1 (fresh-rests table.kind)

-- a tick, whatever waited before
tick-by : (hurt : Hurt) (table : Table) (power : Power) (after : After) → table.power ≡ power → EventLeavesBy hurt table Tick power after → Rests after.table
tick-by hurt table Off after same leaves = off-rests hurt table Tick after same leaves
tick-by hurt table (On awake) after same leaves = tick-work hurt (core_of table awake) (record { state = awake.bus; answer = 0 }) 0 (due_at_tick awake.bus) (idle_work awake.live.erase awake.live.hash) after refl leaves

-- a valid status is one of three
which : (status : ℕ) → ((status == 0x00) || (status == 0x01) || (status == 0x06)) ≡ true → (status ≡ 0) ⊎ ((status ≡ 1) ⊎ (status ≡ 6))
which status shown = grind (arith, eqb_tells)

-- a read of the result byte
read-rests : (test : Bool) (state : LpcState) → (state.status ≡ 0) ⊎ ((state.status ≡ 1) ⊎ (state.status ≡ 6)) → rests (OnLpc state) → rests (OnLpc (if test then record state { status = bit_and state.status 0xFE } else state))
read-rests false state status at = at
read-rests true state (inl none) at = rw none refl
read-rests true state (inr (inl ready)) at = rw ready refl
read-rests true state (inr (inr busy)) at = let six = rw busy at at in absurd (cc)

-- a read of a port
port-rests : (bus : BusState) (port : ℕ) → IsBusValid bus → rests bus → rests (bus_step bus (PortIn port)).state
port-rests (OnLpc state) port valid at = read-rests (port == 0x200) state (which state.status valid.1) at
port-rests (OnI2c state) port valid at = at
port-rests (OnSpi state) port valid at = at

-- whether an event may follow the last wait
abbrev follows : Event → Bool
follows (AccessEvent (PortIn port)) = true
follows (AccessEvent other) = false
follows other = true

-- an event of a controller that is on
on-rests : (hurt : Hurt) (table : Table) (awake : Awake) (event : Event) (after : After) → IsBusValid awake.bus → follows event ≡ true → rests awake.bus → WorkLeaves hurt (core_of table awake) (bus_after awake.bus event) (lost_answer event) (work_on awake event) after → Rests after.table
on-rests hurt table awake (AccessEvent (PortIn port)) after valid may at leaves = kept-rests hurt (core_of table awake) (bus_step awake.bus (PortIn port)) (lost_answer (AccessEvent (PortIn port))) (work_on awake (AccessEvent (PortIn port))) after (port-rests awake.bus port valid at) leaves
on-rests hurt table awake Tick after valid may at leaves = kept-rests hurt (core_of table awake) (bus_after awake.bus Tick) (lost_answer Tick) (work_on awake Tick) after at leaves
on-rests hurt table awake (Reset cause) after valid may at leaves = kept-rests hurt (core_of table awake) (bus_after awake.bus (Reset cause)) (lost_answer (Reset cause)) (work_on awake (Reset cause)) after at leaves
on-rests hurt table awake (PowerEvent on) after valid may at leaves = kept-rests hurt (core_of table awake) (bus_after awake.bus (PowerEvent on)) (lost_answer (PowerEvent on)) (work_on awake (PowerEvent on)) after at leaves
on-rests hurt table awake (PinEvent on) after valid may at leaves = kept-rests hurt (core_of table awake) (bus_after awake.bus (PinEvent on)) (lost_answer (PinEvent on)) (work_on awake (PinEvent on)) after at leaves
on-rests hurt table awake (AccessEvent other) after valid may at leaves = absurd (cc)

-- an event, by whether the controller is on
event-by : (hurt : Hurt) (table : Table) (event : Event) (power : Power) (after : After) → table.power ≡ power → IsPowerValid (length table.flash) table.kind power → follows event ≡ true → is_waiting power ≡ false → EventLeavesBy hurt table event power after → Rests after.table
event-by hurt table event Off after same valid may at leaves = off-rests hurt table event after same leaves
event-by hurt table event (On awake) after same valid may at leaves = on-rests hurt table awake event after valid.bus may at leaves

-- a step from a table on which no request waits
step-rests : (old : Table) (event : Event) (answer : ℕ) (hurt : Hurt) (new : Table) → Valid old → follows event ≡ true → Rests old → EventLeavesBy hurt old event old.power (record { table = new; answer = answer }) → Rests new
step-rests old event answer hurt new valid may at leaves = event-by hurt old event old.power (record { table = new; answer = answer }) refl valid.power may at leaves

-- reads of ports, whatever the world does
read-follows : (access : Access) (meant seen : ℕ) (calls : List HostCall) → list_all is_port_read (call_before (AccessEvent access) meant seen calls) ≡ true → (follows (AccessEvent access) ≡ true) × (list_all is_port_read calls ≡ true)
read-follows (PortIn port) meant seen calls all = (refl, all)
read-follows (PortOut port byte) meant seen calls all = absurd (cc)
read-follows I2cStartWrite meant seen calls all = absurd (cc)
read-follows I2cStartRead meant seen calls all = absurd (cc)
read-follows (I2cWrite byte) meant seen calls all = absurd (cc)
read-follows I2cRead meant seen calls all = absurd (cc)
read-follows I2cStop meant seen calls all = absurd (cc)
read-follows SpiSelect meant seen calls all = absurd (cc)
read-follows (SpiByte byte) meant seen calls all = absurd (cc)
read-follows SpiDeselect meant seen calls all = absurd (cc)

-- the first event before reads of ports
event-follows : (event : Event) (meant seen : ℕ) (calls : List HostCall) → list_all is_port_read (call_before event meant seen calls) ≡ true → (follows event ≡ true) × (list_all is_port_read calls ≡ true)
event-follows (AccessEvent access) meant seen calls all = read-follows access meant seen calls all
event-follows Tick meant seen calls all = absurd (cc)
event-follows (Reset cause) meant seen calls all = (refl, all)
event-follows (PowerEvent on) meant seen calls all = (refl, all)
event-follows (PinEvent on) meant seen calls all = (refl, all)

-- a run in which the host only reads ports
pub reads-rest : (old : Table) (entries : List Entry) (new : Table) → Valid old → Rests old → list_all is_port_read (calls_of entries) ≡ true → IsRun old entries new → Rests new
reads-rest old [] new valid at all run = subst (λ (t : Table). Rests t) (sym run) at
reads-rest old (Step event answer meant seen hurt ∷ entries) new valid at all run =
    let parts = event-follows event meant seen (calls_of entries) all in
    reads-rest run.0 entries new (step-valid old (Step event answer meant seen hurt) run.0 valid run.1) (step-rests old event answer hurt run.0 valid parts.0 at run.1) parts.1 run.2
reads-rest old (Mark line ∷ entries) new valid at all run =
    reads-rest run.0 entries new (step-valid old (Mark line) run.0 valid run.1) (subst (λ (t : Table). Rests t) (sym run.1) at) all run.2

-- the wait that only reads follow
behind-wait : (event : Event) (meant seen : ℕ) (calls : List HostCall) → ends_resting (call_before event meant seen calls) ≡ true → (ends_resting calls ≡ true) ⊎ ((event ≡ Tick) × (list_all is_port_read calls ≡ true))
behind-wait (AccessEvent access) meant seen calls ends = inl ends
behind-wait Tick meant seen calls ends = either (ends_resting calls) (list_all is_port_read calls) ends where
  either : (a b : Bool) → (a || b) ≡ true → (a ≡ true) ⊎ ((Tick ≡ Tick) × (b ≡ true))
  either true b same = inl refl
  either false b same = inr (refl, same)
behind-wait (Reset cause) meant seen calls ends = inl ends
behind-wait (PowerEvent on) meant seen calls ends = inl ends
behind-wait (PinEvent on) meant seen calls ends = inl ends

-- a tick leaves no request that waits
ticked : (old : Table) (event : Event) (answer : ℕ) (hurt : Hurt) (new : Table) → event ≡ Tick → EventLeavesBy hurt old event old.power (record { table = new; answer = answer }) → Rests new
ticked old event answer hurt new is leaves =
    tick-by hurt old old.power (record { table = new; answer = answer }) refl (subst (λ (e : Event). EventLeavesBy hurt old e old.power (record { table = new; answer = answer })) is leaves)

-- a run that ends with a wait and reads of ports
pub ends-rest : (old : Table) (entries : List Entry) (new : Table) → Valid old → ends_resting (calls_of entries) ≡ true → IsRun old entries new → Rests new
ends-rest old [] new valid ends run = absurd (cc)
ends-rest old (Step event answer meant seen hurt ∷ entries) new valid ends run =
    let next = step-valid old (Step event answer meant seen hurt) run.0 valid run.1 in
    elim (behind-wait event meant seen (calls_of entries) ends) [
      | inl later ↦ ends-rest run.0 entries new next later run.2
      | inr now ↦ reads-rest run.0 entries new next (ticked old event answer hurt run.0 now.0 run.1) now.1 run.2
    ]
ends-rest old (Mark line ∷ entries) new valid ends run = ends-rest run.0 entries new (step-valid old (Mark line) run.0 valid run.1) ends run.2
