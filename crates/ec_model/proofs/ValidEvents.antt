-- Every event keeps a valid table valid, whatever fails or tears in it.
use Rattle.std.proofs.Common.{◌≡◌, refl, sym, ap, ◌∙◌, subst, ℕ, suc, ◌+◌, ◌-◌, ◌^◌, ◌≤◌, ◌<◌, Bool, true, false, ◌&&◌, ◌||◌, inl, inr, nat_le, List, [], length, take, arith, Option, Some, None}
use Rattle.std.specs.Bool.{⊤}
use Rattle.std.proofs.lemmas.Bool.Decides.{leb_tells}
use Rattle.std.proofs.lemmas.Bool.{leb-false}
use Rattle.sha2.specs.Sha256.{sha256, digest_bytes}
use Rattle.flash_dev.specs.Flash.{erased}
use Rattle.ec_types.specs.Tables.{packet_limit}
use Rattle.ec_types.specs.declared.reset.ResetCause.TheVariants.{Cold, PowerOn}
use Rattle.ec_model.specs.declared.live.EraseJob.{EraseJob}
use Rattle.ec_model.specs.declared.live.Live.{Live}
use Rattle.ec_model.specs.declared.live.HashView.{HashView}
use Rattle.ec_model.specs.declared.live.HashView.TheVariants.{Idle, Busy, Done}
use Rattle.ec_model.specs.declared.event.Event.{Event}
use Rattle.ec_model.specs.declared.event.Event.TheVariants.{Access, Tick, Reset, Power as PowerEvent, Pin as PinEvent}
use Rattle.flash_dev.specs.declared.hurt.Hurt.{Hurt}
use Rattle.flash_dev.specs.declared.hurt.Hurt.TheVariants.{Whole, Failed, Cut}
use Rattle.ec_model.specs.declared.event.Entry.{Entry}
use Rattle.ec_model.specs.declared.event.Entry.TheVariants.{Step, Mark}
use Rattle.ec_model.specs.Ranges.{Range, is_flash_size, blocks_range, block_range, overlaps, copy_range, wp_ro_range}
use Rattle.ec_model.specs.Packet.{framing, response_packet}
use Rattle.ec_model.specs.Bus.{BusState, BusAnswer, OnLpc, OnI2c, OnSpi, kind_of, bus_step, due_now, due_at_tick, replied}
use Rattle.ec_model.specs.Table.{Table, Awake, Power, Off, On, Core, Valid, IsAwakeValid, IsPowerValid, IsBusValid, IsErasable, IsHashable, core_of, off_table, is_blocked}
use Rattle.ec_model.specs.Hash.{touched, hash_ticked, is_hash_over, without_hash}
use Rattle.ec_model.specs.Operations.{Operation, Erase, touched_by}
use Rattle.ec_model.specs.Answer.{Outcome, Answered, Restarts}
use Rattle.ec_model.specs.Handle.{asked, handled}
use Rattle.ec_model.specs.Work.{After, Work, Rest, Serve, EraseNext, HashNext, Boot, Stop, SetPin, serve_or, idle_work, hash_work, work_on, work_operations, bus_after, lost_answer}
use Rattle.ec_model.specs.Erasing.{block_erased, with_job, job_left, saved_after}
use Rattle.ec_model.specs.WholeStep.{worked, after_outcome}
use Rattle.ec_model.specs.Step.{IsStep, after_unread, unread, unfinished, failed_core, error_replied, WorkLeaves, OffLeaves, EventLeavesBy}
use Rattle.ec_model.proofs.GuardLemmas.{AllAbove, leaves-operated, leaves-stopped}
use Rattle.ec_model.proofs.GuardSteps.{if_cases, or_parts}
use Rattle.ec_model.proofs.GuardWork.{spelled_from}
use Rattle.ec_model.proofs.ValidRows.{IsCoreValid, ValidOutcome, with-hash-valid, with-flash-valid, touched-valid, touched_by-valid, same-flash, same-flash_by}
use Rattle.ec_model.proofs.ValidBus.{bus_step-valid, HasWindow, window-step, valid-window, replied-valid}
use Rattle.ec_model.proofs.ShortRows.{IsShort}
use Rattle.ec_model.proofs.ValidStep.{valid_table, booted-table-valid, handled-valid, row_of-short, operations_by-inside}

-- a digest has 32 bytes
length-sha256 : (message : List ℕ) → length (sha256 message) ≡ 32
unfolding sha256 digest_bytes
length-sha256 message = refl

-- a smaller range overlaps no more
apart_within : (small large other : Range) → large.at ≤ small.at → small.at + small.size ≤ large.at + large.size → overlaps large other ≡ false → overlaps small other ≡ false
apart_within small large other above below apart = grind (arith, leb_tells)

-- and is blocked no more
free_within : (size : ℕ) (live : Live) (small large : Range) → large.at ≤ small.at → small.at + small.size ≤ large.at + large.size → is_blocked size live large ≡ false → is_blocked size live small ≡ false
free_within size live small large above below free =
    let parts = or_parts (overlaps large (copy_range live.copy size) || (live.ro_now && overlaps large (wp_ro_range size))) live.all_now free in
    let two = or_parts (overlaps large (copy_range live.copy size)) (live.ro_now && overlaps large (wp_ro_range size)) parts.0 in
    let own = apart_within small large (copy_range live.copy size) above below two.0 in
    let guarded = by_lock live.ro_now two.1 in
    rw (own, guarded) parts.1 where
      by_lock : (locked : Bool) → (locked && overlaps large (wp_ro_range size)) ≡ false → (locked && overlaps small (wp_ro_range size)) ≡ false
      by_lock true apart = apart_within small large (wp_ro_range size) above below apart
      by_lock false apart = refl

-- what is left of a valid erase is valid
pub left-erasable : (size : ℕ) (live : Live) (job : EraseJob) → IsErasable size live (Some job) → IsErasable size live (job_left job)
left-erasable size live job valid =
    if_cases (IsErasable size live) (nat_le job.left 1) None _ (λ last. tt)
    (λ more.
    let many : 1 < job.left = leb-false job.left 1 more in
    (omega (arith, many), omega (arith, many, valid.1), free_within size live (blocks_range (job.next + 1) (job.left - 1)) (blocks_range job.next job.left) (omega arith) (omega (arith, many)) valid.2))

-- the erase is no concern of the hash
with-job-valid : (core : Core) (job : Option EraseJob) (saved : ℕ) → IsCoreValid core → IsErasable (length core.flash) core.live job → saved < 2 ^ 16 → IsCoreValid (with_job job saved core)
with-job-valid core job saved valid erasable small =
    record { size = valid.size; all_with_ro = valid.all_with_ro; jumped = valid.jumped; erase = same job erasable; hash = valid.hash; saved = small } where
      same : (job : Option EraseJob) → IsErasable (length core.flash) core.live job → IsErasable (length core.flash) (with_job job saved core).live job
      same None erasable = tt
      same (Some other) erasable = erasable

-- a touch blocks nothing and frees nothing
touched-erasable : (size : ℕ) (range : Range) (core : Core) (job : Option EraseJob) → IsErasable size core.live job → IsErasable size (touched range core).live job
touched-erasable size range core job erasable =
    if_cases (λ (after : Core). IsErasable size after.live job) (is_hash_over range core.live.hash) (without_hash core) core (λ over. same job erasable) (λ apart. erasable) where
      same : (job : Option EraseJob) → IsErasable size core.live job → IsErasable size (without_hash core).live job
      same None erasable = tt
      same (Some other) erasable = erasable

erased-valid : (core : Core) (job : EraseJob) → IsCoreValid core → IsErasable (length core.flash) core.live (Some job) → IsCoreValid (block_erased job core)
erased-valid core job valid erasable =
    let range = block_range job.next in
    let leaves = leaves-operated 0 (Erase job.next) core.flash (record { above = omega arith; inside = omega (arith, erasable.0, erasable.1) }) in
    let flashed = record (touched range core) { flash = erased job.next core.flash } in
    let flash_valid = with-flash-valid (touched range core) (erased job.next core.flash) (leaves.size ∙ sym (ap length (same-flash range core))) (touched-valid range core valid) in
    with-job-valid flashed (job_left job) (saved_after job core.live.saved) flash_valid
    (touched-erasable (length (erased job.next core.flash)) range core (job_left job)
    (subst (λ (n : ℕ). IsErasable n core.live (job_left job)) (sym leaves.size) (left-erasable (length core.flash) core.live job erasable)))
    (if_cases (λ (saved : ℕ). saved < 2 ^ 16) (nat_le job.left 1) 0 core.live.saved (λ last. omega arith) (λ more. valid.saved))

ticked-valid : (core : Core) (hash : HashView) → IsCoreValid core → core.live.hash ≡ hash → IsCoreValid (hash_ticked hash core)
ticked-valid core Idle valid same = valid
ticked-valid core (Busy at size left) valid same =
    let busy : IsHashable (length core.flash) (Busy at size left) core.nonce = subst (λ (hash : HashView). IsHashable (length core.flash) hash core.nonce) same valid.hash in
    if_cases IsCoreValid (nat_le left 1) _ _
    (λ last. with-hash-valid core _ [] valid (busy.0, busy.1, length-sha256 _, refl))
    (λ more.
    let many : 1 < left = leb-false left 1 more in
    with-hash-valid core _ core.nonce valid (busy.0, busy.1, omega (arith, many), omega (arith, busy.3), busy.4))
ticked-valid core (Done at size digest) valid same = valid

-- a packet is eight bytes longer than its body
length-response_packet : (status : ℕ) (body : List ℕ) → length (response_packet status body) ≡ 8 + length body
length-response_packet status body = omega arith

-- a bus that got its reply
reply_fits : (status : ℕ) (body : List ℕ) (bus : BusState) → HasWindow bus → length body ≤ 248 → IsBusValid (replied (response_packet status body) bus)
reply_fits status body bus window short = replied-valid (response_packet status body) bus window (omega (arith, length-response_packet status body, short))

-- what is answered on LPC fits its window
outcome-on-lpc : (core : Core) (bus : BusAnswer) (lost : ℕ) (outcome : Outcome) → IsCoreValid core → HasWindow bus.state → ValidOutcome outcome → IsShort outcome → Valid (after_outcome core bus lost outcome).table
outcome-on-lpc core bus lost (Answered after status body) valid window after_valid short = valid_table after _ after_valid (reply_fits status body bus.state window short)
outcome-on-lpc core bus lost Restarts valid window after_valid short = booted-table-valid core.flash core.pin (kind_of bus.state) Cold false valid.size

outcome-on-i2c : (core : Core) (state : _) (answer lost : ℕ) (outcome : Outcome) → IsCoreValid core → ValidOutcome outcome → Valid (after_outcome core (record { state = OnI2c state; answer = answer }) lost outcome).table
outcome-on-i2c core state answer lost (Answered after status body) valid after_valid = valid_table after _ after_valid tt
outcome-on-i2c core state answer lost Restarts valid after_valid = booted-table-valid core.flash core.pin (kind_of (OnI2c state)) Cold false valid.size

outcome-on-spi : (core : Core) (state : _) (answer lost : ℕ) (outcome : Outcome) → IsCoreValid core → ValidOutcome outcome → Valid (after_outcome core (record { state = OnSpi state; answer = answer }) lost outcome).table
outcome-on-spi core state answer lost (Answered after status body) valid after_valid = valid_table after _ after_valid tt
outcome-on-spi core state answer lost Restarts valid after_valid = booted-table-valid core.flash core.pin (kind_of (OnSpi state)) Cold false valid.size

served-valid : (core : Core) (state : BusState) (answer lost : ℕ) (request : List ℕ) → IsCoreValid core → HasWindow state → Valid (after_outcome core (record { state = state; answer = answer }) lost (handled core (packet_limit (kind_of state)) request)).table
served-valid core (OnLpc state) answer lost request valid window =
    outcome-on-lpc core (record { state = OnLpc state; answer = answer }) lost (handled core 256 request) valid window (handled-valid core 256 request valid) (row_of-short core (asked core request) valid)
served-valid core (OnI2c state) answer lost request valid window = outcome-on-i2c core state answer lost _ valid (handled-valid core 128 request valid)
served-valid core (OnSpi state) answer lost request valid window = outcome-on-spi core state answer lost _ valid (handled-valid core 544 request valid)

-- what the bus is before some work
abbrev WorkBus : BusState → Work → Type 0
WorkBus bus (Serve request) = HasWindow bus
WorkBus bus other = IsBusValid bus

-- the erase that some work goes on with
abbrev pub WorkJob : Core → Work → Type 0
WorkJob core (EraseNext job) = IsErasable (length core.flash) core.live (Some job)
WorkJob core other = ⊤

off-valid : (flash : List ℕ) (pin : Bool) (kind : _) → is_flash_size (length flash) ≡ true → Valid (off_table flash pin kind)
off-valid flash pin kind size = record { size = size; power = tt }

-- another pin
pinned-valid : (core : Core) (on : Bool) → IsCoreValid core → IsCoreValid (record core { pin = on })
pinned-valid core on valid = record { size = valid.size; all_with_ro = valid.all_with_ro; jumped = valid.jumped; erase = valid.erase; hash = valid.hash; saved = valid.saved }

worked-valid : (core : Core) (bus : BusAnswer) (lost : ℕ) (work : Work) → IsCoreValid core → WorkBus bus.state work → WorkJob core work → Valid (worked core bus lost work).table
worked-valid core bus lost Rest valid bus_valid job = valid_table core bus.state valid bus_valid
worked-valid core bus lost (Serve request) valid bus_valid job = served-valid core bus.state bus.answer lost request valid bus_valid
worked-valid core bus lost (EraseNext erase) valid bus_valid job = valid_table _ bus.state (erased-valid core erase valid job) bus_valid
worked-valid core bus lost HashNext valid bus_valid job = valid_table _ bus.state (ticked-valid core core.live.hash valid refl) bus_valid
worked-valid core bus lost (Boot cause) valid bus_valid job = booted-table-valid core.flash core.pin (kind_of bus.state) cause false valid.size
worked-valid core bus lost Stop valid bus_valid job = off-valid core.flash core.pin (kind_of bus.state) valid.size
worked-valid core bus lost (SetPin on) valid bus_valid job = valid_table _ bus.state (pinned-valid core on valid) bus_valid

-- an error is a short reply
error-valid : (bus : BusState) → HasWindow bus → IsBusValid (error_replied bus)
error-valid bus window = reply_fits 2 [] bus window (omega arith)

after_unread-valid : (core : Core) (bus : BusAnswer) (lost : ℕ) (outcome : Outcome) → IsCoreValid core → HasWindow bus.state → Valid (after_unread core bus lost outcome).table
after_unread-valid core bus lost (Answered after status body) valid window = valid_table core _ valid (error-valid bus.state window)
after_unread-valid core bus lost Restarts valid window = booted-table-valid core.flash core.pin (kind_of bus.state) Cold true valid.size

unread-valid : (core : Core) (bus : BusAnswer) (lost : ℕ) (work : Work) → IsCoreValid core → WorkBus bus.state work → Valid (unread core bus lost work).table
unread-valid core bus lost Rest valid bus_valid = valid_table core bus.state valid bus_valid
unread-valid core bus lost (Serve request) valid bus_valid = after_unread-valid core bus lost _ valid bus_valid
unread-valid core bus lost (EraseNext job) valid bus_valid = valid_table core bus.state valid bus_valid
unread-valid core bus lost HashNext valid bus_valid = valid_table _ bus.state (with-hash-valid core Idle [] valid refl) bus_valid
unread-valid core bus lost (Boot cause) valid bus_valid = booted-table-valid core.flash core.pin (kind_of bus.state) cause true valid.size
unread-valid core bus lost Stop valid bus_valid = valid_table core bus.state valid bus_valid
unread-valid core bus lost (SetPin on) valid bus_valid = valid_table core bus.state valid bus_valid

failed-valid : (core : Core) (flash : List ℕ) (operations : List Operation) (k : ℕ) → IsCoreValid core → length flash ≡ length core.flash → IsCoreValid (failed_core core flash operations k)
failed-valid core flash operations k valid same =
    with-flash-valid (touched_by (take (suc k) operations) core) flash (same ∙ sym (ap length (same-flash_by (take (suc k) operations) core))) (touched_by-valid (take (suc k) operations) core valid)

-- the operations of some work lie in the flash
pub work_operations-inside : (core : Core) (work : Work) → IsCoreValid core → WorkJob core work → AllAbove 0 (length core.flash) (work_operations core work)
work_operations-inside core (Serve request) valid job = operations_by-inside core (asked core request) valid (spelled_from core (framing request))
work_operations-inside core (EraseNext erase) valid job = (record { above = omega arith; inside = omega (arith, job.0, job.1) }, tt)
work_operations-inside core other valid job = tt

-- no work but a request and an erase has operations
unfinished-valid : (core : Core) (flash : List ℕ) (operations : List Operation) (k : ℕ) (bus : BusAnswer) (work : Work) → IsCoreValid core → length flash ≡ length core.flash → WorkBus bus.state work → Valid (unfinished (failed_core core flash operations k) bus work).table
unfinished-valid core flash operations k bus (Serve request) valid same bus_valid = valid_table _ _ (failed-valid core flash operations k valid same) (error-valid bus.state bus_valid)
unfinished-valid core flash operations k bus other valid same bus_valid =
    valid_table _ bus.state (with-job-valid (failed_core core flash operations k) None 2 (failed-valid core flash operations k valid same) tt (omega arith)) bus_valid

work-valid : (hurt : Hurt) (core : Core) (bus : BusAnswer) (lost : ℕ) (work : Work) (after : After) → IsCoreValid core → WorkBus bus.state work → WorkJob core work → WorkLeaves hurt core bus lost work after → Valid after.table
work-valid Whole core bus lost work after valid bus_valid job leaves = rw leaves (worked-valid core bus lost work valid bus_valid job)
work-valid Failed core bus lost work after valid bus_valid job (inl failed) = rw failed.leaves (unread-valid core bus lost work valid bus_valid)
work-valid Failed core bus lost work after valid bus_valid job (inr failed) =
    rw failed.leaves (unfinished-valid core failed.flash (work_operations core work) failed.place bus work valid
    (leaves-stopped 0 failed.place (work_operations core work) core.flash failed.flash (work_operations-inside core work valid job) failed.stops).size bus_valid)
work-valid Cut core bus lost work after valid bus_valid job cut =
    rw cut.leaves (off-valid cut.flash core.pin (kind_of bus.state) (rw (leaves-stopped 0 cut.place (work_operations core work) core.flash cut.flash (work_operations-inside core work valid job) cut.stops).size valid.size))

access-bus : (bus : BusState) (access : _) (due : Option (List ℕ)) → IsBusValid bus → due_now (bus_step bus access).state ≡ due → WorkBus (bus_step bus access).state (serve_or due Rest)
access-bus bus access None valid same = bus_step-valid bus access valid same
access-bus bus access (Some request) valid same = window-step bus access valid

hash-bus : (bus : BusState) (hash : HashView) → IsBusValid bus → WorkBus bus (hash_work hash)
hash-bus bus Idle valid = valid
hash-bus bus (Busy at size left) valid = valid
hash-bus bus (Done at size digest) valid = valid

tick-bus : (bus : BusState) (due : Option (List ℕ)) (job : Option EraseJob) (hash : HashView) → IsBusValid bus → WorkBus bus (serve_or due (idle_work job hash))
tick-bus bus (Some request) job hash valid = valid-window bus valid
tick-bus bus None (Some job) hash valid = valid
tick-bus bus None None hash valid = hash-bus bus hash valid

work_on-bus : (awake : Awake) (event : Event) → IsBusValid awake.bus → WorkBus (bus_after awake.bus event).state (work_on awake event)
work_on-bus awake (Access access) valid = access-bus awake.bus access (due_now (bus_step awake.bus access).state) valid refl
work_on-bus awake Tick valid = tick-bus awake.bus (due_at_tick awake.bus) awake.live.erase awake.live.hash valid
work_on-bus awake (Reset cause) valid = valid
work_on-bus awake (PowerEvent true) valid = valid
work_on-bus awake (PowerEvent false) valid = valid
work_on-bus awake (PinEvent on) valid = valid

hash-job : (core : Core) (hash : HashView) → WorkJob core (hash_work hash)
hash-job core Idle = tt
hash-job core (Busy at size left) = tt
hash-job core (Done at size digest) = tt

tick-job : (core : Core) (due : Option (List ℕ)) (job : Option EraseJob) (hash : HashView) → IsErasable (length core.flash) core.live job → WorkJob core (serve_or due (idle_work job hash))
tick-job core (Some request) job hash erasable = tt
tick-job core None (Some job) hash erasable = erasable
tick-job core None None hash erasable = hash-job core hash

access-job : (core : Core) (due : Option (List ℕ)) → WorkJob core (serve_or due Rest)
access-job core None = tt
access-job core (Some request) = tt

pub work_on-job : (table : Table) (awake : Awake) (event : Event) → IsErasable (length table.flash) awake.live awake.live.erase → WorkJob (core_of table awake) (work_on awake event)
work_on-job table awake (Access access) erasable = access-job (core_of table awake) (due_now (bus_step awake.bus access).state)
work_on-job table awake Tick erasable = tick-job (core_of table awake) (due_at_tick awake.bus) awake.live.erase awake.live.hash erasable
work_on-job table awake (Reset cause) erasable = tt
work_on-job table awake (PowerEvent true) erasable = tt
work_on-job table awake (PowerEvent false) erasable = tt
work_on-job table awake (PinEvent on) erasable = tt

-- an event of a controller that is off
off-event-valid : (hurt : Hurt) (old : Table) (event : Event) (after : After) → Valid old → OffLeaves hurt old event after → Valid after.table
off-event-valid Whole old (Access access) after valid leaves = rw leaves valid
off-event-valid Whole old Tick after valid leaves = rw leaves valid
off-event-valid Whole old (Reset cause) after valid leaves = rw leaves valid
off-event-valid Whole old (PowerEvent true) after valid leaves = rw leaves (booted-table-valid old.flash old.pin old.kind PowerOn false valid.size)
off-event-valid Whole old (PowerEvent false) after valid leaves = rw leaves valid
off-event-valid Whole old (PinEvent on) after valid leaves = rw leaves (off-valid old.flash on old.kind valid.size)
off-event-valid Failed old event after valid leaves = rw leaves.1 (booted-table-valid old.flash old.pin old.kind PowerOn true valid.size)
off-event-valid Cut old event after valid leaves = absurd leaves

-- a valid controller that is on
pub core-valid : (table : Table) (awake : Awake) → is_flash_size (length table.flash) ≡ true → IsAwakeValid (length table.flash) table.kind awake → IsCoreValid (core_of table awake)
core-valid table awake size valid = record { size = size; all_with_ro = valid.all_with_ro; jumped = valid.jumped; erase = valid.erase; hash = valid.hash; saved = valid.saved }

event-valid : (hurt : Hurt) (old : Table) (event : Event) (power : Power) (after : After) → Valid old → IsPowerValid (length old.flash) old.kind power → EventLeavesBy hurt old event power after → Valid after.table
event-valid hurt old event Off after valid power_valid leaves = off-event-valid hurt old event after valid leaves
event-valid hurt old event (On awake) after valid power_valid leaves =
    work-valid hurt (core_of old awake) (bus_after awake.bus event) (lost_answer event) (work_on awake event) after
    (core-valid old awake valid.size power_valid) (work_on-bus awake event power_valid.bus) (work_on-job old awake event power_valid.erase) leaves

-- every step keeps a valid table valid
pub step-valid : (old : Table) (entry : Entry) (new : Table) → Valid old → IsStep old entry new → Valid new
step-valid old (Step event answer meant seen hurt) new valid leaves =
    event-valid hurt old event old.power (record { table = new; answer = answer }) valid valid.power leaves
step-valid old (Mark line) new valid same = rw same valid
