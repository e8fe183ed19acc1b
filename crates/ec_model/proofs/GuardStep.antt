-- Every step keeps the guard, whatever fails or tears in it.
use Rattle.std.proofs.Common.{◌≡◌, refl, sym, ap, ◌∙◌, ℕ, suc, ◌+◌, ◌-◌, ◌/◌, ◌≤◌, Bool, true, false, ◌||◌, List, [], ◌∷◌, length, take, drop, arith, Option, Some, None, Result, Ok, Err, inl, inr}
use Rattle.std.specs.Prelude.{nat_le}
use Rattle.std.specs.Bool.{⊤}
use Rattle.std.proofs.lemmas.Bool.Decides.{eqb_tells}
use Rattle.flash_dev.specs.Flash.{block_size}
use Rattle.ec_types.specs.Tables.{packet_limit}
use Rattle.ec_types.specs.declared.bus.BusKind.{BusKind}
use Rattle.ec_types.specs.declared.reset.ResetCause.{ResetCause}
use Rattle.ec_types.specs.declared.reset.ResetCause.TheVariants.{Cold, PowerOn}
use Rattle.ec_model.specs.declared.live.EraseJob.{EraseJob}
use Rattle.ec_model.specs.declared.live.HashView.{HashView}
use Rattle.ec_model.specs.declared.live.HashView.TheVariants.{Idle, Busy, Done}
use Rattle.ec_model.specs.declared.event.Event.{Event}
use Rattle.ec_model.specs.declared.event.Event.TheVariants.{Access, Tick, Reset, Power as PowerEvent, Pin as PinEvent}
use Rattle.flash_dev.specs.declared.hurt.Hurt.{Hurt}
use Rattle.ec_model.specs.declared.event.Entry.{Entry}
use Rattle.ec_model.specs.declared.event.Entry.TheVariants.{Step, Mark}
use Rattle.flash_dev.specs.declared.hurt.Hurt.TheVariants.{Whole, Failed, Cut}
use Rattle.ec_model.specs.Ranges.{is_flash_size, block_range}
use Rattle.ec_model.specs.Stored.{AtBoot, stored, stored_in}
use Rattle.ec_model.specs.Bus.{due_now, due_at_tick, bus_step, BusState, BusAnswer, kind_of}
use Rattle.ec_model.specs.Table.{Table, Awake, Power, Off, On, Core, Valid, IsPowerValid, core_of, table_of, off_table}
use Rattle.ec_model.specs.Hash.{hash_ticked, without_hash}
use Rattle.ec_model.specs.Boot.{booted_table}
use Rattle.ec_model.specs.Operations.{Operation, Erase}
use Rattle.ec_model.specs.Answer.{Outcome, Answered, Restarts}
use Rattle.ec_model.specs.Guarded.{Guarded, keeps_pin, is_locked_if_on, KeepsPin}
use Rattle.ec_model.specs.Packet.{framing}
use Rattle.ec_model.specs.Handle.{Admitted, asked, row_of, handled}
use Rattle.ec_model.specs.Commands.{is_spelled}
use Rattle.ec_model.specs.Work.{After, serve_or, idle_work, hash_work, Work, Rest, Serve, EraseNext, HashNext, Boot, Stop, SetPin, work_on, work_operations, bus_after, lost_answer}
use Rattle.ec_model.specs.Erasing.{block_erased, with_job}
use Rattle.ec_model.specs.WholeStep.{worked, after_outcome}
use Rattle.ec_model.specs.Step.{IsStep, after_unread, unread, unfinished, failed_core, error_replied, WorkLeaves, OffLeaves, EventLeavesBy}
use Rattle.ec_model.proofs.GuardLemmas.{Leaves, leaves-refl, leaves-operated, leaves-stopped}
use Rattle.ec_model.proofs.GuardSteps.{if_cases}
use Rattle.ec_model.proofs.StoredLemmas.{take-drop-take, stored_in-take}
use Rattle.ec_model.proofs.GuardWork.{IsSafe, work_operations-above, work_on-safe, spelled_from}
use Rattle.ec_model.proofs.GuardRows.{Keeps, KeepsOutcome, keeps-self, same-touched, same-touched_by, row-keeps}

-- the smallest flash has room for what is stored
pub size_bound : (size : ℕ) → is_flash_size size ≡ true → 65536 ≤ size
size_bound size allowed = grind (arith, eqb_tells)

-- the stored bits are among the bytes that are guarded
pub stored-leaves : (old new : List ℕ) → 65536 ≤ length old → Leaves (length old / 2) old new → stored new ≡ stored old
stored-leaves old new large leaves =
    let place = length old / 2 - block_size in
    let inside : place + 1024 ≤ length old / 2 = omega arith in
    let front : (flash : List ℕ) → stored_in (drop place flash) ≡ stored_in (take 1024 (drop place (take (length old / 2) flash))) =
    λ flash. sym (stored_in-take 1024 (drop place flash) (omega arith)) ∙ ap stored_in (sym (take-drop-take 1024 place (length old / 2) flash inside)) in
    ap (λ (n : ℕ). stored_in (drop (n / 2 - block_size) new)) leaves.size
    ∙ front new ∙ ap (λ (bytes : List ℕ). stored_in (take 1024 (drop place bytes))) leaves.bytes ∙ sym (front old)

-- a table is guarded, and the guarded bytes are those of a flash
pub record Kept (flash : List ℕ) (table : Table) : Type 0 where
  pub guarded : Guarded table
  pub leaves : Leaves (length flash / 2) flash table.flash

-- what is known of a flash whose table is guarded
pub record IsKnown (flash : List ℕ) : Type 0 where
  pub large : 65536 ≤ length flash
  pub stored_ro : (stored flash).ro ≡ true

-- the lock at boot is still stored
still_stored : (old new : List ℕ) → IsKnown old → Leaves (length old / 2) old new → (stored new).ro ≡ true
still_stored old new known leaves = ap (λ (bits : AtBoot). bits.ro) (stored-leaves old new known.large leaves) ∙ known.stored_ro

-- a controller that is on and locked
kept_core : (flash : List ℕ) (core : Core) (bus : BusState) → IsKnown flash → core.pin ≡ true → core.live.ro_now ≡ true → Leaves (length flash / 2) flash core.flash → Kept flash (table_of core bus)
kept_core flash core bus known pin locked leaves =
    record { guarded = record { pin = pin; stored = still_stored flash core.flash known leaves; locked = locked }; leaves = leaves }

-- a controller that is off
kept_off : (flash new : List ℕ) (pin : Bool) (kind : BusKind) → IsKnown flash → pin ≡ true → Leaves (length flash / 2) flash new → Kept flash (off_table new pin kind)
kept_off flash new pin kind known asserted leaves =
    record { guarded = record { pin = asserted; stored = still_stored flash new known leaves; locked = refl }; leaves = leaves }

-- a true test, or another
or_true : (a b : Bool) → a ≡ true → (a || b) ≡ true
or_true a b holds = rw holds refl

-- a boot locks RO, whether the stored bits could be read or not
kept_boot : (flash : List ℕ) (pin : Bool) (kind : BusKind) (cause : ResetCause) (unread : Bool) → IsKnown flash → pin ≡ true → Kept flash (booted_table flash pin kind cause unread)
kept_boot flash pin kind cause unread known asserted =
    record {
      guarded = record { pin = asserted; stored = known.stored_ro; locked = rw asserted (or_true (stored flash).ro unread known.stored_ro) };
      leaves = leaves-refl (length flash / 2) flash;
    }

-- a controller that is on and guarded
pub record IsHeld (core : Core) : Type 0 where
  pub known : IsKnown core.flash
  pub pin : core.pin ≡ true
  pub locked : core.live.ro_now ≡ true

kept_keeps : (core after : Core) (bus : BusState) → IsHeld core → Keeps core after → Kept core.flash (table_of after bus)
kept_keeps core after bus held keeps = kept_core core.flash after bus held.known (keeps.pin ∙ held.pin) (keeps.locked held.locked) (keeps.flash held.locked)

kept_outcome : (core : Core) (bus : BusAnswer) (lost : ℕ) (outcome : Outcome) → IsHeld core → KeepsOutcome core outcome → Kept core.flash (after_outcome core bus lost outcome).table
kept_outcome core bus lost (Answered after status body) held keeps = kept_keeps core after _ held keeps
kept_outcome core bus lost Restarts held keeps = kept_boot core.flash core.pin (kind_of bus.state) Cold false held.known held.pin

pub row_of-keeps : (core : Core) (limit : ℕ) (result : Result Admitted ℕ) → ((found : Admitted) → result ≡ Ok found → is_spelled found.command found.version found.body ≡ true) → KeepsOutcome core (row_of core limit result)
row_of-keeps core limit (Err status) spelled = keeps-self core
row_of-keeps core limit (Ok found) spelled = row-keeps core limit found.command found.version found.body (spelled found refl)

pub handled-keeps : (core : Core) (limit : ℕ) (bytes : List ℕ) → KeepsOutcome core (handled core limit bytes)
handled-keeps core limit bytes = row_of-keeps core limit (asked core bytes) (spelled_from core (framing bytes))

erased-keeps : (core : Core) (job : EraseJob) → IsSafe core (EraseNext job) → Keeps core (block_erased job core)
erased-keeps core job safe =
    let same = same-touched (block_range job.next) core in
    record {
      pin = same.pin;
      locked = λ locked. same.ro_now ∙ locked;
      flash = λ locked. leaves-operated (length core.flash / 2) (Erase job.next) core.flash safe;
    }

ticked-keeps : (core : Core) (hash : HashView) → Keeps core (hash_ticked hash core)
ticked-keeps core Idle = keeps-self core
ticked-keeps core (Busy at size left) =
    if_cases (Keeps core) (nat_le left 1) _ _
    (λ last. record { pin = refl; locked = λ locked. locked; flash = λ locked. leaves-refl (length core.flash / 2) core.flash })
    (λ more. record { pin = refl; locked = λ locked. locked; flash = λ locked. leaves-refl (length core.flash / 2) core.flash })
ticked-keeps core (Done at size digest) = keeps-self core

-- the work takes the pin nowhere
abbrev pub KeepsPinWork : Work → Type 0
KeepsPinWork (SetPin on) = on ≡ true
KeepsPinWork other = ⊤

worked-kept : (core : Core) (bus : BusAnswer) (lost : ℕ) (work : Work) → IsHeld core → IsSafe core work → KeepsPinWork work → Kept core.flash (worked core bus lost work).table
worked-kept core bus lost Rest held safe pin = kept_keeps core core bus.state held (keeps-self core)
worked-kept core bus lost (Serve request) held safe pin = kept_outcome core bus lost _ held (handled-keeps core (packet_limit (kind_of bus.state)) request)
worked-kept core bus lost (EraseNext job) held safe pin = kept_keeps core _ bus.state held (erased-keeps core job safe)
worked-kept core bus lost HashNext held safe pin = kept_keeps core _ bus.state held (ticked-keeps core core.live.hash)
worked-kept core bus lost (Boot cause) held safe pin = kept_boot core.flash core.pin (kind_of bus.state) cause false held.known held.pin
worked-kept core bus lost Stop held safe pin = kept_off core.flash core.flash core.pin (kind_of bus.state) held.known held.pin (leaves-refl (length core.flash / 2) core.flash)
worked-kept core bus lost (SetPin on) held safe pin = kept_core core.flash (record core { pin = on }) bus.state held.known pin held.locked (leaves-refl (length core.flash / 2) core.flash)

after_unread-kept : (core : Core) (bus : BusAnswer) (lost : ℕ) (outcome : Outcome) → IsHeld core → Kept core.flash (after_unread core bus lost outcome).table
after_unread-kept core bus lost (Answered after status body) held = kept_keeps core core _ held (keeps-self core)
after_unread-kept core bus lost Restarts held = kept_boot core.flash core.pin (kind_of bus.state) Cold true held.known held.pin

unread-kept : (core : Core) (bus : BusAnswer) (lost : ℕ) (work : Work) → IsHeld core → Kept core.flash (unread core bus lost work).table
unread-kept core bus lost Rest held = kept_keeps core core bus.state held (keeps-self core)
unread-kept core bus lost (Serve request) held = after_unread-kept core bus lost _ held
unread-kept core bus lost (EraseNext job) held = kept_keeps core core bus.state held (keeps-self core)
unread-kept core bus lost HashNext held = kept_core core.flash (without_hash core) bus.state held.known held.pin held.locked (leaves-refl (length core.flash / 2) core.flash)
unread-kept core bus lost (Boot cause) held = kept_boot core.flash core.pin (kind_of bus.state) cause true held.known held.pin
unread-kept core bus lost Stop held = kept_keeps core core bus.state held (keeps-self core)
unread-kept core bus lost (SetPin on) held = kept_keeps core core bus.state held (keeps-self core)

-- an operation that failed leaves a core that is still held
failed-kept : (core : Core) (flash : List ℕ) (operations : List Operation) (k : ℕ) (bus : BusState) → IsHeld core → Leaves (length core.flash / 2) core.flash flash → Kept core.flash (table_of (failed_core core flash operations k) bus)
failed-kept core flash operations k bus held leaves =
    let same = same-touched_by (take (suc k) operations) core in
    kept_core core.flash (failed_core core flash operations k) bus held.known (same.pin ∙ held.pin) (same.ro_now ∙ held.locked) leaves

-- the same with the erase ended
failed-job-kept : (core : Core) (flash : List ℕ) (operations : List Operation) (k : ℕ) (bus : BusState) → IsHeld core → Leaves (length core.flash / 2) core.flash flash → Kept core.flash (table_of (with_job None 2 (failed_core core flash operations k)) bus)
failed-job-kept core flash operations k bus held leaves =
    let same = same-touched_by (take (suc k) operations) core in
    kept_core core.flash (with_job None 2 (failed_core core flash operations k)) bus held.known (same.pin ∙ held.pin) (same.ro_now ∙ held.locked) leaves

unfinished-kept : (core : Core) (flash : List ℕ) (operations : List Operation) (k : ℕ) (bus : BusAnswer) (work : Work) → IsHeld core → Leaves (length core.flash / 2) core.flash flash → Kept core.flash (unfinished (failed_core core flash operations k) bus work).table
unfinished-kept core flash operations k bus (Serve request) held leaves = failed-kept core flash operations k (error_replied bus.state) held leaves
unfinished-kept core flash operations k bus other held leaves = failed-job-kept core flash operations k bus.state held leaves

-- what a flash call that failed or lost power leaves
work-kept : (hurt : Hurt) (core : Core) (bus : BusAnswer) (lost : ℕ) (work : Work) (after : After) → IsHeld core → IsSafe core work → KeepsPinWork work → WorkLeaves hurt core bus lost work after → Kept core.flash after.table
work-kept Whole core bus lost work after held safe pin leaves = rw leaves (worked-kept core bus lost work held safe pin)
work-kept Failed core bus lost work after held safe pin (inl failed) = rw failed.leaves (unread-kept core bus lost work held)
work-kept Failed core bus lost work after held safe pin (inr failed) =
    rw failed.leaves (unfinished-kept core failed.flash (work_operations core work) failed.place bus work held
    (leaves-stopped (length core.flash / 2) failed.place (work_operations core work) core.flash failed.flash (work_operations-above core work held.locked safe) failed.stops))
work-kept Cut core bus lost work after held safe pin cut =
    rw cut.leaves (kept_off core.flash cut.flash core.pin (kind_of bus.state) held.known held.pin
    (leaves-stopped (length core.flash / 2) cut.place (work_operations core work) core.flash cut.flash (work_operations-above core work held.locked safe) cut.stops))

serve-pin : (request : Option (List ℕ)) (other : Work) → KeepsPinWork other → KeepsPinWork (serve_or request other)
serve-pin None other pin = pin
serve-pin (Some request) other pin = tt

hash-pin : (hash : HashView) → KeepsPinWork (hash_work hash)
hash-pin Idle = tt
hash-pin (Busy at size left) = tt
hash-pin (Done at size digest) = tt

idle-pin : (job : Option EraseJob) (hash : HashView) → KeepsPinWork (idle_work job hash)
idle-pin None hash = hash-pin hash
idle-pin (Some job) hash = tt

work_on-pin : (awake : Awake) (event : Event) → keeps_pin event ≡ true → KeepsPinWork (work_on awake event)
work_on-pin awake (Access access) keeps = serve-pin (due_now (bus_step awake.bus access).state) Rest tt
work_on-pin awake Tick keeps = serve-pin (due_at_tick awake.bus) (idle_work awake.live.erase awake.live.hash) (idle-pin awake.live.erase awake.live.hash)
work_on-pin awake (Reset cause) keeps = tt
work_on-pin awake (PowerEvent true) keeps = tt
work_on-pin awake (PowerEvent false) keeps = tt
work_on-pin awake (PinEvent on) keeps = keeps

-- a table that is off and stays so
same_kept : (old : Table) → IsKnown old.flash → old.pin ≡ true → old.power ≡ Off → Kept old.flash old
same_kept old known pin off =
    record {
      guarded = record { pin = pin; stored = known.stored_ro; locked = ap is_locked_if_on off };
      leaves = leaves-refl (length old.flash / 2) old.flash;
    }

-- an event of a controller that is off
off-kept : (hurt : Hurt) (old : Table) (event : Event) (after : After) → IsKnown old.flash → old.pin ≡ true → old.power ≡ Off → keeps_pin event ≡ true → OffLeaves hurt old event after → Kept old.flash after.table
off-kept Whole old (Access access) after known pin off keeps leaves = rw leaves (same_kept old known pin off)
off-kept Whole old Tick after known pin off keeps leaves = rw leaves (same_kept old known pin off)
off-kept Whole old (Reset cause) after known pin off keeps leaves = rw leaves (same_kept old known pin off)
off-kept Whole old (PowerEvent true) after known pin off keeps leaves = rw leaves (kept_boot old.flash old.pin old.kind PowerOn false known pin)
off-kept Whole old (PowerEvent false) after known pin off keeps leaves = rw leaves (same_kept old known pin off)
off-kept Whole old (PinEvent on) after known pin off keeps leaves = rw leaves (kept_off old.flash old.flash on old.kind known keeps (leaves-refl (length old.flash / 2) old.flash))
off-kept Failed old event after known pin off keeps leaves = rw leaves.1 (kept_boot old.flash old.pin old.kind PowerOn true known pin)
off-kept Cut old event after known pin off keeps leaves = absurd leaves

-- an event, by whether the controller is on
event-kept : (hurt : Hurt) (old : Table) (event : Event) (power : Power) (after : After) → IsKnown old.flash → old.pin ≡ true → old.power ≡ power → is_locked_if_on power ≡ true → IsPowerValid (length old.flash) old.kind power → keeps_pin event ≡ true → EventLeavesBy hurt old event power after → Kept old.flash after.table
event-kept hurt old event Off after known pin same locked valid keeps leaves = off-kept hurt old event after known pin same keeps leaves
event-kept hurt old event (On awake) after known pin same locked valid keeps leaves =
    work-kept hurt (core_of old awake) (bus_after awake.bus event) (lost_answer event) (work_on awake event) after
    (record { known = known; pin = pin; locked = locked }) (work_on-safe (core_of old awake) awake event locked refl valid.erase) (work_on-pin awake event keeps) leaves

-- what is guarded stays through one step
pub step-kept : (old : Table) (entry : Entry) (new : Table) → Valid old → Guarded old → KeepsPin (entry ∷ []) → IsStep old entry new → Kept old.flash new
step-kept old (Step event answer meant seen hurt) new valid guarded keeps leaves =
    event-kept hurt old event old.power (record { table = new; answer = answer }) (record { large = size_bound (length old.flash) valid.size; stored_ro = guarded.stored })
    guarded.pin refl guarded.locked valid.power keeps.0 leaves
step-kept old (Mark line) new valid guarded keeps same =
    rw same (record { guarded = guarded; leaves = leaves-refl (length old.flash / 2) old.flash })
