-- A digest that is shown was shown before, with its range as it was, or it was made in the step.
use Rattle.std.proofs.Common.{◌≡◌, refl, sym, ap, ◌∙◌, ℕ, ◌⊎◌, inl, inr, true, nat_le, List, [], ◌∷◌, ◌++◌, length}
use Rattle.sha2.specs.Sha256.{sha256}
use Rattle.ec_types.specs.Tables.{packet_limit}
use Rattle.ec_model.specs.declared.live.EraseJob.{EraseJob}
use Rattle.ec_model.specs.declared.live.HashView.{HashView}
use Rattle.ec_model.specs.declared.live.HashView.TheVariants.{Idle, Busy, Done}
use Rattle.ec_model.specs.declared.event.Event.{Event}
use Rattle.ec_model.specs.declared.event.Event.TheVariants.{Power as PowerEvent, Pin as PinEvent}
use Rattle.flash_dev.specs.declared.hurt.Hurt.{Hurt}
use Rattle.flash_dev.specs.declared.hurt.Hurt.TheVariants.{Whole, Failed, Cut}
use Rattle.ec_model.specs.declared.event.Entry.{Entry}
use Rattle.ec_model.specs.declared.event.Entry.TheVariants.{Step, Mark}
use Rattle.ec_model.specs.Ranges.{part}
use Rattle.ec_model.specs.Bus.{BusState, BusAnswer, kind_of}
use Rattle.ec_model.specs.Table.{Table, Power, Off, On, Core, Valid, IsPowerValid, core_of, table_of}
use Rattle.ec_model.specs.Hash.{shown_hash, kept_nonce, hash_ticked, IsKeptDigest, IsMadeDigest}
use Rattle.ec_model.specs.Operations.{Operation, Erase, StopsAt}
use Rattle.ec_model.specs.Answer.{Outcome, Answered, Restarts}
use Rattle.ec_model.specs.Handle.{handled}
use Rattle.ec_model.specs.Work.{After, Work, Rest, Serve, EraseNext, HashNext, Boot, Stop, SetPin, work_on, work_operations, bus_after, lost_answer}
use Rattle.ec_model.specs.Erasing.{block_erased}
use Rattle.ec_model.specs.WholeStep.{worked, after_outcome}
use Rattle.ec_model.specs.Step.{IsStep, after_unread, unread, unfinished, failed_core, WorkLeaves, OffLeaves, EventLeavesBy}
use Rattle.ec_model.proofs.GuardLemmas.{AllAbove}
use Rattle.ec_model.proofs.GuardSteps.{if_cases}
use Rattle.ec_model.proofs.ValidRows.{IsCoreValid}
use Rattle.ec_model.proofs.ValidEvents.{WorkJob, work_operations-inside, work_on-job, core-valid}
use Rattle.ec_model.proofs.DigestLemmas.{touched_by-kept, stopped-kept}
use Rattle.ec_model.proofs.DigestRows.{KeepsDigests, KeepsDigestsOutcome, digests-self, handled-digests}

-- a digest was kept, or it was made
abbrev pub IsDigest : HashView → List ℕ → List ℕ → List ℕ → ℕ → ℕ → List ℕ → Type 0
IsDigest hash nonce old new at size digest =
    IsKeptDigest hash old new at size digest ⊎ IsMadeDigest hash nonce new at size digest

-- what holds of each digest that a table shows behind work of a core
abbrev HasDigests : Core → Table → Type 0
HasDigests core table = (at size : ℕ) (digest : List ℕ) → shown_hash table.power ≡ Done at size digest → IsDigest core.live.hash core.nonce core.flash table.flash at size digest

has-kept : (core after : Core) (bus : BusState) → KeepsDigests core after → HasDigests core (table_of after bus)
has-kept core after bus keeps at size digest shown = inl (keeps at size digest shown)

outcome-digests : (core : Core) (bus : BusAnswer) (lost : ℕ) (outcome : Outcome) → KeepsDigestsOutcome core outcome → HasDigests core (after_outcome core bus lost outcome).table
outcome-digests core bus lost (Answered after status body) keeps = λ at size digest shown. inl (keeps at size digest shown)
outcome-digests core bus lost Restarts keeps = λ at size digest shown. cc

unread-digests : (core : Core) (bus : BusAnswer) (lost : ℕ) (outcome : Outcome) → HasDigests core (after_unread core bus lost outcome).table
unread-digests core bus lost (Answered after status body) = λ at size digest shown. inl (digests-self core at size digest shown)
unread-digests core bus lost Restarts = λ at size digest shown. cc

-- the parts of a finished hash
abbrev place_of : HashView → ℕ
place_of (Done at size digest) = at
place_of other = 0

abbrev count_of : HashView → ℕ
count_of (Done at size digest) = size
count_of other = 0

abbrev digest_of : HashView → List ℕ
digest_of (Done at size digest) = digest
digest_of other = []

-- the last tick of a hash makes its digest
made : (core : Core) (place count left at size : ℕ) (digest : List ℕ) → core.live.hash ≡ Busy place count left
    → Done place count (sha256 (core.nonce ++ part (record { at = place; size = count }) core.flash)) ≡ Done at size digest → IsMadeDigest core.live.hash core.nonce core.flash at size digest
made core place count left at size digest busy shown =
    let same_place : place ≡ at = ap place_of shown in
    let same_count : count ≡ size = ap count_of shown in
    record {
      left = left;
      busy = busy ∙ ap (λ (n : ℕ). Busy n count left) same_place ∙ ap (λ (n : ℕ). Busy at n left) same_count;
      digest_is = rw (← same_place, ← same_count) (sym (ap digest_of shown));
    }

ticked-digests : (core : Core) (hash : HashView) (bus : BusState) → core.live.hash ≡ hash → HasDigests core (table_of (hash_ticked hash core) bus)
ticked-digests core Idle bus same = has-kept core core bus (digests-self core)
ticked-digests core (Busy place count left) bus same = λ at size digest.
    if_cases (λ (after : Core). after.live.hash ≡ Done at size digest → IsDigest core.live.hash core.nonce core.flash after.flash at size digest) (nat_le left 1) _ _
    (λ last shown. inr (made core place count left at size digest same shown)) (λ more shown. cc)
ticked-digests core (Done place count digest) bus same = has-kept core core bus (digests-self core)

-- the next block of an erase
erased-digests : (core : Core) (job : EraseJob) → AllAbove 0 (length core.flash) (Erase job.next ∷ []) → KeepsDigests core (block_erased job core)
erased-digests core job inside at size digest shown = touched_by-kept (Erase job.next ∷ []) core core.flash (length core.flash) at size digest refl inside shown

worked-digests : (core : Core) (bus : BusAnswer) (lost : ℕ) (work : Work) → IsCoreValid core → WorkJob core work → HasDigests core (worked core bus lost work).table
worked-digests core bus lost Rest valid job = has-kept core core bus.state (digests-self core)
worked-digests core bus lost (Serve request) valid job = outcome-digests core bus lost _ (handled-digests core (packet_limit (kind_of bus.state)) request valid)
worked-digests core bus lost (EraseNext erase) valid job = has-kept core (block_erased erase core) bus.state (erased-digests core erase (work_operations-inside core (EraseNext erase) valid job))
worked-digests core bus lost HashNext valid job = ticked-digests core core.live.hash bus.state refl
worked-digests core bus lost (Boot cause) valid job = λ at size digest shown. cc
worked-digests core bus lost Stop valid job = λ at size digest shown. cc
worked-digests core bus lost (SetPin on) valid job = λ at size digest shown. inl (record { shown = shown; bytes = refl })

-- work in which a read failed
work_unread-digests : (core : Core) (bus : BusAnswer) (lost : ℕ) (work : Work) → HasDigests core (unread core bus lost work).table
work_unread-digests core bus lost (Serve request) = unread-digests core bus lost (handled core (packet_limit (kind_of bus.state)) request)
work_unread-digests core bus lost HashNext = λ at size digest shown. cc
work_unread-digests core bus lost (Boot cause) = λ at size digest shown. cc
work_unread-digests core bus lost other = λ at size digest shown. inl (record { shown = shown; bytes = refl })

-- work in which an operation failed: its range is touched, too
failed-digests : (core : Core) (flash : List ℕ) (k : ℕ) (operations : List Operation) → AllAbove 0 (length core.flash) operations → StopsAt k operations core.flash flash → KeepsDigests core (failed_core core flash operations k)
failed-digests core flash k operations inside stops at size digest shown =
    stopped-kept k operations stops.stopped core core.flash flash (length core.flash) at size digest refl inside stops.is_there stops.torn shown

unfinished-digests : (core : Core) (flash : List ℕ) (k : ℕ) (bus : BusAnswer) (work : Work) → AllAbove 0 (length core.flash) (work_operations core work) → StopsAt k (work_operations core work) core.flash flash
    → HasDigests core (unfinished (failed_core core flash (work_operations core work) k) bus work).table
unfinished-digests core flash k bus (Serve request) inside stops = λ at size digest shown. inl (failed-digests core flash k (work_operations core (Serve request)) inside stops at size digest shown)
unfinished-digests core flash k bus other inside stops = λ at size digest shown. inl (failed-digests core flash k (work_operations core other) inside stops at size digest shown)

work-digests : (hurt : Hurt) (core : Core) (bus : BusAnswer) (lost : ℕ) (work : Work) (after : After) → IsCoreValid core → WorkJob core work → WorkLeaves hurt core bus lost work after → HasDigests core after.table
work-digests Whole core bus lost work after valid job leaves = rw leaves (worked-digests core bus lost work valid job)
work-digests Failed core bus lost work after valid job (inl failed) = rw failed.leaves (work_unread-digests core bus lost work)
work-digests Failed core bus lost work after valid job (inr failed) =
    rw failed.leaves (unfinished-digests core failed.flash failed.place bus work (work_operations-inside core work valid job) failed.stops)
work-digests Cut core bus lost work after valid job cut = rw cut.leaves (λ at size digest shown. cc)

-- what holds of each digest that a table shows behind a step
abbrev pub StepDigests : Table → Power → Table → Type 0
StepDigests old power new = (at size : ℕ) (digest : List ℕ) → shown_hash new.power ≡ Done at size digest → IsDigest (shown_hash power) (kept_nonce power) old.flash new.flash at size digest

off-digests : (hurt : Hurt) (old : Table) (event : Event) (after : After) → old.power ≡ Off → OffLeaves hurt old event after → StepDigests old Off after.table
off-digests Whole old (PowerEvent true) after off leaves = rw leaves (λ at size digest shown. cc)
off-digests Whole old (PinEvent on) after off leaves = rw leaves (λ at size digest shown. cc)
off-digests Whole old other after off leaves = rw leaves (λ at size digest shown. none at size digest (ap shown_hash (sym off) ∙ shown)) where
  none : (at size : ℕ) (digest : List ℕ) → Idle ≡ Done at size digest → IsDigest Idle [] old.flash old.flash at size digest
  none at size digest shown = cc
off-digests Failed old event after off leaves = rw leaves.1 (λ at size digest shown. cc)
off-digests Cut old event after off leaves = absurd leaves

event-digests : (hurt : Hurt) (old : Table) (event : Event) (power : Power) (after : After) → Valid old → old.power ≡ power → IsPowerValid (length old.flash) old.kind power → EventLeavesBy hurt old event power after → StepDigests old power after.table
event-digests hurt old event Off after valid same power_valid leaves = off-digests hurt old event after same leaves
event-digests hurt old event (On awake) after valid same power_valid leaves =
    work-digests hurt (core_of old awake) (bus_after awake.bus event) (lost_answer event) (work_on awake event) after
    (core-valid old awake valid.size power_valid) (work_on-job old awake event power_valid.erase) leaves

-- every step
pub step-digests : (old : Table) (entry : Entry) (new : Table) → Valid old → IsStep old entry new → StepDigests old old.power new
step-digests old (Step event answer meant seen hurt) new valid leaves = event-digests hurt old event old.power (record { table = new; answer = answer }) valid refl valid.power leaves
step-digests old (Mark line) new valid same = rw same (λ at size digest shown. inl (record { shown = shown; bytes = refl }))
