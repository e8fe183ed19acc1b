-- Where a record has its place, a FLASH_PROTECT that fails or is cut leaves the stored bits as they were, or as was wanted.
use Rattle.std.proofs.Common.{◌≡◌, refl, sym, ap, ◌∙◌, subst, ℕ, ◌+◌, ◌-◌, ◌/◌, Bool, true, false, ◌||◌, if◌then◌else◌, List, [], ◌∷◌, length, drop, arith, inl, inr, Ok}
use Rattle.std.specs.Prelude.{◌⊎◌}
use Rattle.flash_dev.specs.Flash.{block_size}
use Rattle.ec_types.specs.LittleEndian.{u32_at}
use Rattle.ec_types.specs.Tables.{packet_limit}
use Rattle.ec_model.specs.declared.event.Event.{Event}
use Rattle.flash_dev.specs.declared.hurt.Hurt.{Hurt}
use Rattle.flash_dev.specs.declared.hurt.Hurt.TheVariants.{Whole, Failed, Cut}
use Rattle.ec_model.specs.declared.event.Entry.TheVariants.{Step}
use Rattle.ec_model.specs.Commands.{FlashProtect}
use Rattle.ec_model.specs.Stored.{AtBoot, stored, stored_in, stored_block, has_place, same_bits, mark2_bytes}
use Rattle.ec_model.specs.Bus.{BusAnswer, kind_of}
use Rattle.ec_model.specs.Table.{Table, Power, On, Core, Valid, IsPowerValid, core_of}
use Rattle.ec_model.specs.Operations.{Operation, Program, Erase, operated_all, after_operations, StopsAt}
use Rattle.ec_model.specs.ProtectRow.{wanted, record_operations, storing_operations, protect_operations, can_lock, locks_set, protected}
use Rattle.ec_model.specs.Answer.{Outcome, Answered, Restarts}
use Rattle.ec_model.specs.Handle.{asked, handled, row_of, operations_by}
use Rattle.ec_model.specs.Work.{After, Work, Serve, bus_after, lost_answer, work_operations}
use Rattle.ec_model.specs.WholeStep.{after_outcome}
use Rattle.ec_model.specs.Step.{IsStep, WorkLeaves, EventLeavesBy, after_unread}
use Rattle.ec_model.specs.Appending.{AddsWhole}
use Rattle.ec_model.proofs.GuardSteps.{if_cases}
use Rattle.ec_model.proofs.GuardStep.{size_bound}
use Rattle.ec_model.proofs.GuardLemmas.{leaves-stopped, leaves-operated_all}
use Rattle.ec_model.proofs.ValidRows.{IsCoreValid, protect-inside}
use Rattle.ec_model.proofs.ValidEvents.{core-valid}
use Rattle.ec_model.proofs.RecordLemmas.{IsRoomy, AsWasOr, next_place, record-stopped, record-done}

-- the flash that an outcome leaves
abbrev flash_of : Core → Outcome → List ℕ
flash_of core (Answered after status body) = after.flash
flash_of core Restarts = core.flash

-- no operation of none stops
none-stops : (k : ℕ) (old new : List ℕ) → StopsAt k [] old new → ⊥
none-stops k old new stops = cc

-- the bits are stored as they were, or as a FLASH_PROTECT wants them
abbrev pub KeepsOrStores : ℕ → ℕ → List ℕ → List ℕ → Type 0
KeepsOrStores mask flags before after = (stored after ≡ stored before) ⊎ (stored after ≡ wanted mask flags (stored before))

-- where the block of a flash begins
abbrev block_at : List ℕ → ℕ
block_at flash = length flash / 2 - block_size

-- what a flash of the same length has stored
stored-at : (flash after : List ℕ) → length after ≡ length flash → stored after ≡ stored_in (drop (block_at flash) after)
stored-at flash after same = ap (λ (n : ℕ). stored_in (drop (n / 2 - block_size) after)) same

keeps-or : (mask flags : ℕ) (flash after : List ℕ) (bits : AtBoot) → bits ≡ wanted mask flags (stored flash) → length after ≡ length flash → AsWasOr bits (drop (block_at flash) flash) (drop (block_at flash) after) → KeepsOrStores mask flags flash after
keeps-or mask flags flash after bits is same (inl kept) = inl (stored-at flash after same ∙ kept)
keeps-or mask flags flash after bits is same (inr done) = inr (stored-at flash after same ∙ done ∙ is)

-- the operations of a FLASH_PROTECT where a record has its place
abbrev record_of : ℕ → ℕ → List ℕ → List Operation
record_of mask flags flash = record_operations (next_place (block_at flash) flash) (wanted mask flags (stored flash))

operations-are : (core : Core) (mask flags : ℕ) → has_place (stored_block core.flash) ≡ true → same_bits (wanted mask flags (stored core.flash)) (stored core.flash) || core.live.ro_now ≡ false →
    protect_operations core mask flags ≡ record_of mask flags core.flash
operations-are core mask flags place changes =
    ap (λ (b : Bool). if b then [] else storing_operations core.flash (wanted mask flags (stored core.flash))) changes
    ∙ ap (λ (b : Bool). if b then record_of mask flags core.flash else Erase (block_at core.flash / block_size) ∷ Program (block_at core.flash) mark2_bytes ∷ record_operations (block_at core.flash + 8) (wanted mask flags (stored core.flash))) place

none-are : (core : Core) (mask flags : ℕ) → same_bits (wanted mask flags (stored core.flash)) (stored core.flash) || core.live.ro_now ≡ true → protect_operations core mask flags ≡ []
none-are core mask flags same = ap (λ (b : Bool). if b then [] else storing_operations core.flash (wanted mask flags (stored core.flash))) same

roomy : (core : Core) → IsCoreValid core → has_place (stored_block core.flash) ≡ true → IsRoomy (block_at core.flash) core.flash
roomy core valid place = record { inside = omega (arith, size_bound (length core.flash) valid.size); place = place }

-- an operation of the command did not end
pub stopped-keeps : (core : Core) (mask flags k : ℕ) (after : List ℕ) → IsCoreValid core → has_place (stored_block core.flash) ≡ true → StopsAt k (protect_operations core mask flags) core.flash after → KeepsOrStores mask flags core.flash after
stopped-keeps core mask flags k after valid place stops = by (same_bits (wanted mask flags (stored core.flash)) (stored core.flash) || core.live.ro_now) refl where
  by : (b : Bool) → same_bits (wanted mask flags (stored core.flash)) (stored core.flash) || core.live.ro_now ≡ b → KeepsOrStores mask flags core.flash after
  by true same = absurd (none-stops k core.flash after (subst (λ (list : List Operation). StopsAt k list core.flash after) (none-are core mask flags same) stops))
  by false changes =
      keeps-or mask flags core.flash after (wanted mask flags (stored core.flash)) refl
      (leaves-stopped 0 k (protect_operations core mask flags) core.flash after (protect-inside core mask flags valid) stops).size
      (record-stopped (block_at core.flash) k (wanted mask flags (stored core.flash)) core.flash after (roomy core valid place)
      (subst (λ (list : List Operation). StopsAt k list core.flash after) (operations-are core mask flags place changes) stops))

-- all of them were done
pub done-keeps : (core : Core) (mask flags : ℕ) → IsCoreValid core → has_place (stored_block core.flash) ≡ true → KeepsOrStores mask flags core.flash (operated_all (protect_operations core mask flags) core.flash)
done-keeps core mask flags valid place = by (same_bits (wanted mask flags (stored core.flash)) (stored core.flash) || core.live.ro_now) refl where
  by : (b : Bool) → same_bits (wanted mask flags (stored core.flash)) (stored core.flash) || core.live.ro_now ≡ b → KeepsOrStores mask flags core.flash (operated_all (protect_operations core mask flags) core.flash)
  by true same = inl (ap (λ (list : List Operation). stored (operated_all list core.flash)) (none-are core mask flags same))
  by false changes =
      let after : List ℕ = operated_all (protect_operations core mask flags) core.flash in
      let size = (leaves-operated_all 0 (length core.flash) (protect_operations core mask flags) core.flash refl (protect-inside core mask flags valid)).size in
      inr (stored-at core.flash after size
      ∙ ap (λ (list : List Operation). stored_in (drop (block_at core.flash) (operated_all list core.flash))) (operations-are core mask flags place changes)
      ∙ record-done (block_at core.flash) (wanted mask flags (stored core.flash)) core.flash (roomy core valid place))

pub same-flash : (mask flags : ℕ) (core : Core) → (locks_set mask flags core).flash ≡ core.flash
same-flash mask flags core = if_cases (λ (c : Core). c.flash ≡ core.flash) (can_lock core) _ core (λ can. refl) (λ cannot. refl)

-- what a request leaves that asks it
request-keeps : (core : Core) (limit : ℕ) (mask flags version : ℕ) (body request : List ℕ) → IsCoreValid core → has_place (stored_block core.flash) ≡ true →
    asked core request ≡ Ok (record { command = FlashProtect; version = version; body = body }) → u32_at 0 body ≡ mask → u32_at 4 body ≡ flags →
    (after : Core) (status : ℕ) (said : List ℕ) → handled core limit request ≡ Answered after status said → KeepsOrStores mask flags core.flash after.flash
request-keeps core limit mask flags version body request valid place asks mask_is flags_is after status said same =
    let row_is : Answered (protected (u32_at 0 body) (u32_at 4 body) core) 0 _ ≡ Answered after status said = sym (ap (row_of core limit) asks) ∙ same in
    let flash_is : (protected (u32_at 0 body) (u32_at 4 body) core).flash ≡ after.flash = ap (flash_of core) row_is in
    let made : operated_all (protect_operations core (u32_at 0 body) (u32_at 4 body)) core.flash ≡ after.flash =
    sym (same-flash (u32_at 0 body) (u32_at 4 body) (after_operations (protect_operations core (u32_at 0 body) (u32_at 4 body)) core)) ∙ flash_is in
    subst (λ (flash : List ℕ). KeepsOrStores mask flags core.flash flash) made
    (subst (λ (m : ℕ). KeepsOrStores m flags core.flash (operated_all (protect_operations core (u32_at 0 body) (u32_at 4 body)) core.flash)) mask_is
    (subst (λ (f : ℕ). KeepsOrStores (u32_at 0 body) f core.flash (operated_all (protect_operations core (u32_at 0 body) (u32_at 4 body)) core.flash)) flags_is
    (done-keeps core (u32_at 0 body) (u32_at 4 body) valid place)))

-- the operations of such a request
stops-keep : (core : Core) (mask flags version : ℕ) (body request : List ℕ) (k : ℕ) (after : List ℕ) → IsCoreValid core → has_place (stored_block core.flash) ≡ true →
    asked core request ≡ Ok (record { command = FlashProtect; version = version; body = body }) → u32_at 0 body ≡ mask → u32_at 4 body ≡ flags →
    StopsAt k (work_operations core (Serve request)) core.flash after → KeepsOrStores mask flags core.flash after
stops-keep core mask flags version body request k after valid place asks mask_is flags_is stops =
    let operations : work_operations core (Serve request) ≡ protect_operations core mask flags =
    ap (operations_by core) asks ∙ ap (λ (m : ℕ). protect_operations core m (u32_at 4 body)) mask_is ∙ ap (protect_operations core mask) flags_is in
    stopped-keeps core mask flags k after valid place (subst (λ (list : List Operation). StopsAt k list core.flash after) operations stops)

outcome-keeps : (core : Core) (bus : BusAnswer) (lost : ℕ) (mask flags : ℕ) (outcome : Outcome) → ((after : Core) (status : ℕ) (said : List ℕ) → outcome ≡ Answered after status said → KeepsOrStores mask flags core.flash after.flash) →
    KeepsOrStores mask flags core.flash (after_outcome core bus lost outcome).table.flash
outcome-keeps core bus lost mask flags (Answered after status said) keeps = keeps after status said refl
outcome-keeps core bus lost mask flags Restarts keeps = inl refl

unread-keeps : (core : Core) (bus : BusAnswer) (lost : ℕ) (mask flags : ℕ) (outcome : Outcome) → KeepsOrStores mask flags core.flash (after_unread core bus lost outcome).table.flash
unread-keeps core bus lost mask flags (Answered after status said) = inl refl
unread-keeps core bus lost mask flags Restarts = inl refl

work-keeps : (hurt : Hurt) (core : Core) (bus : BusAnswer) (lost mask flags version : ℕ) (body request : List ℕ) (after : After) → IsCoreValid core → has_place (stored_block core.flash) ≡ true →
    asked core request ≡ Ok (record { command = FlashProtect; version = version; body = body }) → u32_at 0 body ≡ mask → u32_at 4 body ≡ flags →
    WorkLeaves hurt core bus lost (Serve request) after → KeepsOrStores mask flags core.flash after.table.flash
work-keeps Whole core bus lost mask flags version body request after valid place asks mask_is flags_is leaves =
    rw leaves (outcome-keeps core bus lost mask flags _ (request-keeps core (packet_limit (kind_of bus.state)) mask flags version body request valid place asks mask_is flags_is))
work-keeps Failed core bus lost mask flags version body request after valid place asks mask_is flags_is (inl failed) =
    rw failed.leaves (unread-keeps core bus lost mask flags (handled core (packet_limit (kind_of bus.state)) request))
work-keeps Failed core bus lost mask flags version body request after valid place asks mask_is flags_is (inr failed) =
    rw failed.leaves (stops-keep core mask flags version body request failed.place failed.flash valid place asks mask_is flags_is failed.stops)
work-keeps Cut core bus lost mask flags version body request after valid place asks mask_is flags_is cut =
    rw cut.leaves (stops-keep core mask flags version body request cut.place cut.flash valid place asks mask_is flags_is cut.stops)

-- every step
pub step-adds : (old : Table) (event : Event) (answer meant seen : ℕ) (hurt : Hurt) (new : Table) → Valid old → IsStep old (Step event answer meant seen hurt) new → AddsWhole event old new
step-adds old event answer meant seen hurt new valid step mask flags serves place =
    let power : IsPowerValid (length old.flash) old.kind (On serves.awake) = subst (λ (p : Power). IsPowerValid (length old.flash) old.kind p) serves.on valid.power in
    let leaves : EventLeavesBy hurt old event (On serves.awake) (record { table = new; answer = answer }) =
    subst (λ (p : Power). EventLeavesBy hurt old event p (record { table = new; answer = answer })) serves.on step in
    work-keeps hurt (core_of old serves.awake) (bus_after serves.awake.bus event) (lost_answer event) mask flags serves.version serves.body serves.request (record { table = new; answer = answer })
    (core-valid old serves.awake valid.size power) place serves.asks serves.mask_is serves.flags_is
    (subst (λ (w : Work). WorkLeaves hurt (core_of old serves.awake) (bus_after serves.awake.bus event) (lost_answer event) w (record { table = new; answer = answer })) serves.serves leaves)
