-- A sync that nothing disturbs succeeds from each state from which it has to.
use Rattle.std.proofs.Common.{◌≡◌, ◌⊎◌, inl, inr, refl, sym, ap, ◌∙◌, subst, ℕ, ◌+◌, ◌-◌, ◌*◌, ◌/◌, ◌≤◌, ◌&&◌, ◌||◌, Bool, true, false, nat_lt, List, length, take, Option, Some, None, arith}
use Rattle.std.proofs.lemmas.Bool.Decides.{leb_tells}
use Rattle.sha2.specs.Sha256.{sha256}
use Rattle.ec_types.specs.LittleEndian.{AreBytes}
use Rattle.ec_types.specs.declared.bus.BusKind.{BusKind}
use Rattle.ec_types.specs.declared.image.Fit.TheVariants.{Yes}
use Rattle.ec_model.specs.declared.event.Entry.{Entry}
use Rattle.ec_model.specs.declared.live.EraseJob.{EraseJob}
use Rattle.ec_model.specs.declared.live.Live.{Live}
use Rattle.ec_model.specs.Boot.{boots_all_locked}
use Rattle.ec_model.specs.HostCalls.{HostView}
use Rattle.ec_model.specs.Image.{fit_of, padded}
use Rattle.ec_model.specs.ProtectRow.{can_lock}
use Rattle.ec_model.specs.Ranges.{rw_range, part}
use Rattle.ec_model.specs.Run.{IsRun}
use Rattle.ec_model.specs.Stored.{stored}
use Rattle.ec_model.specs.Syncable.{erases_rw, is_erasing_rw, HoldsImage, is_all_lock_stored, settled, Syncable}
use Rattle.ec_model.specs.Table.{Table, Core, Valid, IsErasable, core_of}
use Rattle.ec_model.proofs.ValidRows.{IsCoreValid}
use Rattle.command_laws.specs.Restarting.{blocks_left, erased}
use Rattle.command_laws.specs.Standing.{IsQuiet, IsOpen}
use Rattle.command_laws.proofs.Answering.{open-sound, sound-valid}
use Rattle.command_laws.proofs.Opening.{HasAwake, awake-in, opens}
use Rattle.sync_rules.specs.declared.ending.SyncEnd.{SyncEnd}
use Rattle.sync_rules.specs.Syncing.{Syncs}
use Rattle.sync_laws.specs.Kept.{HoldsFitting}
use Rattle.sync_laws.specs.Synced.{IsSynced}
use Rattle.sync_laws.proofs.Beneath.{IsBelow, IsSpared, ticks-spare, ticks-unlocked, ticks-long}
use Rattle.sync_laws.proofs.KeptRounds.{sync-kept}
use Rattle.sync_laws.proofs.Writable.{IsHalved, halved}
use Rattle.sync_laws.proofs.WrittenRounds.{digest-like}
use Rattle.sync_laws.proofs.WrittenSync.{erased-pin, sync-written}

-- an erase without a block in RW has its blocks below it
second-false : (one two : Bool) → one ≡ true → (one && two) ≡ false → two ≡ false
second-false true two is none = none
second-false false two is none = absurd (cc)

below-by : (size : ℕ) (live : Live) (erase : Option EraseJob) → IsHalved size → IsErasable size live erase → erases_rw size erase ≡ false → IsBelow (size / 2) erase
below-by size live None half erasable apart = tt
below-by size live (Some job) half erasable apart =
    let begins : nat_lt (job.next * 4096) (size / 2 + size / 2) ≡ true = grind (arith, leb_tells, half.both, erasable.0, erasable.1) in
    let ends = second-false (nat_lt (job.next * 4096) (size / 2 + size / 2)) (nat_lt (size / 2) (job.next * 4096 + job.left * 4096)) begins apart in
    grind (arith, leb_tells, ends)

-- RW has the image once such an erase is over
spared-holds : (image : List ℕ) (core after : Core) → IsSpared core.flash after.flash → fit_of image (length core.flash) ≡ Yes → part (rw_range (length core.flash)) core.flash ≡ padded image (length core.flash) → HoldsFitting image after
spared-holds image core after spared fits holds =
    let size = length core.flash in
    record {
      fits = ap (fit_of image) spared.long ∙ fits;
      holds = ap (λ (n : ℕ). part (rw_range n) after.flash) spared.long ∙ ap (take (size / 2 + size / 2 - size / 2)) spared.same ∙ holds ∙ ap (padded image) (sym spared.long);
    }

kept-holds : (image : List ℕ) (core : Core) → IsCoreValid core → fit_of image (length core.flash) ≡ Yes → part (rw_range (length core.flash)) core.flash ≡ padded image (length core.flash) → erases_rw (length core.flash) core.live.erase ≡ false → HoldsFitting image (erased core)
kept-holds image core valid fits holds apart =
    spared-holds image core (erased core) (ticks-spare (blocks_left core.live.erase) core valid (below-by (length core.flash) core.live core.live.erase (halved (length core.flash) valid.size) valid.erase apart)) fits holds

-- a restart does not lock the whole flash once the erase is over, where that lock was not stored under an asserted pin
pin-free : (core : Core) → core.pin ≡ false → boots_all_locked core.flash core.pin false ≡ false
pin-free core is = ap (λ (pin : Bool). boots_all_locked core.flash pin false) is

all-free : (core : Core) → (stored core.flash).all ≡ false → boots_all_locked core.flash core.pin false ≡ false
all-free core is = ap (λ (all : Bool). ((core.pin && ((stored core.flash).ro || false)) && true) && all) is ∙ none ((core.pin && ((stored core.flash).ro || false)) && true) where
  none : (test : Bool) → (test && false) ≡ false
  none true = refl
  none false = refl

free-by : (core : Core) (pin : Bool) → core.pin ≡ pin → IsCoreValid core → ((stored core.flash).all && core.pin) ≡ false → boots_all_locked (erased core).flash (erased core).pin false ≡ false
free-by core false is valid free = pin-free (erased core) (erased-pin (blocks_left core.live.erase) core ∙ is)
free-by core true is valid free = all-free (erased core) (ticks-unlocked (blocks_left core.live.erase) core valid (by (stored core.flash).all (ap (λ (pin : Bool). (stored core.flash).all && pin) (sym is) ∙ free))) where
  by : (all : Bool) → (all && true) ≡ false → all ≡ false
  by true none = absurd (cc)
  by false none = refl

erased-free : (core : Core) → IsCoreValid core → ((stored core.flash).all && core.pin) ≡ false → boots_all_locked (erased core).flash (erased core).pin false ≡ false
erased-free core valid free = free-by core core.pin refl valid free

-- where locks can be set behind the sync, they could before
could-lock : (one other : Core) → one.pin ≡ other.pin → stored one.flash ≡ stored other.flash → can_lock one ≡ true → can_lock other ≡ true
could-lock one other pin same can = ap (λ (asserted : Bool). asserted && (stored other.flash).ro) (sym pin) ∙ ap (λ bits. one.pin && bits.ro) (sym same) ∙ can

-- by what makes it succeed
by-writable : (bus : BusKind) (image : List ℕ) (view : HostView) (table : Table) (core : Core) (entries : List Entry) (end : SyncEnd) (last : Table) → IsOpen bus core table → view.on ≡ true → 12000000 ≤ view.spare → IsQuiet entries → IsRun table entries last →
    fit_of image (length core.flash) ≡ Yes → AreBytes image → (part (rw_range (length core.flash)) core.flash ≡ padded image (length core.flash)) × (erases_rw (length core.flash) core.live.erase ≡ false) ⊎ (((stored core.flash).all && core.pin) ≡ false) → Syncs bus image view entries end → IsSynced bus image end last
by-writable bus image view table core entries end last from on room quiet run fits bytes (inl kept) syncs =
    let valid = sound-valid bus core (open-sound bus core table from) in
    let holds = kept-holds image core valid fits kept.0 kept.1 in
    let is = sync-kept bus image view core table entries end last from on room quiet run holds syncs in
    let seal = is.sealed in
    record {
      wrote = false;
      end_is = is.end_is;
      after = is.after;
      at = seal.at;
      digest = digest-like image (erased core) is.after seal.flash_is (ap sha256 holds.holds);
      runs = seal.runs;
      jump_off = seal.jump_off;
      locked = λ can. seal.locked (could-lock is.after (erased core) seal.pin_is (ap stored seal.flash_is) can);
    }
by-writable bus image view table core entries end last from on room quiet run fits bytes (inr free) syncs =
    let valid = sound-valid bus core (open-sound bus core table from) in
    let long : length (erased core).flash ≡ length core.flash = (ticks-long (blocks_left core.live.erase) core valid) in
    let is = sync-written bus image view core table entries end last from on room quiet run (record { bytes = bytes; fits = ap (fit_of image) long ∙ fits; unlocked = erased-free core valid free }) syncs in
    record {
      wrote = is.wrote;
      end_is = is.end_is;
      after = is.after;
      at = is.at;
      digest = is.digest;
      runs = is.runs;
      jump_off = is.jump_off;
      locked = λ can. is.locked (could-lock is.after (erased core) (is.pin_is ∙ sym (erased-pin (blocks_left core.live.erase) core)) is.stored_is can);
    }

-- the core once the request that waits was served
pub sync-succeeds : (bus : BusKind) (image : List ℕ) (view : HostView) (table : Table) (entries : List Entry) (end : SyncEnd) (last : Table) → Valid table → table.kind ≡ bus → Syncable table image → fit_of image (length (settled table).flash) ≡ Yes → AreBytes image →
    view.on ≡ true → 12000000 ≤ view.spare → IsQuiet entries → IsRun table entries last → Syncs bus image view entries end → IsSynced bus image end last
sync-succeeds bus image view table entries end last valid kind able fits bytes on room quiet run syncs =
    let has = awake-in (settled table).power able.on in
    let core = core_of (settled table) has.awake in
    let from = subst (λ (b : BusKind). IsOpen b core table) kind (opens table has valid) in
    by-writable bus image view table core entries end last from on room quiet run fits bytes (writable table image has able.writable) syncs
  where
    writable : (table : Table) (image : List ℕ) (has : HasAwake (settled table).power) → HoldsImage (settled table) image ⊎ (is_all_lock_stored (settled table) ≡ false) →
        (part (rw_range (length (settled table).flash)) (settled table).flash ≡ padded image (length (settled table).flash)) × (erases_rw (length (settled table).flash) has.awake.live.erase ≡ false) ⊎ (((stored (settled table).flash).all && (settled table).pin) ≡ false)
    writable table image has (inl holds) = inl (holds.same, ap (is_erasing_rw (length (settled table).flash)) (sym has.on) ∙ holds.kept)
    writable table image has (inr free) = inr free
