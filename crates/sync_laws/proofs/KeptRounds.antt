-- The one round of a sync that finds nothing to write.
use Rattle.std.proofs.Common.{◌≡◌, refl, sym, ap, ◌∙◌, subst, ℕ, ◌+◌, ◌≤◌, ◌||◌, Bool, true, false, if◌then◌else◌, List, ◌++◌, length, append-nil, Option, Some, Result, Ok, arith, ◌^◌, ◌<◌, ◌&&◌, [], None}
use Rattle.std.specs.Str.{bytes_eq}
use Rattle.std.proofs.lemmas.Bool.Decides.{eqb_tells}
use Rattle.std.proofs.lemmas.Slice.Eq.{bytes_eq-Decides}
use Rattle.sha2.specs.Sha256.{sha256}
use Rattle.ec_types.specs.declared.bus.BusKind.{BusKind}
use Rattle.ec_model.specs.declared.event.Entry.{Entry}
use Rattle.ec_model.specs.Asks.{Setting}
use Rattle.ec_model.specs.HostCalls.{HostView, calls_of, view_after}
use Rattle.ec_model.specs.Image.{expected, padded}
use Rattle.ec_model.specs.ProtectRow.{can_lock, protected}
use Rattle.ec_model.specs.Ranges.{rw_range, part, is_flash_size}
use Rattle.ec_model.specs.Run.{IsRun}
use Rattle.ec_model.specs.declared.live.Live.{Live}
use Rattle.ec_model.specs.Table.{Table, Core, IsErasable}
use Rattle.ec_model.proofs.RunLaws.{run-split}
use Rattle.command_laws.specs.Standing.{IsQuiet, IsOpen, IsAt, HasRoom}
use Rattle.command_laws.proofs.Answering.{open-sound, sound-valid}
use Rattle.command_laws.proofs.Parts.{quiet-both, calls-both}
use Rattle.ec_model.specs.Stored.{stored}
use Rattle.sync_laws.specs.Calm.{Reaches}
use Rattle.sync_laws.proofs.Hashed.{IsFree}
use Rattle.sync_laws.proofs.Jumping.{IsStarted, CanStart, can-start, vector-held}
use Rattle.ec_model.specs.declared.live.EraseJob.{EraseJob}
use Rattle.command_laws.specs.Restarting.{erased}
use Rattle.ec_model.proofs.ValidRows.{IsCoreValid}
use Rattle.sync_laws.proofs.Pending.{rids, erased-valid}
use Rattle.sync_rules.specs.declared.ending.Plan.{Plan}
use Rattle.sync_rules.specs.declared.ending.Stop.{Stop}
use Rattle.sync_rules.specs.declared.ending.SyncEnd.{SyncEnd}
use Rattle.sync_rules.specs.declared.ending.SyncEnd.TheVariants.{Done}
use Rattle.sync_rules.specs.Parts.{Leads}
use Rattle.sync_rules.specs.Steps.{CarriesOut, plan_of, AsksLimits}
use Rattle.sync_rules.specs.Syncing.{began_writing, SyncRound, end_told, RoundLeads, round_setting, SyncsUpTo, Syncs}
use Rattle.sync_laws.specs.Kept.{HoldsFitting, IsSealed, IsKept, kept_room, pending_room}
use Rattle.sync_laws.proofs.Awaiting.{rw_digest, hashed}
use Rattle.sync_laws.proofs.Calmly.{behind-room}
use Rattle.sync_laws.proofs.KeptSteps.{IsSized, protected-like, aimed_at, sealed, seal_room, plan_room, plans-keep, keeps-out}
use Rattle.sync_laws.proofs.Looked.{is_aimed}
use Rattle.sync_laws.proofs.Sealing.{only-locks}
use Rattle.sync_laws.proofs.Surveying.{runs_rw}

-- a flash of the same bytes has the same size
pub sized-like : (core after : Core) → after.flash ≡ core.flash → IsSized core → IsSized after
sized-like core after same sized = record {
  stated = subst (λ (flash : List ℕ). is_flash_size (length flash) ≡ true) (sym same) sized.stated;
  least = subst (λ (flash : List ℕ). 65536 ≤ length flash) (sym same) sized.least;
  most = subst (λ (flash : List ℕ). length flash ≤ 4194304) (sym same) sized.most;
}

-- what a round came to
record IsRoundKept (bus : BusKind) (after : Core) (room : ℕ) (entries : List Entry) (wrote : Bool) (told : Result (Unit {0}) Stop) (last : Table) : Type 0 where
  pub told_is : told ≡ Ok tt
  pub wrote_is : wrote ≡ false
  pub at : IsAt bus (sealed after) last
  pub takes : length (calls_of entries) ≤ room

-- the room of a round
abbrev round_kept_room : ℕ → ℕ → ℕ
round_kept_room pending size = plan_room pending size + (0 + seal_room size)

round-kept : (setting : Setting) (image : List ℕ) (view : HostView) (core now : Core) (pending : ℕ) (table : Table) (entries : List Entry) (wrote : Bool) (told : Result (Unit {0}) Stop) (last : Table) → IsOpen setting.bus core table →
    HasRoom setting view (round_kept_room pending (length now.flash)) → IsQuiet entries → IsRun table entries last → Reaches setting (AsksLimits setting) core (Ok tt) now (34 + pending) → now.live.erase ≡ None → IsSized now → HoldsFitting image now →
    is_aimed (aimed_at image now) now ≡ true → (can : CanStart setting (hashed now)) → SyncRound setting image view entries wrote told → IsRoundKept setting.bus can.after (round_kept_room pending (length now.flash)) entries wrote told last
round-kept setting image view core now pending table entries wrote told last from has quiet run limits none sized holds aimed can round =
    let size = length now.flash in
    let aim = aimed_at image now in
    let after = can.after in
    let same : after.flash ≡ now.flash = (can.started).flash_is in
    let split = run-split table last round.planning round.rest (subst (λ (xs : List Entry). IsRun table xs last) round.parts run) in
    let quiets = quiet-both round.planning round.rest (subst (λ (xs : List Entry). IsQuiet xs) round.parts quiet) in
    let plans = plans-keep setting image core now after pending limits none sized holds.fits aimed can.starts view table round.planning round.planned split.0 from (record { on = has.on; enough = omega (arith, has.enough) }) quiets.0 split.1 round.plans in
    let leads = subst (λ (planned : Result Plan Stop). Leads planned (CarriesOut setting image) (view_after round.planning view) round.rest told) plans.told_is round.leads in
    let room = behind-room setting view round.planning (plan_room pending size) (0 + seal_room size) quiets.0 plans.takes has in
    let free : IsFree aim after = record { none = (can.started).none; geometry = sym (ap (λ (flash : List ℕ). length flash) same); small = subst (λ (flash : List ℕ). length flash < 2 ^ 32) (sym same) (omega (arith, sized.most)) } in
    let aimed_after : is_aimed aim after ≡ true = ap (λ (flash : List ℕ). bytes_eq (sha256 ([] ++ part (rw_range (length flash)) flash)) aim.digest) same ∙ aimed in
    let steps = subst (λ (flash : List ℕ). Reaches setting (CarriesOut setting image (plan_of aim false)) after (Ok tt) (sealed after) (0 + seal_room (length flash))) same (keeps-out setting image aim after free (sized-like now after same sized) aimed_after (ap runs_rw (can.started).runs)) in
    let out = steps (view_after round.planning view) split.0 round.rest told last plans.at room quiets.1 split.2 leads in
    record {
      told_is = out.told_is;
      wrote_is = round.wrote_is ∙ ap began_writing plans.told_is;
      at = out.at;
      takes = subst (λ (xs : List Entry). length (calls_of xs) ≤ round_kept_room pending size) (sym round.parts) (omega (arith, calls-both round.planning round.rest, plans.takes, out.takes));
    }

or-true : (test : Bool) → (test || true) ≡ true
or-true true = refl
or-true false = refl

-- bytes are equal to themselves
pub bytes-self : (bytes : List ℕ) → bytes_eq bytes bytes ≡ true
bytes-self bytes = (bytes_eq-Decides bytes bytes).1 refl

-- the size of a controller's flash
sized-by : (size : ℕ) → is_flash_size size ≡ true → (65536 ≤ size) × (size ≤ 4194304)
sized-by size is = (grind (arith, eqb_tells), grind (arith, eqb_tells))

pub sized-core : (core : Core) → IsCoreValid core → IsSized core
sized-core core valid =
    let bounds = sized-by (length core.flash) valid.size in
    record { stated = valid.size; least = bounds.0; most = bounds.1 }

-- the locks, where they can be set
locks-by : (core : Core) (locks : Bool) → locks ≡ true → (after : Core) → after ≡ (if locks then record core { live = record core.live { ro_now = (core.live.ro_now || true) || true; all_now = core.live.all_now || true } } else core) →
    (after.live.ro_now ≡ true) × (after.live.all_now ≡ true)
locks-by core true is after same = (ap (λ (c : Core). c.live.ro_now) same ∙ or-true (core.live.ro_now || true), ap (λ (c : Core). c.live.all_now) same ∙ or-true core.live.all_now)
locks-by core false is after same = absurd (cc)

-- whether locks can be set
can-lock-same : (core after : Core) → after.flash ≡ core.flash → after.pin ≡ core.pin → can_lock core ≡ true → can_lock after ≡ true
can-lock-same core after flash pin can = ap (λ (bytes : List ℕ). after.pin && (stored bytes).ro) flash ∙ ap (λ (asserted : Bool). asserted && (stored core.flash).ro) pin ∙ can

-- the locks leave the pin
pub protected-pin : (core : Core) → (protected 6 6 core).pin ≡ core.pin
protected-pin core = ap (λ (c : Core). c.pin) (only-locks core) ∙ by (can_lock core) where
  by : (locks : Bool) → (if locks then record core { live = record core.live { ro_now = (core.live.ro_now || true) || true; all_now = core.live.all_now || true } } else core).pin ≡ core.pin
  by true = refl
  by false = refl

-- what the last steps leave
pub seal-is : (bus : BusKind) (core after : Core) (last : Table) → IsStarted core after → IsAt bus (sealed after) last → IsSealed bus core (sealed after) last
seal-is bus core after last started at =
    let like = protected-like after in
    record {
      at = at;
      flash_is = like.flash_is ∙ started.flash_is;
      pin_is = protected-pin after ∙ started.pin_is;
      runs = like.copy_is ∙ started.runs;
      jump_off = refl;
      locked = λ can. locks-by after (can_lock after) (can-lock-same core after started.flash_is started.pin_is can) (protected 6 6 after) (only-locks after);
    }

-- RW has the digest that is aimed at
pub aimed-holds : (image : List ℕ) (core : Core) → part (rw_range (length core.flash)) core.flash ≡ padded image (length core.flash) → is_aimed (aimed_at image core) core ≡ true
aimed-holds image core holds =
    let digest : rw_digest core ≡ expected image (length core.flash) = ap sha256 holds in
    ap (λ (bytes : List ℕ). bytes_eq bytes (expected image (length core.flash))) digest ∙ bytes-self (expected image (length core.flash))

-- the calls of waiting for an erase
pub pending-few : (size : ℕ) (live : Live) (erase : Option EraseJob) → size ≤ 4194304 → IsErasable size live erase → pending_room erase ≤ 27670
pending-few size live None most erasable = omega arith
pending-few size live (Some job) most erasable = omega (arith, erasable.1, most)

pub sync-kept : (bus : BusKind) (image : List ℕ) (view : HostView) (core : Core) (table : Table) (entries : List Entry) (end : SyncEnd) (last : Table) → IsOpen bus core table → view.on ≡ true → 12000000 ≤ view.spare → IsQuiet entries → IsRun table entries last →
    HoldsFitting image (erased core) → Syncs bus image view entries end → IsKept bus core entries end last
sync-kept bus image view core table entries end last from on room quiet run holds (first, rest, writes, told, parts, round, leads) =
    let now = erased core in
    let size = length now.flash in
    let pending = pending_room core.live.erase in
    let setting = round_setting bus 2 in
    let sound = open-sound bus core table from in
    let valid = sound-valid bus core sound in
    let rid = rids setting core sound in
    let sized = sized-core now (erased-valid core valid) in
    let before = sized-core core valid in
    let split = run-split table last first rest (subst (λ (xs : List Entry). IsRun table xs last) parts run) in
    let quiets = quiet-both first rest (subst (λ (xs : List Entry). IsQuiet xs) parts quiet) in
    let can = can-start setting (hashed now) rid.none (vector-held image now.flash holds.fits holds.holds) in
    let few : 8000000 + 1500 + round_kept_room pending size ≤ view.spare = omega (arith, room, sized.most, pending-few (length core.flash) core.live core.live.erase before.most valid.erase) in
    let kept = round-kept setting image view core now pending table first writes told split.0 from (record { on = on; enough = few }) quiets.0 split.1 rid.reaches rid.none sized holds (aimed-holds image now holds.holds) can round in
    let told_end : end_told told (false || writes) ≡ Some (Done false) = ap (λ (result : Result (Unit {0}) Stop). end_told result (false || writes)) kept.told_is ∙ ap (λ (wrote : Bool). Some (Done wrote)) kept.wrote_is in
    let over = subst (λ (reached : Option SyncEnd). RoundLeads reached (SyncsUpTo 2 (false || writes) bus image (view_after first view) rest end) rest end) told_end leads in
    let still = subst (λ (xs : List Entry). IsRun split.0 xs last) over.0 split.2 in
    let at = subst (λ (t : Table). IsAt bus (sealed can.after) t) (sym still) kept.at in
    record {
      end_is = over.1;
      after = sealed can.after;
      sealed = seal-is bus now can.after last (record { flash_is = (can.started).flash_is; pin_is = (can.started).pin_is; none = (can.started).none; runs = (can.started).runs }) at;
      takes = subst (λ (xs : List Entry). length (calls_of xs) ≤ kept_room size + pending) (sym (parts ∙ ap (λ (xs : List Entry). first ++ xs) over.0 ∙ append-nil first)) (omega (arith, kept.takes));
    }
