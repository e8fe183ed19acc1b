-- The one round of a sync that writes RW where it has to.
use Rattle.std.proofs.Common.{◌≡◌, ◌⊎◌, inl, inr, refl, sym, ap, ◌∙◌, subst, ℕ, ◌+◌, ◌/◌, Bool, true, false, if◌then◌else◌, List, length, take, Ok, None, arith}
use Rattle.std.specs.Str.{bytes_eq}
use Rattle.std.proofs.lemmas.List.{take_at, length-take-le}
use Rattle.std.proofs.lemmas.Slice.Eq.{bytes_eq-Decides}
use Rattle.sha2.specs.Sha256.{sha256}
use Rattle.ec_types.specs.declared.bus.BusKind.{BusKind}
use Rattle.ec_types.specs.declared.image.ImageCopy.TheVariants.{Rw}
use Rattle.ec_model.specs.Asks.{Setting}
use Rattle.ec_model.specs.Image.{fit_of, padded, expected}
use Rattle.ec_model.specs.Jump.{has_vector}
use Rattle.ec_model.specs.ProtectRow.{can_lock}
use Rattle.ec_model.specs.Ranges.{rw_range, part}
use Rattle.ec_model.specs.Stored.{stored}
use Rattle.ec_model.specs.Table.{Table, Core}
use Rattle.command_laws.specs.Standing.{IsAt}
use Rattle.sync_rules.specs.declared.ending.Aim.{Aim}
use Rattle.sync_rules.specs.Steps.{AsksLimits, Plans, CarriesOut, plan_of}
use Rattle.sync_laws.specs.Calm.{Reaches, Opens}
use Rattle.sync_laws.specs.Kept.{HoldsFitting}
use Rattle.sync_laws.specs.Written.{IsInstallable, installed, HasDigest, NeedsWriting}
use Rattle.sync_laws.proofs.Hashed.{IsFree}
use Rattle.sync_laws.proofs.Installing.{IsToInstall, installed-length, installed-holds}
use Rattle.sync_laws.proofs.Jumping.{IsStarted}
use Rattle.sync_laws.proofs.KeptRounds.{protected-pin, sized-like, seal-is}
use Rattle.sync_laws.proofs.KeptSteps.{IsSized, aimed_at, protected-like, sealed, seal_room, keeps-out}
use Rattle.sync_laws.proofs.Looked.{more-reaches, is_aimed}
use Rattle.sync_laws.proofs.Planning.{IsPlanned, whole_plan_room, plans-reach}
use Rattle.sync_laws.proofs.Rewriting.{IsRenewed, rewrite_room, writes-out}
use Rattle.sync_laws.proofs.Rounding.{stored-before, lock-before}
use Rattle.sync_laws.proofs.Surveying.{runs_rw}
use Rattle.sync_laws.proofs.Writable.{halved}

-- what the round leaves
pub record IsSettled (bus : BusKind) (image : List ℕ) (core : Core) (wrote : Bool) (after : Core) : Type 0 where
  pub flash_is : after.flash ≡ (if wrote then installed image core.flash else core.flash)
  pub stored_is : stored after.flash ≡ stored core.flash
  pub pin_is : after.pin ≡ core.pin
  pub holds : wrote ≡ true → HoldsFitting image after
  pub digest : HasDigest image after
  pub needed : wrote ≡ true → NeedsWriting image core
  pub runs : after.live.copy ≡ Rw
  pub jump_off : after.live.jump_off ≡ true
  pub locked : (last : Table) → IsAt bus after last → can_lock core ≡ true → (after.live.ro_now ≡ true) × (after.live.all_now ≡ true)

-- the room of what carries a plan out
abbrev pub out_room : BusKind → ℕ → ℕ
out_room bus size = rewrite_room bus size + seal_room size

-- the plan and what carries it out
pub record CanSync (setting : Setting) (image : List ℕ) (core now : Core) (pending : ℕ) : Type 0 where
  pub wrote : Bool
  pub middle : Core
  pub after : Core
  pub settled : IsSettled setting.bus image now wrote after
  pub plans : Opens setting (Plans setting image) core (Ok (plan_of (aimed_at image now) wrote)) middle (whole_plan_room pending (length now.flash))
  pub carries : Reaches setting (CarriesOut setting image (plan_of (aimed_at image now) wrote)) middle (Ok tt) after (out_room setting.bus (length now.flash))

-- whether RW has the digest
aimed-digest : (image : List ℕ) (core : Core) → is_aimed (aimed_at image core) core ≡ true → HasDigest image core
aimed-digest image core is = (bytes_eq-Decides (sha256 (part (rw_range (length core.flash)) core.flash)) (expected image (length core.flash))).0 is

other-digest : (image : List ℕ) (core : Core) → is_aimed (aimed_at image core) core ≡ false → ¬ (HasDigest image core)
other-digest image core is has =
    let same : is_aimed (aimed_at image core) core ≡ true = (bytes_eq-Decides (sha256 (part (rw_range (length core.flash)) core.flash)) (expected image (length core.flash))).1 has in
    cc

needs : (image : List ℕ) (core : Core) → (is_aimed (aimed_at image core) core ≡ false) ⊎ (has_vector core.flash Rw ≡ false) → NeedsWriting image core
needs image core (inl other) = inl (other-digest image core other)
needs image core (inr outside) = inr outside

pub digest-like : (image : List ℕ) (core after : Core) → after.flash ≡ core.flash → HasDigest image core → HasDigest image after
digest-like image core after same has = subst (λ (flash : List ℕ). sha256 (part (rw_range (length flash)) flash) ≡ expected image (length flash)) (sym same) has

-- RW is kept
keeps : (bus : BusKind) (image : List ℕ) (now middle : Core) → middle.flash ≡ now.flash → middle.pin ≡ now.pin → middle.live.erase ≡ None → middle.live.copy ≡ Rw → is_aimed (aimed_at image now) now ≡ true → IsSettled bus image now false (sealed middle)
keeps bus image now middle flash pin none runs aimed =
    let started : IsStarted now middle = record { flash_is = flash; pin_is = pin; none = none; runs = runs } in
    let like = protected-like middle in
    record {
      flash_is = like.flash_is ∙ flash;
      stored_is = ap stored (like.flash_is ∙ flash);
      pin_is = protected-pin middle ∙ pin;
      holds = λ never. absurd (cc);
      digest = digest-like image now (sealed middle) (like.flash_is ∙ flash) (aimed-digest image now aimed);
      needed = λ never. absurd (cc);
      runs = like.copy_is ∙ runs;
      jump_off = refl;
      locked = λ last at can. (seal-is bus now middle last started at).locked can;
    }

-- the flash with the image has the same stored protection
installed-stored : (image : List ℕ) (core : Core) → IsToInstall image core → stored (installed image core.flash) ≡ stored core.flash
installed-stored image core to =
    let size = length core.flash in
    let half = halved size to.sized.stated in
    stored-before (installed image core.flash) core.flash (installed-length image core to) (omega (arith, half.least)) (take_at (take (size / 2) core.flash) (padded image size) (size / 2) (length-take-le (size / 2) core.flash (omega (arith, half.both))))

-- RW is written
writes : (bus : BusKind) (image : List ℕ) (now started : Core) → IsToInstall image now → IsRenewed image now started → (is_aimed (aimed_at image now) now ≡ false) ⊎ (has_vector now.flash Rw ≡ false) → IsSettled bus image now true (sealed started)
writes bus image now started to is why =
    let with_image : Core = record now { flash = installed image now.flash } in
    let starts : IsStarted with_image started = record { flash_is = is.flash_is; pin_is = is.pin_is; none = is.none; runs = is.runs } in
    let like = protected-like started in
    let holds = installed-holds image now (sealed started) to (like.flash_is ∙ is.flash_is) in
    record {
      flash_is = like.flash_is ∙ is.flash_is;
      stored_is = ap stored (like.flash_is ∙ is.flash_is) ∙ installed-stored image now to;
      pin_is = protected-pin started ∙ is.pin_is;
      holds = λ wrote. holds;
      digest = ap sha256 holds.holds;
      needed = λ wrote. needs image now why;
      runs = like.copy_is ∙ is.runs;
      jump_off = refl;
      locked = λ last at can. (seal-is bus with_image started last starts at).locked (lock-before with_image now refl (installed-stored image now to) can);
    }

-- a controller with another state and the same flash
to-like : (image : List ℕ) (core after : Core) → after.flash ≡ core.flash → IsToInstall image core → IsToInstall image after
to-like image core after same to = record { sized = sized-like core after same to.sized; fits = ap (λ (flash : List ℕ). fit_of image (length flash)) same ∙ to.fits; are = to.are }

aim-like : (image : List ℕ) (core after : Core) → after.flash ≡ core.flash → aimed_at image after ≡ aimed_at image core
aim-like image core after same = ap (λ (flash : List ℕ). record { geometry = length flash; digest = expected image (length flash) }) same

renewed-like : (image : List ℕ) (core middle after : Core) → middle.flash ≡ core.flash → middle.pin ≡ core.pin → IsRenewed image middle after → IsRenewed image core after
renewed-like image core middle after same pin is = record { flash_is = is.flash_is ∙ ap (installed image) same; pin_is = is.pin_is ∙ pin; none = is.none; runs = is.runs }

-- by what is planned
sync-by : (setting : Setting) (image : List ℕ) (core now : Core) (pending : ℕ) (planned : IsPlanned setting image core now pending) (rewrites : Bool) → planned.chosen.rewrites ≡ rewrites → IsToInstall image now → CanSync setting image core now pending
sync-by setting image core now pending planned false is to =
    let size = length now.flash in
    let aim = aimed_at image now in
    let middle = planned.chosen.middle in
    let same = planned.chosen.flash_is in
    let kept = planned.chosen.kept is in
    let long : length middle.flash ≡ size = ap (λ (flash : List ℕ). length flash) same in
    let free : IsFree aim middle = record { none = planned.chosen.none; geometry = sym long; small = omega (arith, long, to.sized.most) } in
    let aimed : is_aimed aim middle ≡ true = ap (λ (flash : List ℕ). bytes_eq (sha256 (part (rw_range (length flash)) flash)) aim.digest) same ∙ kept.1 in
    let out = subst (λ (n : ℕ). Reaches setting (CarriesOut setting image (plan_of aim false)) middle (Ok tt) (sealed middle) (0 + seal_room n)) long (keeps-out setting image aim middle free (sized-like now middle same to.sized) aimed (ap runs_rw kept.0)) in
    record {
      wrote = false;
      middle = middle;
      after = sealed middle;
      settled = keeps setting.bus image now middle same planned.chosen.pin_is planned.chosen.none kept.0 kept.1;
      plans = subst (λ (b : Bool). Opens setting (Plans setting image) core (Ok (plan_of aim b)) middle (whole_plan_room pending size)) is planned.plans;
      carries = more-reaches setting (CarriesOut setting image (plan_of aim false)) middle (Ok tt) (sealed middle) (0 + seal_room size) (out_room setting.bus size) (omega arith) out;
    }
sync-by setting image core now pending planned true is to =
    let size = length now.flash in
    let aim = aimed_at image now in
    let middle = planned.chosen.middle in
    let same = planned.chosen.flash_is in
    let long : length middle.flash ≡ size = ap (λ (flash : List ℕ). length flash) same in
    let can = writes-out setting image middle (planned.chosen.freed is) (to-like image now middle same to) in
    let started = can.started in
    record {
      wrote = true;
      middle = middle;
      after = sealed started;
      settled = writes setting.bus image now started to (renewed-like image now middle started same planned.chosen.pin_is can.renewed) (planned.chosen.needed is);
      plans = subst (λ (b : Bool). Opens setting (Plans setting image) core (Ok (plan_of aim b)) middle (whole_plan_room pending size)) is planned.plans;
      carries = subst (λ (n : ℕ). Reaches setting (CarriesOut setting image (plan_of aim true)) middle (Ok tt) (sealed started) (out_room setting.bus n)) long
          (subst (λ (a : Aim). Reaches setting (CarriesOut setting image (plan_of a true)) middle (Ok tt) (sealed started) (out_room setting.bus (length middle.flash))) (aim-like image now middle same) can.carries);
    }

pub can-sync : (setting : Setting) (image : List ℕ) (core now : Core) (pending : ℕ) → Reaches setting (AsksLimits setting) core (Ok tt) now (34 + pending) → now.live.erase ≡ None → IsSized now → IsInstallable image now → CanSync setting image core now pending
can-sync setting image core now pending limits none sized able =
    let planned = plans-reach setting image core now pending limits none sized able.fits able.unlocked in
    sync-by setting image core now pending planned planned.chosen.rewrites refl (record { sized = sized; fits = able.fits; are = able.bytes })
