-- A sync that nothing disturbs, of a controller whose RW has the image and runs.
use Rattle.std.proofs.Common.{◌≡◌, refl, sym, ap, ◌∙◌, subst, ℕ, ◌+◌, ◌*◌, ◌/◌, ◌<◌, ◌≤◌, ◌^◌, ◌||◌, Bool, true, false, if◌then◌else◌, List, [], ◌++◌, length, replicate, None, Result, Ok, arith}
use Rattle.std.specs.Str.{bytes_eq}
use Rattle.sha2.specs.Sha256.{sha256}
use Rattle.ec_types.specs.Tables.{packet_limit}
use Rattle.ec_types.specs.declared.image.Fit.{Fit}
use Rattle.ec_types.specs.declared.image.Fit.TheVariants.{Yes}
use Rattle.ec_types.specs.declared.image.ImageCopy.TheVariants.{Ro, Rw}
use Rattle.ec_model.specs.Asks.{Setting}
use Rattle.ec_model.specs.Bodies.{version_say, proto_info_say, flash_info_say1, region_info_say}
use Rattle.ec_model.specs.Image.{fit_of, expected}
use Rattle.ec_model.specs.InfoRows.{version_text, raw_version, copy_number}
use Rattle.ec_model.specs.ProtectRow.{locks_set, can_lock, protected, protect_view}
use Rattle.ec_model.specs.Ranges.{rw_range, part, is_flash_size}
use Rattle.ec_model.specs.Rounds.{protocol_request}
use Rattle.ec_model.specs.Table.{Core}
use Rattle.flash_dev.specs.Flash.{block_size}
use Rattle.command_laws.specs.Room.{command_room}
use Rattle.command_laws.specs.Standing.{IsOpen}
use Rattle.sync_rules.specs.declared.ending.Aim.{Aim}
use Rattle.sync_rules.specs.declared.ending.Stop.{Stop}
use Rattle.sync_rules.specs.Parts.{Gives, Then, When, Rests}
use Rattle.sync_rules.specs.Replies.{given_if, aim_by, aim_of}
use Rattle.sync_rules.specs.Requests.{version_request, flash_info_request, region_request, reboot_request}
use Rattle.sync_rules.specs.Steps.{AsksLimits, AsksSize, AsksRegion, AsksCopy, Surveys, Hashes, Checks, Starts, Protects, Confirms, Seals, plan_of, PlansToWrite, PlansToKeep, Plans, Prepares, CarriesOut}
use Rattle.sync_laws.specs.Calm.{Reaches, Opens}
use Rattle.sync_laws.proofs.Awaiting.{hashed}
use Rattle.sync_laws.proofs.Calmly.{then-from, then-reaches, gives-reaches, when-reaches}
use Rattle.sync_laws.proofs.Hashed.{IsFree, looks_of, hashes-reach, checks-reach}
use Rattle.sync_laws.proofs.Looked.{more-reaches, success-room, is_aimed}
use Rattle.sync_laws.proofs.Proper.{versions-length}
use Rattle.sync_laws.proofs.Quieting.{rests-open}
use Rattle.sync_laws.proofs.Rows.{copy-row, limits-row, size-row, region-row}
use Rattle.sync_laws.proofs.Sealing.{any-room, only-locks, locks-reach, without_jumps, disable-reaches}
use Rattle.sync_laws.proofs.Surveying.{runs_rw, copy-reaches, limits-reach, size-reaches, region-reaches}

-- the copy that runs, with a bound on its calls
pub copy-quick : (setting : Setting) (core : Core) → core.live.erase ≡ None → Reaches setting (AsksCopy setting) core (Ok (runs_rw core.live.copy)) core 122
copy-quick setting core none =
    let body = version_say (version_text (raw_version Ro core.flash)) (version_text (raw_version Rw core.flash)) (replicate 32 0) (copy_number core.live.copy) in
    let room = success-room setting.bus version_request core core body none (copy-row core (packet_limit setting.bus)) in
    let long = versions-length (raw_version Ro core.flash) (raw_version Rw core.flash) (copy_number core.live.copy) in
    more-reaches setting (AsksCopy setting) core (Ok (runs_rw core.live.copy)) core (command_room setting.bus version_request core) 122 (omega (arith, room, any-room setting.bus 8 (8 + length body), long)) (copy-reaches setting core none)

-- the flash, the erase and the copy stay as they were
pub record IsLike (old new : Core) : Type 0 where
  pub flash_is : new.flash ≡ old.flash
  pub erase_is : new.live.erase ≡ old.live.erase
  pub copy_is : new.live.copy ≡ old.live.copy

locks-like : (core : Core) → IsLike core (locks_set 6 6 core)
locks-like core = by (can_lock core) where
  by : (locks : Bool) → IsLike core (if locks then record core { live = record core.live { ro_now = (core.live.ro_now || true) || true; all_now = core.live.all_now || true } } else core)
  by true = record { flash_is = refl; erase_is = refl; copy_is = refl }
  by false = record { flash_is = refl; erase_is = refl; copy_is = refl }

pub protected-like : (core : Core) → IsLike core (protected 6 6 core)
protected-like core = subst (λ (c : Core). IsLike core c) (sym (only-locks core)) (locks-like core)

-- what a hash of RW needs, of a controller that is like another
free-like : (aim : Aim) (old new : Core) → IsLike old new → IsFree aim old → IsFree aim new
free-like aim old new like free = record {
  none = like.erase_is ∙ free.none;
  geometry = free.geometry ∙ ap (λ (flash : List ℕ). length flash) (sym like.flash_is);
  small = subst (λ (flash : List ℕ). length flash < 2 ^ 32) (sym like.flash_is) free.small;
}

aimed-like : (aim : Aim) (old new : Core) → IsLike old new → is_aimed aim new ≡ is_aimed aim old
aimed-like aim old new like = ap (λ (flash : List ℕ). bytes_eq (sha256 ([] ++ part (rw_range (length flash)) flash)) aim.digest) like.flash_is

-- a flash has a size that is stated
pub record IsSized (core : Core) : Type 0 where
  pub stated : is_flash_size (length core.flash) ≡ true
  pub least : 65536 ≤ length core.flash
  pub most : length core.flash ≤ 4194304

-- the controller behind the last steps
abbrev pub sealed : Core → Core
sealed core = hashed (without_jumps (protected 6 6 core))

-- the room of the last steps
abbrev pub seal_room : ℕ → ℕ
seal_room size = 42 + (24 + ((174 + looks_of size * 238 + 0) + (122 + 0)))

runs-given : (setting : Setting) (core : Core) (runs : Bool) → runs ≡ true → Reaches {A = Unit {0}} setting (Gives (given_if runs tt)) core (Ok tt) core 0
runs-given setting core runs is = subst (λ (told : Bool). Reaches {A = Unit {0}} setting (Gives (given_if told tt)) core (Ok tt) core 0) (sym is) (gives-reaches setting (Ok tt) core)

pub seals-reach : (setting : Setting) (aim : Aim) (core : Core) → IsFree aim core → IsSized core → is_aimed aim core ≡ true → runs_rw core.live.copy ≡ true → Reaches setting (Seals setting aim) core (Ok tt) (sealed core) (seal_room (length core.flash))
seals-reach setting aim core free sized aimed runs =
    let locked = protected 6 6 core in
    let like = protected-like core in
    let off = without_jumps locked in
    let free_locked = free-like aim core locked like free in
    let free_off : IsFree aim off = record { none = free_locked.none; geometry = free_locked.geometry; small = free_locked.small } in
    let long = ap (λ (flash : List ℕ). length flash) like.flash_is in
    let still : runs_rw locked.live.copy ≡ true = ap runs_rw like.copy_is ∙ runs in
    let check = subst (λ (size : ℕ). Reaches setting (Checks setting aim) off (Ok tt) (hashed off) (174 + looks_of size * 238 + 0)) long
    (checks-reach setting aim off free_off (omega (arith, long, sized.least)) (omega (arith, long, sized.most)) (aimed-like aim core locked like ∙ aimed)) in
    let last = then-reaches setting (AsksCopy setting) (λ told. Gives (given_if told tt)) (hashed off) (hashed off) (hashed off) (runs_rw locked.live.copy) (Ok tt) 122 0 (copy-quick setting (hashed off) free_locked.none) (runs-given setting (hashed off) (runs_rw locked.live.copy) still) in
    then-reaches setting (Protects setting 6) (λ flags. Then (Confirms setting (reboot_request 5)) (λ disabled. Then (Checks setting aim) (λ checked. Then (AsksCopy setting) (λ told. Gives (given_if told tt))))) core locked (hashed off) (protect_view locked).flags (Ok tt) 42 (24 + ((174 + looks_of (length core.flash) * 238 + 0) + (122 + 0)))
    (locks-reach setting core free.none)
    (then-reaches setting (Confirms setting (reboot_request 5)) (λ disabled. Then (Checks setting aim) (λ checked. Then (AsksCopy setting) (λ told. Gives (given_if told tt)))) locked off (hashed off) tt (Ok tt) 24 ((174 + looks_of (length core.flash) * 238 + 0) + (122 + 0))
    (disable-reaches setting locked free_locked.none)
    (then-reaches setting (Checks setting aim) (λ checked. Then (AsksCopy setting) (λ told. Gives (given_if told tt))) off (hashed off) (hashed off) tt (Ok tt) (174 + looks_of (length core.flash) * 238 + 0) (122 + 0) check last))

-- the questions of the survey, each with a bound on its calls
pub limits-quick : (setting : Setting) (core : Core) → core.live.erase ≡ None → Reaches setting (AsksLimits setting) core (Ok tt) core 34
limits-quick setting core none =
    let body = proto_info_say 8 (packet_limit setting.bus) (packet_limit setting.bus) 1 in
    let room = success-room setting.bus protocol_request core core body none (limits-row core (packet_limit setting.bus)) in
    more-reaches setting (AsksLimits setting) core (Ok tt) core (command_room setting.bus protocol_request core) 34 (omega (arith, room, any-room setting.bus 8 20)) (limits-reach setting core none)

size-quick : (setting : Setting) (core : Core) → core.live.erase ≡ None → IsSized core → Reaches setting (AsksSize setting) core (Ok (length core.flash)) core 46
size-quick setting core none sized =
    let room = success-room setting.bus flash_info_request core core (flash_info_say1 (length core.flash) 4 block_size block_size 64 0) none (size-row core (packet_limit setting.bus)) in
    more-reaches setting (AsksSize setting) core (Ok (length core.flash)) core (command_room setting.bus flash_info_request core) 46 (omega (arith, room, any-room setting.bus 8 32)) (size-reaches setting core none sized.stated (omega (arith, sized.most)))

region-quick : (setting : Setting) (core : Core) → core.live.erase ≡ None → IsSized core → Reaches setting (AsksRegion setting (length core.flash)) core (Ok tt) core 34
region-quick setting core none sized =
    let room = success-room setting.bus region_request core core (region_info_say (length core.flash / 2) (length core.flash / 2)) none (region-row core (packet_limit setting.bus)) in
    more-reaches setting (AsksRegion setting (length core.flash)) core (Ok tt) core (command_room setting.bus region_request core) 34 (omega (arith, room, any-room setting.bus 12 16)) (region-reaches setting core none (omega (arith, sized.most)))

-- what a fitting image is aimed at
abbrev pub aimed_at : List ℕ → Core → Aim
aimed_at image core = record { geometry = length core.flash; digest = expected image (length core.flash) }

aim-is : (image : List ℕ) (size : ℕ) → fit_of image size ≡ Yes → aim_of image size ≡ Ok (record { geometry = size; digest = expected image size })
aim-is image size fits = ap (λ (fit : Fit). aim_by fit image size) fits

-- the survey, whatever the bus was doing; `now` is the controller once no erase is pending
pub surveys-open : (setting : Setting) (image : List ℕ) (core now : Core) (pending : ℕ) → Reaches setting (AsksLimits setting) core (Ok tt) now (34 + pending) → now.live.erase ≡ None → IsSized now → fit_of image (length now.flash) ≡ Yes →
    Opens setting (Surveys setting image) core (Ok (aimed_at image now)) now (9 + ((34 + pending) + (46 + (34 + 0))))
surveys-open setting image core now pending limits none sized fits =
    let size = length now.flash in
    let aim = aimed_at image now in
    let gives = subst (λ (given : Result Aim Stop). Reaches setting (Gives (aim_of image size)) now given now 0) (aim-is image size fits) (gives-reaches setting (aim_of image size) now) in
    then-from (IsOpen setting.bus core) setting (Rests setting) (λ rested. Then (AsksLimits setting) (λ agreed. Then (AsksSize setting) (λ told. Then (AsksRegion setting told) (λ found. Gives (aim_of image told))))) core now tt (Ok aim) 9 ((34 + pending) + (46 + (34 + 0)))
    (rests-open setting core)
    (then-reaches setting (AsksLimits setting) (λ agreed. Then (AsksSize setting) (λ told. Then (AsksRegion setting told) (λ found. Gives (aim_of image told)))) core now now tt (Ok aim) (34 + pending) (46 + (34 + 0))
    limits
    (then-reaches setting (AsksSize setting) (λ told. Then (AsksRegion setting told) (λ found. Gives (aim_of image told))) now now now size (Ok aim) 46 (34 + 0)
    (size-quick setting now none sized)
    (then-reaches setting (AsksRegion setting size) (λ found. Gives (aim_of image size)) now now now tt (Ok aim) 34 0 (region-quick setting now none sized) gives)))

-- what is planned, where RW has the image and can be started
abbrev pub plan_room : ℕ → ℕ → ℕ
plan_room pending size = (9 + ((34 + pending) + (46 + (34 + 0)))) + ((174 + looks_of size * 238) + (233 + 0))

pub plans-keep : (setting : Setting) (image : List ℕ) (core now after : Core) (pending : ℕ) → Reaches setting (AsksLimits setting) core (Ok tt) now (34 + pending) → now.live.erase ≡ None → IsSized now → fit_of image (length now.flash) ≡ Yes → is_aimed (aimed_at image now) now ≡ true →
    Reaches setting (Starts setting) (hashed now) (Ok true) after 233 → Opens setting (Plans setting image) core (Ok (plan_of (aimed_at image now) false)) after (plan_room pending (length now.flash))
plans-keep setting image core now after pending limits none sized fits aimed starts =
    let size = length now.flash in
    let aim = aimed_at image now in
    let free : IsFree aim now = record { none = none; geometry = refl; small = omega (arith, sized.most) } in
    let plan = plan_of aim false in
    let keeps = then-reaches setting (Starts setting) (λ told. When told (Gives (Ok plan)) (PlansToWrite setting aim)) (hashed now) after after true (Ok plan) 233 0 starts (gives-reaches setting (Ok plan) after) in
    then-from (IsOpen setting.bus core) setting (Surveys setting image) (λ told. Then (Hashes setting told) (λ same. When same (PlansToKeep setting told) (PlansToWrite setting told))) now after aim (Ok plan) (9 + ((34 + pending) + (46 + (34 + 0)))) ((174 + looks_of size * 238) + (233 + 0))
    (surveys-open setting image core now pending limits none sized fits)
    (then-reaches setting (Hashes setting aim) (λ same. When same (PlansToKeep setting aim) (PlansToWrite setting aim)) now (hashed now) after (is_aimed aim now) (Ok plan) (174 + looks_of size * 238) (233 + 0)
    (hashes-reach setting aim now free sized.least sized.most)
    (when-reaches setting (is_aimed aim now) true (PlansToKeep setting aim) (PlansToWrite setting aim) (hashed now) (Ok plan) after (233 + 0) aimed keeps))

-- such a plan is carried out by the last steps alone
pub keeps-out : (setting : Setting) (image : List ℕ) (aim : Aim) (core : Core) → IsFree aim core → IsSized core → is_aimed aim core ≡ true → runs_rw core.live.copy ≡ true →
    Reaches setting (CarriesOut setting image (plan_of aim false)) core (Ok tt) (sealed core) (0 + seal_room (length core.flash))
keeps-out setting image aim core free sized aimed runs =
    then-reaches setting (Prepares setting image (plan_of aim false)) (λ ready. Seals setting aim) core core (sealed core) tt (Ok tt) 0 (seal_room (length core.flash)) (gives-reaches setting (Ok tt) core) (seals-reach setting aim core free sized aimed runs)
