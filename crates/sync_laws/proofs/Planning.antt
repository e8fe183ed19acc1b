-- What is planned for RW, where nothing disturbs it.
use Rattle.std.proofs.Common.{◌≡◌, ◌⊎◌, inl, inr, refl, ap, ◌∙◌, ℕ, ◌+◌, ◌*◌, Bool, true, false, length, None, Ok, arith, List, Result}
use Rattle.ec_types.specs.declared.image.Fit.TheVariants.{Yes}
use Rattle.ec_types.specs.declared.image.ImageCopy.TheVariants.{Rw}
use Rattle.ec_model.specs.declared.event.Entry.{Entry}
use Rattle.ec_model.specs.Asks.{Setting}
use Rattle.ec_model.specs.Boot.{boots_all_locked}
use Rattle.ec_model.specs.HostCalls.{HostView}
use Rattle.ec_model.specs.Image.{fit_of}
use Rattle.ec_model.specs.Jump.{has_vector}
use Rattle.ec_model.specs.Table.{Core}
use Rattle.command_laws.specs.Standing.{IsOpen}
use Rattle.sync_rules.specs.declared.ending.Aim.{Aim}
use Rattle.sync_rules.specs.declared.ending.Plan.{Plan}
use Rattle.sync_rules.specs.declared.ending.Stop.{Stop}
use Rattle.sync_rules.specs.Parts.{Gives, Then, When}
use Rattle.sync_rules.specs.Steps.{AsksLimits, Surveys, Hashes, Starts, Frees, plan_of, PlansToWrite, PlansToKeep, Plans}
use Rattle.sync_laws.specs.Calm.{Reaches, Opens}
use Rattle.sync_laws.proofs.Awaiting.{hashed}
use Rattle.sync_laws.proofs.Calmly.{then-from, then-reaches, gives-reaches, when-reaches}
use Rattle.sync_laws.proofs.Freeing.{can-free}
use Rattle.sync_laws.proofs.Hashed.{IsFree, looks_of, hashes-reach}
use Rattle.sync_laws.proofs.KeptSteps.{IsSized, aimed_at, surveys-open}
use Rattle.sync_laws.proofs.Looked.{more-reaches, is_aimed}
use Rattle.sync_laws.proofs.Trying.{CanTry, can-try}
use Rattle.sync_laws.proofs.Writable.{IsReady}

-- a plan, and the controller behind it: RW has the digest and runs, or it may be written
pub record CanPlan (setting : Setting) (part : HostView → List Entry → Result Plan Stop → Type 0) (aim : Aim) (core : Core) (room : ℕ) : Type 0 where
  pub rewrites : Bool
  pub middle : Core
  pub flash_is : middle.flash ≡ core.flash
  pub pin_is : middle.pin ≡ core.pin
  pub none : middle.live.erase ≡ None
  pub kept : rewrites ≡ false → (middle.live.copy ≡ Rw) × (is_aimed aim core ≡ true)
  pub freed : rewrites ≡ true → IsReady middle
  pub needed : rewrites ≡ true → (is_aimed aim core ≡ false) ⊎ (has_vector core.flash Rw ≡ false)
  pub plans : Reaches setting part core (Ok (plan_of aim rewrites)) middle room

-- RW is to be written
to-write : (setting : Setting) (aim : Aim) (core : Core) → core.live.erase ≡ None → boots_all_locked core.flash core.pin false ≡ false → (is_aimed aim core ≡ false) ⊎ (has_vector core.flash Rw ≡ false) → CanPlan setting (PlansToWrite setting aim) aim core 247
to-write setting aim core none free why =
    let can = can-free setting core none free in
    let is = can.writable in
    record {
      rewrites = true;
      middle = can.after;
      flash_is = is.flash_is;
      pin_is = is.pin_is;
      none = is.none;
      kept = λ never. absurd (cc);
      freed = λ rewrites. record { none = is.none; runs = is.runs; open_ = is.open_ };
      needed = λ rewrites. why;
      plans = then-reaches setting (Frees setting) (λ free. Gives (Ok (plan_of aim true))) core can.after can.after tt (Ok (plan_of aim true)) 247 0 can.frees (gives-reaches setting (Ok (plan_of aim true)) can.after);
    }

-- RW has the digest: it is kept, but for a vector outside of it
keep-by : (setting : Setting) (aim : Aim) (core : Core) (can : CanTry setting core) (runs : Bool) → can.runs ≡ runs → is_aimed aim core ≡ true → boots_all_locked core.flash core.pin false ≡ false → CanPlan setting (PlansToKeep setting aim) aim core 480
keep-by setting aim core can true is aimed free =
    let plan = plan_of aim false in
    record {
      rewrites = false;
      middle = can.after;
      flash_is = can.flash_is;
      pin_is = can.pin_is;
      none = can.none;
      kept = λ keeps. (can.started is, aimed);
      freed = λ never. absurd (cc);
      needed = λ never. absurd (cc);
      plans = more-reaches setting (PlansToKeep setting aim) core (Ok plan) can.after (233 + 0) 480 (omega arith)
          (then-reaches setting (Starts setting) (λ told. When told (Gives (Ok plan)) (PlansToWrite setting aim)) core can.after can.after can.runs (Ok plan) 233 0 can.starts
          (when-reaches setting can.runs true (Gives (Ok plan)) (PlansToWrite setting aim) can.after (Ok plan) can.after 0 is (gives-reaches setting (Ok plan) can.after)));
    }
keep-by setting aim core can false is aimed free =
    let outside = can.failed is in
    let still : boots_all_locked can.after.flash can.after.pin false ≡ false = ap (λ (flash : List ℕ). boots_all_locked flash can.after.pin false) can.flash_is ∙ ap (λ (pin : Bool). boots_all_locked core.flash pin false) can.pin_is ∙ free in
    let write = to-write setting aim can.after can.none still (inr (ap (λ (flash : List ℕ). has_vector flash Rw) can.flash_is ∙ outside)) in
    record {
      rewrites = write.rewrites;
      middle = write.middle;
      flash_is = write.flash_is ∙ can.flash_is;
      pin_is = write.pin_is ∙ can.pin_is;
      none = write.none;
      kept = λ keeps. ((write.kept keeps).0, aimed);
      freed = write.freed;
      needed = λ rewrites. inr outside;
      plans = then-reaches setting (Starts setting) (λ told. When told (Gives (Ok (plan_of aim false))) (PlansToWrite setting aim)) core can.after write.middle can.runs (Ok (plan_of aim write.rewrites)) 233 247 can.starts
          (when-reaches setting can.runs false (Gives (Ok (plan_of aim false))) (PlansToWrite setting aim) can.after (Ok (plan_of aim write.rewrites)) write.middle 247 is write.plans);
    }

-- by the digest
choose-by : (setting : Setting) (aim : Aim) (core : Core) (same : Bool) → is_aimed aim core ≡ same → core.live.erase ≡ None → boots_all_locked core.flash core.pin false ≡ false → CanPlan setting (When same (PlansToKeep setting aim) (PlansToWrite setting aim)) aim core 480
choose-by setting aim core true is none free = let can = can-try setting core none in keep-by setting aim core can can.runs refl is free
choose-by setting aim core false is none free =
    let write = to-write setting aim core none free (inl is) in
    record {
      rewrites = write.rewrites;
      middle = write.middle;
      flash_is = write.flash_is;
      pin_is = write.pin_is;
      none = write.none;
      kept = write.kept;
      freed = write.freed;
      needed = write.needed;
      plans = more-reaches setting (PlansToWrite setting aim) core (Ok (plan_of aim write.rewrites)) write.middle 247 480 (omega arith) write.plans;
    }

-- the survey, a hash, and what is planned
abbrev pub whole_plan_room : ℕ → ℕ → ℕ
whole_plan_room pending size = (9 + ((34 + pending) + (46 + (34 + 0)))) + ((174 + looks_of size * 238) + 480)

pub record IsPlanned (setting : Setting) (image : List ℕ) (core now : Core) (pending : ℕ) : Type 0 where
  pub chosen : CanPlan setting (When (is_aimed (aimed_at image now) now) (PlansToKeep setting (aimed_at image now)) (PlansToWrite setting (aimed_at image now))) (aimed_at image now) (hashed now) 480
  pub plans : Opens setting (Plans setting image) core (Ok (plan_of (aimed_at image now) chosen.rewrites)) chosen.middle (whole_plan_room pending (length now.flash))

pub plans-reach : (setting : Setting) (image : List ℕ) (core now : Core) (pending : ℕ) → Reaches setting (AsksLimits setting) core (Ok tt) now (34 + pending) → now.live.erase ≡ None → IsSized now → fit_of image (length now.flash) ≡ Yes → boots_all_locked now.flash now.pin false ≡ false →
    IsPlanned setting image core now pending
plans-reach setting image core now pending limits none sized fits open_ =
    let size = length now.flash in
    let aim = aimed_at image now in
    let free : IsFree aim now = record { none = none; geometry = refl; small = omega (arith, sized.most) } in
    let chosen = choose-by setting aim (hashed now) (is_aimed aim now) refl none open_ in
    let plan = plan_of aim chosen.rewrites in
    record {
      chosen = chosen;
      plans = then-from (IsOpen setting.bus core) setting (Surveys setting image) (λ told. Then (Hashes setting told) (λ same. When same (PlansToKeep setting told) (PlansToWrite setting told))) now chosen.middle aim (Ok plan) (9 + ((34 + pending) + (46 + (34 + 0)))) ((174 + looks_of size * 238) + 480)
          (surveys-open setting image core now pending limits none sized fits)
          (then-reaches setting (Hashes setting aim) (λ same. When same (PlansToKeep setting aim) (PlansToWrite setting aim)) now (hashed now) chosen.middle (is_aimed aim now) (Ok plan) (174 + looks_of size * 238) 480 (hashes-reach setting aim now free sized.least sized.most) chosen.plans);
    }
