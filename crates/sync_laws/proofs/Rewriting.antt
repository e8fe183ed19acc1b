-- RW is written, checked, brought to run and sealed, where nothing disturbs it.
use Rattle.std.proofs.Common.{◌≡◌, sym, ap, ◌∙◌, subst, ℕ, ◌+◌, ◌*◌, true, List, length, Ok, None, arith}
use Rattle.sha2.specs.Sha256.{sha256}
use Rattle.ec_types.specs.declared.bus.BusKind.{BusKind}
use Rattle.ec_types.specs.declared.image.ImageCopy.TheVariants.{Rw}
use Rattle.ec_model.specs.Asks.{Setting}
use Rattle.ec_model.specs.Image.{padded}
use Rattle.ec_model.specs.Ranges.{is_flash_size}
use Rattle.ec_model.specs.Table.{Core}
use Rattle.sync_rules.specs.declared.ending.Aim.{Aim}
use Rattle.sync_rules.specs.Parts.{Gives, Then}
use Rattle.sync_rules.specs.Replies.{given_if}
use Rattle.sync_rules.specs.Steps.{Installs, Checks, Starts, Rewrites, Prepares, CarriesOut, Seals, plan_of}
use Rattle.sync_laws.specs.Calm.{Reaches}
use Rattle.sync_laws.specs.Written.{installed, install_room}
use Rattle.sync_laws.proofs.Awaiting.{hashed}
use Rattle.sync_laws.proofs.Calmly.{then-reaches, gives-reaches}
use Rattle.sync_laws.proofs.Hashed.{IsFree, looks_of, checks-reach}
use Rattle.sync_laws.proofs.Installing.{IsToInstall, can-install, installed-length, installed-holds}
use Rattle.sync_laws.proofs.Jumping.{can-start, vector-held}
use Rattle.sync_laws.proofs.KeptRounds.{aimed-holds}
use Rattle.sync_laws.proofs.KeptSteps.{IsSized, aimed_at, sealed, seal_room, seals-reach}
use Rattle.sync_laws.proofs.Looked.{is_aimed}
use Rattle.sync_laws.proofs.Surveying.{runs_rw}
use Rattle.sync_laws.proofs.Writable.{IsReady}

-- RW has the padded image and runs; all before RW is as it was, and so is the pin
pub record IsRenewed (image : List ℕ) (core after : Core) : Type 0 where
  pub flash_is : after.flash ≡ installed image core.flash
  pub pin_is : after.pin ≡ core.pin
  pub none : after.live.erase ≡ None
  pub runs : after.live.copy ≡ Rw

-- the erase, the pieces, a hash and a start
abbrev pub rewrite_room : BusKind → ℕ → ℕ
rewrite_room bus size = install_room bus size + ((174 + looks_of size * 238 + 0) + (233 + 0))

pub record CanRewrite (setting : Setting) (image : List ℕ) (core : Core) : Type 0 where
  pub after : Core
  pub renewed : IsRenewed image core after
  pub rewrites : Reaches setting (Rewrites setting image (aimed_at image core)) core (Ok tt) after (rewrite_room setting.bus (length core.flash))

-- a flash of the same length has a size as well, and the same aim
sized-long : (core after : Core) → length after.flash ≡ length core.flash → IsSized core → IsSized after
sized-long core after long sized = record {
  stated = subst (λ (n : ℕ). is_flash_size n ≡ true) (sym long) sized.stated;
  least = omega (arith, long, sized.least);
  most = omega (arith, long, sized.most);
}

aim-long : (image : List ℕ) (core after : Core) → length after.flash ≡ length core.flash → aimed_at image after ≡ aimed_at image core
aim-long image core after long = ap (λ (n : ℕ). record { geometry = n; digest = sha256 (padded image n) }) long

pub can-rewrite : (setting : Setting) (image : List ℕ) (core : Core) → IsReady core → IsToInstall image core → CanRewrite setting image core
can-rewrite setting image core ready to =
    let size = length core.flash in
    let aim = aimed_at image core in
    let install = can-install setting image core ready to in
    let middle = install.after in
    let is = install.becomes in
    let long : length middle.flash ≡ size = ap (λ (flash : List ℕ). length flash) is.flash_is ∙ installed-length image core to in
    let holds = installed-holds image core middle to is.flash_is in
    let free : IsFree aim middle = record { none = is.none; geometry = sym long; small = omega (arith, long, to.sized.most) } in
    let aimed : is_aimed aim middle ≡ true = ap (λ (a : Aim). is_aimed a middle) (sym (aim-long image core middle long)) ∙ aimed-holds image middle holds.holds in
    let sized = sized-long core middle long to.sized in
    let check = subst (λ (n : ℕ). Reaches setting (Checks setting aim) middle (Ok tt) (hashed middle) (174 + looks_of n * 238 + 0)) long (checks-reach setting aim middle free sized.least sized.most aimed) in
    let start = can-start setting (hashed middle) is.none (vector-held image middle.flash holds.fits holds.holds) in
    let last = start.after in
    record {
      after = last;
      renewed = record {
        flash_is = start.started.flash_is ∙ is.flash_is;
        pin_is = start.started.pin_is ∙ is.stays.pin_is;
        none = start.started.none;
        runs = start.started.runs;
      };
      rewrites = then-reaches setting (Installs setting image size) (λ installed. Then (Checks setting aim) (λ checked. Then (Starts setting) (λ runs. Gives (given_if runs tt)))) core middle last tt (Ok tt) (install_room setting.bus size) ((174 + looks_of size * 238 + 0) + (233 + 0)) install.reaches
          (then-reaches setting (Checks setting aim) (λ checked. Then (Starts setting) (λ runs. Gives (given_if runs tt))) middle (hashed middle) last tt (Ok tt) (174 + looks_of size * 238 + 0) (233 + 0) check
          (then-reaches setting (Starts setting) (λ runs. Gives (given_if runs tt)) (hashed middle) last last true (Ok tt) 233 0 start.starts (gives-reaches setting (Ok tt) last)));
    }

-- a plan to write is carried out
pub record CanCarryOut (setting : Setting) (image : List ℕ) (core : Core) : Type 0 where
  pub started : Core
  pub renewed : IsRenewed image core started
  pub carries : Reaches setting (CarriesOut setting image (plan_of (aimed_at image core) true)) core (Ok tt) (sealed started) (rewrite_room setting.bus (length core.flash) + seal_room (length core.flash))

pub writes-out : (setting : Setting) (image : List ℕ) (core : Core) → IsReady core → IsToInstall image core → CanCarryOut setting image core
writes-out setting image core ready to =
    let size = length core.flash in
    let aim = aimed_at image core in
    let can = can-rewrite setting image core ready to in
    let after = can.after in
    let is = can.renewed in
    let long : length after.flash ≡ size = ap (λ (flash : List ℕ). length flash) is.flash_is ∙ installed-length image core to in
    let holds = installed-holds image core after to is.flash_is in
    let free : IsFree aim after = record { none = is.none; geometry = sym long; small = omega (arith, long, to.sized.most) } in
    let aimed : is_aimed aim after ≡ true = ap (λ (a : Aim). is_aimed a after) (sym (aim-long image core after long)) ∙ aimed-holds image after holds.holds in
    let seals = subst (λ (n : ℕ). Reaches setting (Seals setting aim) after (Ok tt) (sealed after) (seal_room n)) long (seals-reach setting aim after free (sized-long core after long to.sized) aimed (ap runs_rw is.runs)) in
    record {
      started = after;
      renewed = is;
      carries = then-reaches setting (Prepares setting image (plan_of aim true)) (λ ready. Seals setting aim) core after (sealed after) tt (Ok tt) (rewrite_room setting.bus size) (seal_room size) can.rewrites seals;
    }
