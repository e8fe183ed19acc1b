-- What a jump from one image to the other makes of a controller.
use Rattle.std.specs.Prelude.{◌≡◌, ℕ, Bool, [], IsTrue, IsFalse, IfSome, Option, is_some, Result, Ok, Err}
use Rattle.ec_types.specs.declared.image.ImageCopy.{ImageCopy}
use Rattle.flash_dev.specs.Told.{Changes}
use Rattle.flash_dev.specs.View.{DeviceView}
use Rattle.flash_dev.specs.Costs.{Costs}
use Rattle.flash_dev.specs.declared.hurt.Hurt.{Hurt}
use Rattle.flash_dev.specs.declared.hurt.Hurt.TheVariants.{Whole, Failed}
use Rattle.ec_model.specs.Table.{Core}
use Rattle.ec_model.specs.Jump.{is_denied, has_vector, keeps_all, kept_live, arrived, jumped}
use Rattle.ec_boot.specs.States.{RunView, core_at, told_core}
use Rattle.ec_boot.specs.Guarding.{KeepsGuard}
use Rattle.jump_data.specs.declared.kept.TagLayout.{TagLayout}
use Rattle.ec_boot.specs.declared.jump.JumpNo.{JumpNo}
use Rattle.ec_boot.specs.declared.jump.JumpNo.TheVariants.{Denied, Vector, Fault}

-- some bytes were read, so many at most, which changed nothing and began no operation
pub record HasLooked (hurt : Hurt) (most : ℕ) (old new : DeviceView) : Type 0 where
  pub held : new.held ≡ old.held
  pub begun : new.begun ≡ old.begun
  pub armed : new.armed ≡ old.armed
  pub wear : new.wear ≡ old.wear
  pub spent : Costs hurt most old new

-- what a look at the flash did
abbrev pub look_hurt : {T E : Type 0} → Result T E → Hurt
look_hurt (Ok x) = Whole
look_hurt (Err error) = Failed

-- whether a jump to an image is denied, which no byte of the flash decides
abbrev pub is_denied_on : RunView → ImageCopy → Bool
is_denied_on run target = is_denied (core_at run []) target

-- the vector lies in the target's region, and this is the jump
pub record IsJump (target : ImageCopy) (before after : Core) : Type 0 where
  pub vector : IsTrue (has_vector before.flash target)
  pub jumped : after ≡ jumped target before

-- the jump was granted, and the target runs
pub record Arrives (target : ImageCopy) (old new : RunView) : Type 0 where
  pub granted : IsFalse (is_denied_on old target)
  pub told : Changes (IsJump target) (told_core old) (told_core new)
  -- of every flash: the flags and the locks are kept, and all that jump data keeps, or nothing else
  pub all : Bool
  pub live : new.live ≡ arrived target (kept_live all old.live)
  pub pin : new.pin ≡ old.pin
  pub looked : HasLooked Whole 9 old.device new.device

-- a jump that was refused behind a look at the flash
pub record IsTurnedBack (hurt : Hurt) (target : ImageCopy) (old new : RunView) : Type 0 where
  pub granted : IsFalse (is_denied_on old target)
  pub rest : new ≡ record old { device = new.device }
  pub looked : HasLooked hurt 9 old.device new.device

-- the vector lies outside the target's region
abbrev pub IsOutside : ImageCopy → Core → Core → Type 0
IsOutside target before after = IsFalse (has_vector before.flash target)

-- A look at the flash for a jump: the vector lies in the target's region, and whether all is kept is known; or the vector
-- lies outside, or a read failed. Nothing changed.
abbrev pub IsSeenAs : ImageCopy → RunView → DeviceView → Result (Option TagLayout) JumpNo → Type 0
IsSeenAs target old device (Ok layout) =
    IfSome old.device.held (λ flash. IsTrue (has_vector flash target) × (is_some layout ≡ keeps_all flash old.live.copy))
    × HasLooked Whole 9 old.device device
IsSeenAs target old device (Err Denied) = ⊥
IsSeenAs target old device (Err Vector) =
    IfSome old.device.held (λ flash. IsFalse (has_vector flash target)) × HasLooked Whole 9 old.device device
IsSeenAs target old device (Err Fault) = HasLooked Failed 9 old.device device

pub record IsSeen (target : ImageCopy) (old new : RunView) (result : Result (Option TagLayout) JumpNo) : Type 0 where
  pub rest : new ≡ record old { device = new.device }
  pub seen : IsSeenAs target old new.device result

-- a jump that was refused: it was denied, the vector lies outside the region, or a read failed
abbrev pub IsRefused : ImageCopy → RunView → RunView → JumpNo → Type 0
IsRefused target old new Denied = IsTrue (is_denied_on old target) × (new ≡ old)
IsRefused target old new Vector = IsTurnedBack Whole target old new × Changes (IsOutside target) (told_core old) (told_core new)
IsRefused target old new Fault = IsTurnedBack Failed target old new

-- a jump
abbrev pub IsJumped : ImageCopy → RunView → Result RunView (RunView × JumpNo) → Type 0
IsJumped target old (Ok new) = Arrives target old new
IsJumped target old (Err back) = IsRefused target old back.0 back.1

-- guarded RO stays so, and keeps its bytes, whether the jump is refused or not
abbrev pub KeepsGuarded : RunView → Result RunView (RunView × JumpNo) → Type 0
KeepsGuarded old (Ok new) = Changes KeepsGuard (told_core old) (told_core new)
KeepsGuarded old (Err back) = Changes KeepsGuard (told_core old) (told_core back.0)
