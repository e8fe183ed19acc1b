-- What is left to do for a request: nothing, a jump to the other image, or a restart.
use Rattle.std.specs.Prelude.{◌≡◌, ℕ, ◌+◌, ◌≤◌, List, [], length, IsFalse, Result, None}
use Rattle.flash_dev.specs.Told.{Changes}
use Rattle.flash_dev.specs.Costs.{Costs}
use Rattle.flash_dev.specs.Counts.{RisesAtMost}
use Rattle.flash_dev.specs.View.{DeviceView}
use Rattle.flash_dev.specs.declared.hurt.Hurt.{Hurt}
use Rattle.ec_types.specs.declared.image.ImageCopy.{ImageCopy}
use Rattle.ec_types.specs.declared.image.ImageCopy.TheVariants.{Ro, Rw}
use Rattle.ec_model.specs.Table.{Core}
use Rattle.ec_model.specs.Answer.{Restarts as IsRestart, is_restart}
use Rattle.ec_model.specs.Handle.{Admitted, row_of, reads_by, operations_by}
use Rattle.ec_model.specs.Jump.{same_copy, reads_head}
use Rattle.ec_model.specs.RebootRow.{jump_row}
use Rattle.ec_boot.specs.States.{RunView, told_core}
use Rattle.command_table.specs.Leaves.{FoundLeaves}
use Rattle.command_table.specs.Wear.{found_wear}
use Rattle.command_table.specs.declared.reboot.Next.{Next}
use Rattle.command_table.specs.declared.reboot.Next.TheVariants.{Stays, Jumps, Restarts}

-- what each core finds in a request: a command, or the status of the first check that fails
abbrev pub Finds : Type 0
Finds = Core → Result Admitted ℕ

-- the image that does not run
abbrev pub other_copy : ImageCopy → ImageCopy
other_copy Ro = Rw
other_copy Rw = Ro

-- the controller is not restarted, whatever its flash holds
abbrev pub RestartsNot : ℕ → Finds → RunView → Type 0
RestartsNot limit finds run = (core : Core) → core.live ≡ run.live → IsFalse (is_restart (row_of core limit (finds core)))

-- the flash wears by no more than what was found in the request may, whatever it holds
abbrev pub WearsFor : Finds → RunView → DeviceView → Type 0
WearsFor finds run device = (core : Core) → core.live ≡ run.live → RisesAtMost (found_wear (finds core)) run.device.wear device.wear

-- The request is answered: where the flash tells its bytes, the state, the status and the body are those of the command
-- table's row, or of its failure.
pub record IsDealtWith (limit : ℕ) (finds : Finds) (hurt : Hurt) (status : ℕ) (body : List ℕ) (old new : RunView) : Type 0 where
  pub stays : RestartsNot limit finds old
  pub leaves : Changes (λ before after. FoundLeaves (finds before) hurt limit old.device new.device before after status body)
      (told_core old) (told_core new)
  pub pin : new.pin ≡ old.pin
  pub spent : Costs hurt 1024 old.device new.device
  pub wear : WearsFor finds old new.device
  pub short : 8 + length body ≤ limit

-- what a core finds is a jump to an image that does not run
pub record IsJumpTo (target : ImageCopy) (limit : ℕ) (found : Result Admitted ℕ) (core : Core) : Type 0 where
  pub row : row_of core limit found ≡ jump_row target core
  pub reads : reads_by core limit found ≡ reads_head target core
  pub operations : operations_by core found ≡ []
  pub other : IsFalse (same_copy target core.live.copy)

-- a jump to the other image is to be made, whatever the flash holds, and nothing was done
pub record AwaitsJump (limit : ℕ) (finds : Finds) (old new : RunView) : Type 0 where
  pub same : new ≡ old
  pub idle : old.live.erase ≡ None
  pub jump : (core : Core) → core.live ≡ old.live → IsJumpTo (other_copy old.live.copy) limit (finds core) core

-- a restart is to be made, whatever the flash holds, and nothing was done
pub record AwaitsRestart (limit : ℕ) (finds : Finds) (old new : RunView) : Type 0 where
  pub same : new ≡ old
  pub restart : (core : Core) → core.live ≡ old.live → row_of core limit (finds core) ≡ IsRestart

-- what was done for a request, by what is left to do
abbrev pub IsServed : Next → ℕ → Finds → Hurt → ℕ → List ℕ → RunView → RunView → Type 0
IsServed Stays limit finds hurt status body old new = IsDealtWith limit finds hurt status body old new
IsServed Jumps limit finds hurt status body old new = AwaitsJump limit finds old new
IsServed Restarts limit finds hurt status body old new = AwaitsRestart limit finds old new
