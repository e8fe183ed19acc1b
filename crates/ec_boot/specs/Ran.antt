-- What operations on the flash leave of a controller that is on.
use Rattle.std.specs.Prelude.{◌≡◌, ◌⊎◌, ℕ, suc, List, length, IsTrue, IsFalse, Result, Ok, Err}
use Rattle.ec_model.specs.declared.live.HashView.TheVariants.{Idle}
use Rattle.flash_dev.specs.declared.device.DevErr.{DevErr}
use Rattle.flash_dev.specs.declared.device.DevErr.TheVariants.{Failed as FailedErr, PowerLost}
use Rattle.flash_dev.specs.declared.hurt.Hurt.{Hurt}
use Rattle.flash_dev.specs.declared.hurt.Hurt.TheVariants.{Whole, Failed, Cut}
use Rattle.flash_dev.specs.View.{DeviceView}
use Rattle.flash_dev.specs.Costs.{Account, hurt_by}
use Rattle.ec_model.specs.declared.live.ProtectView.{ProtectView}
use Rattle.ec_model.specs.Table.{Core}
use Rattle.ec_model.specs.Operations.{Operation, StopsAt, operated_all, touched_by}
use Rattle.ec_model.specs.ProtectRow.{protect_operations, protect_view, protected}
use Rattle.ec_model.specs.Step.{failed_core}
use Rattle.ec_boot.specs.States.{RunView}

-- an operation did not end: those before it are done, and no other was begun
pub record IsStopped (hurt : Hurt) (operations : List Operation) (device changed : DeviceView) (before after : Core) : Type 0 where
  pub place : ℕ
  pub stops : StopsAt place operations before.flash after.flash
  pub account : Account (suc place) hurt operations device changed before.flash after.flash
  pub leaves : after ≡ failed_core before after.flash operations place

-- all of these operations were begun and done
abbrev pub AllBegun : List Operation → DeviceView → DeviceView → Core → Core → Type 0
AllBegun operations device changed before after =
    Account (length operations) Whole operations device changed before.flash after.flash

-- operations were done, or stopped
abbrev pub Ran : {T : Type 0} → List Operation → DeviceView → DeviceView → Core → Core → Result T DevErr → Type 0
Ran operations device changed before after (Ok x) =
    (after ≡ record (touched_by operations before) { flash = operated_all operations before.flash })
    × AllBegun operations device changed before after
Ran operations device changed before after (Err error) = IsStopped (hurt_by error) operations device changed before after

-- A FLASH_PROTECT sets locks, with the pin asserted, and drops none; a hash may be dropped, and all else that lasts stays.
pub record KeepsLive (old new : RunView) : Type 0 where
  pub pin : new.pin ≡ old.pin
  pub ro_now : IsTrue old.live.ro_now → IsTrue new.live.ro_now
  pub all_now : IsTrue old.live.all_now → IsTrue new.live.all_now
  pub unpinned : IsFalse old.pin → (new.live.ro_now ≡ old.live.ro_now) × (new.live.all_now ≡ old.live.all_now)
  pub rest : new.live ≡ record old.live { ro_now = new.live.ro_now; all_now = new.live.all_now; hash = new.live.hash }
  pub hash : (new.live.hash ≡ old.live.hash) ⊎ (new.live.hash ≡ Idle)

-- the stored bits could not be read, and none of the operations was begun
abbrev pub ReadFailed : List Operation → DeviceView → DeviceView → Core → Core → Type 0
ReadFailed operations device changed before after =
    (after ≡ before) × Account 0 Failed operations device changed before.flash after.flash

-- FLASH_PROTECT: done and shown, or the stored bits could not be read, or an operation did not end
abbrev pub IsProtected : ℕ → ℕ → DeviceView → DeviceView → Core → Core → Result ProtectView DevErr → Type 0
IsProtected mask flags device changed before after (Ok view) =
    (after ≡ protected mask flags before) × (view ≡ protect_view after)
    × AllBegun (protect_operations before mask flags) device changed before after
IsProtected mask flags device changed before after (Err FailedErr) =
    ReadFailed (protect_operations before mask flags) device changed before after
    ⊎ IsStopped Failed (protect_operations before mask flags) device changed before after
IsProtected mask flags device changed before after (Err PowerLost) =
    IsStopped Cut (protect_operations before mask flags) device changed before after
