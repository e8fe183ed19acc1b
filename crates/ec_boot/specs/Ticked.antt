-- What a tick leaves that serves no request.
use Rattle.std.specs.Prelude.{◌≡◌, ℕ, ◌-◌, nat_le, IsTrue, IsFalse, List, [], ◌∷◌, length, None, Result, Ok, Err}
use Rattle.flash_dev.specs.declared.device.DevErr.{DevErr}
use Rattle.flash_dev.specs.declared.device.DevErr.TheVariants.{Failed as FailedErr, PowerLost}
use Rattle.flash_dev.specs.declared.hurt.Hurt.TheVariants.{Failed}
use Rattle.ec_model.specs.declared.live.EraseJob.{EraseJob}
use Rattle.ec_model.specs.declared.live.HashView.{HashView}
use Rattle.ec_model.specs.declared.live.HashView.TheVariants.{Idle, Busy, Done}
use Rattle.ec_model.specs.Ranges.{block_range}
use Rattle.ec_model.specs.Table.{Core}
use Rattle.ec_model.specs.Hash.{touched, hash_ticked, without_hash}
use Rattle.flash_dev.specs.View.{DeviceView}
use Rattle.flash_dev.specs.Costs.{Account, hurt_by}
use Rattle.ec_model.specs.Operations.{Erase, StopsAt}
use Rattle.ec_model.specs.Erasing.{block_erased, job_left, saved_after, with_job}
use Rattle.ec_model.specs.Step.{failed_core}
use Rattle.ec_model.specs.Work.{Work, Rest, EraseNext, HashNext}
use Rattle.ec_boot.specs.States.{RunView, core_at}
use Rattle.ec_boot.specs.Ran.{AllBegun}

-- the next block of an erase: it is done, or it failed or was cut, and then the erase ends
abbrev pub IsBlockErased : {T : Type 0} → EraseJob → DeviceView → DeviceView → Core → Core → Result T DevErr → Type 0
IsBlockErased job device changed before after (Ok x) =
    (after ≡ block_erased job before) × AllBegun (Erase job.next ∷ []) device changed before after
IsBlockErased job device changed before after (Err error) =
    StopsAt 0 (Erase job.next ∷ []) before.flash after.flash
    × (after ≡ with_job None 2 (failed_core before after.flash (Erase job.next ∷ []) 0))
    × Account 1 (hurt_by error) (Erase job.next ∷ []) device changed before.flash after.flash

-- the result of a read, as one of the device's
abbrev pub device_result : {T E : Type 0} → Result T E → Result T DevErr
device_result (Ok x) = Ok x
device_result (Err error) = Err FailedErr

-- the next bytes of a hash: they are in it, or they could not be read, and then there is none; no operation is begun
abbrev pub IsHashTicked : {T : Type 0} → DeviceView → DeviceView → Core → Core → Result T DevErr → Type 0
IsHashTicked device changed before after (Ok x) = (after ≡ hash_ticked before.live.hash before) × AllBegun [] device changed before after
IsHashTicked device changed before after (Err FailedErr) =
    (after ≡ without_hash before) × Account 0 Failed [] device changed before.flash after.flash
IsHashTicked device changed before after (Err PowerLost) = ⊥

-- a tick, by its work: the next block of an erase, the next bytes of a hash, or nothing
abbrev pub IsTicked : {T : Type 0} → Work → DeviceView → DeviceView → Core → Core → Result T DevErr → Type 0
IsTicked (EraseNext job) device changed before after result = IsBlockErased job device changed before after result
IsTicked HashNext device changed before after result = IsHashTicked device changed before after result
IsTicked Rest device changed before after (Ok x) = (after ≡ before) × (changed ≡ device)
IsTicked other device changed before after result = ⊥

-- the core behind a block of an erase, but for the flash's bytes: the blocks that are left, or an erase that ended, with its
-- status saved
abbrev pub job_ticked : {T : Type 0} → EraseJob → Result T DevErr → Core → Core
job_ticked job (Ok x) core = with_job (job_left job) (saved_after job core.live.saved) (touched (block_range job.next) core)
job_ticked job (Err error) core = with_job None 2 (touched (block_range job.next) core)

-- a hash of a range behind its last tick shows some digest
pub record IsFinished (at size : ℕ) (hash : HashView) (nonce : List ℕ) : Type 0 where
  pub digest : List ℕ
  pub shown : hash ≡ Done at size digest
  pub long : length digest ≡ 32
  pub no_nonce : nonce ≡ []

-- a hash and its nonce behind one more tick
abbrev pub IsNextHash : HashView → List ℕ → HashView → List ℕ → Type 0
IsNextHash (Busy at size left) nonce hash later =
    (IsTrue (nat_le left 1) → IsFinished at size hash later)
    × (IsFalse (nat_le left 1) → (hash ≡ Busy at size (left - 1)) × (later ≡ nonce))
IsNextHash other nonce hash later = ⊥

-- what lasts behind the next bytes of a hash
abbrev pub LeavesHashed : {T : Type 0} → RunView → RunView → Result T DevErr → Type 0
LeavesHashed old new (Ok x) = IsNextHash old.live.hash old.nonce new.live.hash new.nonce
LeavesHashed old new (Err error) = (new.live.hash ≡ Idle) × (new.nonce ≡ [])

-- what a tick leaves, by its work, whether the flash tells its bytes or not
abbrev pub LeavesTicked : {T : Type 0} → Work → RunView → RunView → Result T DevErr → Type 0
LeavesTicked (EraseNext job) old new result = (flash : List ℕ) → core_at new flash ≡ job_ticked job result (core_at old flash)
LeavesTicked HashNext old new result =
    (new ≡ record old { device = new.device; live = record old.live { hash = new.live.hash }; nonce = new.nonce })
    × LeavesHashed old new result
LeavesTicked Rest old new (Ok x) = new ≡ old
LeavesTicked other old new result = ⊥
