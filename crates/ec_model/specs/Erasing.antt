-- The erase of some blocks in the background, by one a tick.
use Rattle.std.specs.Prelude.{ℕ, ◌+◌, ◌-◌, ◌/◌, nat_le, if◌then◌else◌, Option, Some, None}
use Rattle.flash_dev.specs.Flash.{block_size, erased}
use Rattle.ec_model.specs.declared.live.EraseJob.{EraseJob}
use Rattle.ec_model.specs.Ranges.{Range, block_range}
use Rattle.ec_model.specs.Table.{Core}
use Rattle.ec_model.specs.Hash.{touched}

-- the erase that a range asks for
abbrev pub asked_job : Range → EraseJob
asked_job range = record { next = range.at / block_size; left = range.size / block_size }

-- the core with this erase, and this status saved
abbrev pub with_job : Option EraseJob → ℕ → Core → Core
with_job job saved core = record core { live = record core.live { erase = job; saved = saved } }

-- the erase that is left once its next block is done
abbrev pub job_left : EraseJob → Option EraseJob
job_left job = if nat_le job.left 1 then None else Some (record { next = job.next + 1; left = job.left - 1 })

-- what is saved for RESEND_RESPONSE once a block is done: success at the last one
abbrev pub saved_after : EraseJob → ℕ → ℕ
saved_after job saved = if nat_le job.left 1 then 0 else saved

-- the core once the next block of its erase is done
abbrev pub block_erased : EraseJob → Core → Core
block_erased job core =
    with_job (job_left job) (saved_after job core.live.saved)
    (record (touched (block_range job.next) core) { flash = erased job.next core.flash })
