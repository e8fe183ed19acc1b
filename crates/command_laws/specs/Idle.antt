-- A controller that nothing asks: what its ticks do, and what it is once a poll saw that no erase is pending.
use Rattle.std.specs.Prelude.{ℕ, zero, suc, Option, Some, None}
use Rattle.ec_model.specs.declared.live.EraseJob.{EraseJob}
use Rattle.ec_model.specs.Hash.{hash_ticked}
use Rattle.ec_model.specs.Erasing.{block_erased}
use Rattle.ec_model.specs.Table.{Core}

-- the core after a tick in which no request is served: the next block of a pending erase is done, and else the next bytes of the hash
abbrev pub ticked_by : Option EraseJob → Core → Core
ticked_by (Some job) core = block_erased job core
ticked_by None core = hash_ticked core.live.hash core

abbrev pub ticked : Core → Core
ticked core = ticked_by core.live.erase core

-- the core after so many ticks
abbrev pub after_ticks : ℕ → Core → Core
after_ticks zero core = core
after_ticks (suc ticks) core = after_ticks ticks (ticked core)

-- how often a poll waits: once for each block of a pending erase, and once where none is pending
abbrev pub poll_waits : Option EraseJob → ℕ
poll_waits None = 1
poll_waits (Some job) = job.left

-- the core behind a poll
abbrev pub idled : Core → Core
idled core = after_ticks (poll_waits core.live.erase) core
