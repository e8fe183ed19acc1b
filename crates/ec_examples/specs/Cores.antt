-- Cores to begin with.
use Rattle.std.specs.Prelude.{ℕ, zero, suc, true, false, List, [], None}
use Rattle.ec_types.specs.declared.reset.ResetCause.TheVariants.{PowerOn, Pin}
use Rattle.ec_model.specs.declared.live.HashView.{HashView}
use Rattle.ec_model.specs.Table.{Core}
use Rattle.ec_model.specs.Hash.{hash_ticked, with_hash}
use Rattle.ec_model.specs.Boot.{booted}
use Rattle.ec_model.specs.Erasing.{with_job}

-- behind a power-on, with the pin asserted
abbrev pub on : List ℕ → Core
on flash = booted flash true PowerOn false

-- behind a power-on, with the pin off
abbrev pub unpinned : List ℕ → Core
unpinned flash = booted flash false PowerOn false

-- behind a power-on that could not read the stored bits, with jumps disabled, this hash, and a saved status of 0
abbrev pub before_jump : List ℕ → HashView → Core
before_jump flash hash =
    let core = with_hash hash [] (with_job None 0 (booted flash true PowerOn true)) in
    record core { live = record core.live { jump_off = true } }

-- behind a reset by its pin, with the write-protect pin asserted
abbrev pub reset : List ℕ → Core
reset flash = booted flash true Pin false

-- behind so many ticks of its hash
abbrev pub ticked : ℕ → Core → Core
ticked zero core = core
ticked (suc count) core = ticked count (hash_ticked core.live.hash core)
