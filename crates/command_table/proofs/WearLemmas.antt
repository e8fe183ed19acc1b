-- How much a request wears the flash.
use Rattle.std.proofs.Common.{◌≡◌, refl, sym, subst, ℕ, ◌+◌, ◌≤◌, [], Result, Ok, Err, arith}
use Rattle.flash_dev.specs.Counts.{RisesAtMost}
use Rattle.flash_dev.specs.View.{DeviceView}
use Rattle.flash_dev.proofs.Costing.{rises-none, rises-more}
use Rattle.ec_model.specs.Table.{Core}
use Rattle.ec_model.specs.Commands.{Command, Proto, Hello, Version, Chip, CmdVersions, Comms, Test, ProtoInfo, FlashInfo, FlashRead, FlashWrite, FlashErase, FlashProtect, RegionInfo, Sysinfo, VbootHash, Reboot, Resend}
use Rattle.ec_model.specs.Handle.{Admitted}
use Rattle.ec_boot.specs.States.{RunView, core_at}
use Rattle.command_table.specs.Wear.{piece_count, command_wear, found_wear}
use Rattle.command_table.specs.Serving.{Finds, WearsFor}

-- two ways to find a command agree on each core with this live state
abbrev pub SameFinds : Finds → Finds → RunView → Type 0
SameFinds finds others run = (core : Core) → core.live ≡ run.live → finds core ≡ others core

-- how much the flash wears, where another way finds the same
pub wears-as : (finds others : Finds) (run : RunView) (device : DeviceView) → SameFinds finds others run → WearsFor others run device → WearsFor finds run device
wears-as finds others run device same wears core is =
    subst (λ (found : Result Admitted ℕ). RisesAtMost (found_wear found) run.device.wear device.wear) (sym (same core is)) (wears core is)

-- a flash that was not worn
pub wears-none : (finds : Finds) (run : RunView) (device : DeviceView) → device.wear ≡ run.device.wear → WearsFor finds run device
wears-none finds run device same core is = rises-none (found_wear (finds core)) run.device.wear device.wear same

-- a write that fits a packet has nine pieces at most
pub write-wears : (count before now : ℕ) → 8 + count ≤ 544 → RisesAtMost (piece_count count) before now → RisesAtMost 9 before now
write-wears count before now short rises = rises-more (piece_count count) 9 before now (omega (arith, short)) rises

command-nine : (command : Command) → command_wear command ≤ 9
command-nine Proto = omega arith
command-nine Hello = omega arith
command-nine Version = omega arith
command-nine Chip = omega arith
command-nine CmdVersions = omega arith
command-nine Comms = omega arith
command-nine Test = omega arith
command-nine ProtoInfo = omega arith
command-nine FlashInfo = omega arith
command-nine FlashRead = omega arith
command-nine FlashWrite = omega arith
command-nine FlashErase = omega arith
command-nine FlashProtect = omega arith
command-nine RegionInfo = omega arith
command-nine Sysinfo = omega arith
command-nine VbootHash = omega arith
command-nine Reboot = omega arith
command-nine Resend = omega arith

found-nine : (found : Result Admitted ℕ) → found_wear found ≤ 9
found-nine (Ok ask) = command-nine ask.command
found-nine (Err status) = omega arith

-- no request is wear of more than nine operations
pub wears-nine : (finds : Finds) (run : RunView) (device : DeviceView) → WearsFor finds run device → RisesAtMost 9 run.device.wear device.wear
wears-nine finds run device wears =
    let found = finds (core_at run []) in
    rises-more (found_wear found) 9 run.device.wear device.wear (found-nine found) (wears (core_at run []) refl)
