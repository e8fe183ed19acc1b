use Rattle.std.proofs.Common.{◌≡◌}
use Rattle.flash_dev.proofs.Programming.{programmed_first}
use Rattle.flash_dev.proofs.memory.and_into.Given as goal

abbrev pub invariant-loop-i : goal.invariant-loop-i
invariant-loop-i l = l.part ≡ programmed_first l.i l.fn.part l.bytes
