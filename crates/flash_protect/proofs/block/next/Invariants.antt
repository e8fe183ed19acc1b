use Rattle.std.proofs.Common.{◌≡◌}
use Rattle.ec_model.specs.Stored.{next_among}
use Rattle.flash_protect.proofs.block.next.Given as goal

abbrev pub invariant-loop-i : goal.invariant-loop-i
invariant-loop-i l = l.next ≡ next_among l.i l.bytes
