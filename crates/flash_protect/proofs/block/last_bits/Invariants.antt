use Rattle.std.proofs.Common.{◌≡◌}
use Rattle.ec_model.specs.Stored.{bits_among}
use Rattle.flash_protect.proofs.block.last_bits.Given as goal

abbrev pub invariant-loop-i : goal.invariant-loop-i
invariant-loop-i l = l.bits ≡ bits_among l.i l.bytes
