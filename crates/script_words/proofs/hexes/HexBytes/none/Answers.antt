use Rattle.std.proofs.Common.{refl}
use Rattle.hex.specs.Hex.{decode_pairs}
use Rattle.script_words.proofs.hexes.HexBytes.none.Goals as goal

pub invariant_of-result : goal.invariant_of-result
unfolding decode_pairs
invariant_of-result c = refl

pub returns : goal.returns
unfolding decode_pairs
returns c = refl
