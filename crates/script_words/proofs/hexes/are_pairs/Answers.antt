use Rattle.std.proofs.Common.{◌∙◌, arith}
use Rattle.script_words.proofs.HexLaws.{pairs_decode}
use Rattle.script_words.proofs.hexes.are_pairs.Goals as goal

pub returns : goal.returns
returns c =
    c.are_digits.ensures ∙ pairs_decode c.args.word.now (omega (arith, c.if-word-eq1.false))
