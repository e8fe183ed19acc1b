use Rattle.std.proofs.Common.{sym, ◌∙◌}
use Rattle.script_words.proofs.HexLaws.{spelled_so}
use Rattle.script_words.proofs.hexes.HexBytes.of.Goals as goal

pub returns-clause-some : goal.returns-clause-some
returns-clause-some c = (spelled_so c.args.limit c.args.word.now (sym c.is_spelling.ensures ∙ c.if-not-is_spelling.false)).least

pub returns-clause-most : goal.returns-clause-most
returns-clause-most c = (spelled_so c.args.limit c.args.word.now (sym c.is_spelling.ensures ∙ c.if-not-is_spelling.false)).most
