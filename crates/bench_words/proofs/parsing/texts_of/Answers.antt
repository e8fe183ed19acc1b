use Rattle.std.proofs.Common.{rules, subst, sym}
use Rattle.std.specs.Str.{IsUtf8}
use Rattle.bench_words.proofs.parsing.texts_of.Goals as goal

pub text_of-requires : goal.text_of-requires
text_of-requires c =
    subst IsUtf8 (sym c.word-item.is) (c.requires c.loop-word.word-index c.word-item.result (search rules))
