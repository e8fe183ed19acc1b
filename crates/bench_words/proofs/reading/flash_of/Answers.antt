use Rattle.std.proofs.Common.{◌∙◌, List, MatchOption, drop, length, subst, sym, take, ℕ, ◌-◌}
use Rattle.bench_words.specs.Reader.{SpellsFlash}
use Rattle.bench_words.specs.Words.{InGrammar}
use Rattle.bench_words.proofs.ReaderLemmas.{flash_is, no_grammar, words_are}
use Rattle.bench_words.proofs.reading.flash_of.Goals as goal

pub returns-then-are_options : goal.returns-then-are_options
returns-then-are_options c =
    let words : List (List ℕ) = c.args.words.now in
    subst (λ ws. MatchOption c.flash_path.result (¬ (InGrammar ws)) (λ flash. SpellsFlash ws flash.now))
    (sym (words_are words c.flash-item.result c.in-len1-up.len_at_least c.flash-item.is))
    (flash_is c.flash-item.result (take (length words - 1) (drop 1 words)) (sym c.are_options.ensures
    ∙ c.if-are_options.true) c.flash_path.result c.flash_path.ensures)

pub returns-else-are_options : goal.returns-else-are_options
returns-else-are_options c =
    let words : List (List ℕ) = c.args.words.now in
    subst (λ ws. ¬ (InGrammar ws)) (sym (words_are words c.flash-item.result c.in-len1-up.len_at_least c.flash-item.is))
    (no_grammar c.flash-item.result (take (length words - 1) (drop 1 words)) (sym c.are_options.ensures
    ∙ c.if-are_options.false))
