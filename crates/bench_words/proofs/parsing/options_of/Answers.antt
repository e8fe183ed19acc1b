use Rattle.std.proofs.Common.{rules, sym, subst, ap, ◌∙◌, ◌≡◌, List, ℕ, map}
use Rattle.bench_words.specs.Words.{Spells, bus_name, pin_name}
use Rattle.bench_words.proofs.ReaderLemmas.{all_text, named_is}
use Rattle.bench_words.proofs.parsing.options_of.Goals as goal

pub texts_of-requires : goal.texts_of-requires
texts_of-requires c = all_text c.args.words.now c.requires

pub returns : goal.returns
returns c = λ flash bus pin spells.
    let words : List (List ℕ) = map (λ text. text.now) c.as_slice.result.now in
    let words_are : words ≡ c.args.words.now = search rules in
    let told = c.in-Ok.ensures.ok flash bus pin (subst (λ ws. Spells ws flash bus pin) (sym words_are) spells) in (
      c.bus_named-bus.ensures bus (ap (λ s. s.now) c.unwrap_or.ensures
          ∙ named_is c.get_str.result _ (bus_name bus) (c.get_str.ensures ∙ told.0)),
      c.pin_named-pin.ensures pin (ap (λ s. s.now) c.unwrap_or-in-Ok.ensures
          ∙ named_is c.get_str-in-Ok.result _ (pin_name pin) (c.get_str-in-Ok.ensures ∙ told.1)),
    )
