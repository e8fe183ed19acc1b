use Rattle.std.proofs.Common.{ap, ◌∙◌, List, map}
use Rattle.std.proofs.lemmas.Result.{IfErr-weaker, IfOk-weaker}
use Rattle.clap.specs.Simple.{is_simple, matches_of}
use Rattle.clap.specs.Takes.{takes}
use Rattle.clap.specs.Walk.{Text}
use Rattle.bench_words.proofs.ParseLemmas.{spells_taken, spells_told}
use Rattle.bench_words.proofs.parsing.parse.Goals as goal

pub returns : goal.returns
returns c =
    let words : List Text = map (λ word. word.now) c.args.words.now in
    let parse = c.try_get_matches_from in
    let app = c.requires.command in
    let given = c.requires.spelled in
    record {
      ok = IfOk-weaker parse.result _ _ (λ m exact flash bus pin spells. spells_told words flash bus pin spells m
          ((exact (ap is_simple app)).0 ∙ ap (λ a. matches_of a words) app)) parse.ensures.matches;
      err =
          IfErr-weaker parse.result _ _ (λ e h. h (ap (λ a. takes a words) app
          ∙ spells_taken words given.0 given.1 given.2 given.3)) parse.ensures.passes;
    }
