use Rattle.bench_words.proofs.ReaderLemmas.{spell_once}
use Rattle.bench_words.proofs.command_line.spell_once.Goals as goal

pub returns : goal.returns
returns c = spell_once
