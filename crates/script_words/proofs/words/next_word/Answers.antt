use Rattle.std.proofs.Common.{◌<◌, ◌∙◌, sym}
use Rattle.script_words.proofs.WordLaws.{first_word, word_some}
use Rattle.script_words.proofs.words.next_word.Goals as goal

pub returns : goal.returns
returns c =
    let rest = c.skip_spaces-rest.result.now in
    let n = c.word_len.result in
    let len = c.word_len.ensures in
    let some : 0 < n = word_some rest n (sym c.is_empty.ensures ∙ c.if-is_empty.false) c.skip_spaces-rest.ensures.front len.found in
    rw (c.split_at.ensures.front, c.split_at.ensures.back) (sym c.skip_spaces-rest.ensures.words ∙ first_word rest n len.within some len.before len.found)
