use Rattle.std.proofs.Common.{sym, ◌∙◌, [], ◌++◌, append_assoc}
use Rattle.std.proofs.lemmas.List.{append-nil}
use Rattle.ec_params.proofs.Texts.{text_first}
use Rattle.ec_params.proofs.identity.ChipSay.from_bytes.Goals as goal

pub returns-clause-back : goal.returns-clause-back
returns-clause-back c = λ vendor name revision len0 len1 len2 same.
    let spelled = c.new-columns.ensures ∙ same ∙ append_assoc vendor name revision in
    let one = text_first 32 c.new-columns.result c.bytes.new.self vendor (name ++ revision) c.bytes.result len0 spelled c.bytes.ensures.value c.bytes.ensures.rest in
    let two = text_first 32 c.bytes.new.self c.bytes-2.new.self name revision c.bytes-2.result len1 one.1 c.bytes-2.ensures.value c.bytes-2.ensures.rest in
    let three = text_first 32 c.bytes-2.new.self c.bytes-3.new.self revision [] c.bytes-3.result len2 (two.1 ∙ sym (append-nil revision)) c.bytes-3.ensures.value c.bytes-3.ensures.rest in
    let first = one.0 in let second = two.0 in let third = three.0 in cc
