use Rattle.std.proofs.Common.{ap, ◌∙◌, ℕ, List, [], ◌++◌, append_assoc}
use Rattle.ec_types.specs.LittleEndian.{u32_bytes, u32_at}
use Rattle.ec_types.proofs.LittleEndianLaws.{u32_at-u32_bytes}
use Rattle.ec_params.proofs.Texts.{text_first}
use Rattle.ec_params.proofs.identity.VersionSay.from_bytes.Goals as goal

pub returns-clause-back : goal.returns-clause-back
returns-clause-back c = λ ro rw_text reserved current len0 len1 len2 fits same.
    let spelled = c.new-columns.ensures ∙ same ∙ append_assoc (ro ++ rw_text) reserved (u32_bytes current) ∙ append_assoc ro rw_text (reserved ++ u32_bytes current) in
    let one = text_first 32 c.new-columns.result c.bytes.new.self ro (rw_text ++ (reserved ++ u32_bytes current)) c.bytes.result len0 spelled c.bytes.ensures.value c.bytes.ensures.rest in
    let two = text_first 32 c.bytes.new.self c.bytes-2.new.self rw_text (reserved ++ u32_bytes current) c.bytes-2.result len1 one.1 c.bytes-2.ensures.value c.bytes-2.ensures.rest in
    let three = text_first 32 c.bytes-2.new.self c.bytes-3.new.self reserved (u32_bytes current) c.bytes-3.result len2 two.1 c.bytes-3.ensures.value c.bytes-3.ensures.rest in
    (one.0, two.0, three.0, c.u32.ensures.value ∙ ap (λ (xs : List ℕ). u32_at 0 xs) three.1 ∙ u32_at-u32_bytes current [] fits)
