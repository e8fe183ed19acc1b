use Rattle.std.proofs.Common.{ap, ◌∙◌, ◌++◌, ℕ, List, codes}
use Rattle.ectool_lines.specs.Texts.{field_text, image_text}
use Rattle.ectool_lines.proofs.ReplyLemmas.{version-parts}
use Rattle.ectool_lines.proofs.replies.version.Goals as goal

pub returns-clause-text : goal.returns-clause-text
returns-clause-text c =
    let old = c.args.out.now in
    let ro = field_text c.args.say.now.ro in
    let rw_version = field_text c.args.say.now.rw in
    let image = image_text c.args.say.now.current in
    let two = c.append_field-2.ensures.text ∙ ap (λ (front : List ℕ). front ++ (codes "\nRW version:    " ++ rw_version)) c.append_field.ensures.text in
    let three = c.append.ensures ∙ ap (λ (front : List ℕ). front ++ codes "\nFirmware copy: ") two in
    c.append-2.ensures
    ∙ ap (λ (name : List ℕ). c.append.new.self ++ name) c.image_name.ensures.name
    ∙ ap (λ (front : List ℕ). front ++ image) three
    ∙ version-parts old (codes "RO version:    ") ro (codes "\nRW version:    ") rw_version (codes "\nFirmware copy: ") image
