use Rattle.std.proofs.Common.{ap, ◌∙◌, ◌++◌, ℕ, List, codes}
use Rattle.ectool_lines.specs.Texts.{hex_text}
use Rattle.ectool_lines.proofs.ReplyLemmas.{three-parts}
use Rattle.ectool_lines.proofs.replies.protection.Goals as goal

pub returns-clause-text : goal.returns-clause-text
returns-clause-text c =
    let old = c.args.out.now in
    let flags = hex_text c.args.say.now.flags in
    let valid = hex_text c.args.say.now.valid in
    let writable = hex_text c.args.say.now.writable in
    let one = c.append_mask.ensures.text in
    let two = c.append_mask-2.ensures.text ∙ ap (λ (front : List ℕ). front ++ (codes " valid " ++ valid)) one in
    c.append_mask-3.ensures.text
    ∙ ap (λ (front : List ℕ). front ++ (codes " writable " ++ writable)) two
    ∙ three-parts old (codes "flags ") flags (codes " valid ") valid (codes " writable ") writable
