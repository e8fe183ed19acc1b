use Rattle.std.proofs.Common.{ap, ◌∙◌, ◌++◌, ℕ, List, codes}
use Rattle.std.specs.Fmt.{decimal}
use Rattle.ectool_lines.specs.Texts.{hex_text}
use Rattle.ectool_lines.proofs.ReplyLemmas.{four-parts}
use Rattle.ectool_lines.proofs.replies.proto_info.Goals as goal

pub returns-clause-text : goal.returns-clause-text
returns-clause-text c =
    let old = c.args.out.now in
    let versions = hex_text c.args.say.now.versions in
    let request = decimal c.args.say.now.max_request in
    let response = decimal c.args.say.now.max_response in
    let flags = hex_text c.args.say.now.flags in
    let one = c.append_mask.ensures.text in
    let two = c.append_number.ensures.text ∙ ap (λ (number : ℕ). c.append_mask.new.self ++ (codes " request " ++ decimal number)) c.from.ensures ∙ ap (λ (front : List ℕ). front ++ (codes " request " ++ request)) one in
    let three = c.append_number-2.ensures.text ∙ ap (λ (number : ℕ). c.append_number.new.self ++ (codes " response " ++ decimal number)) c.from-2.ensures ∙ ap (λ (front : List ℕ). front ++ (codes " response " ++ response)) two in
    c.append_mask-2.ensures.text
    ∙ ap (λ (front : List ℕ). front ++ (codes " flags " ++ flags)) three
    ∙ four-parts old (codes "versions ") versions (codes " request ") request (codes " response ") response (codes " flags ") flags
