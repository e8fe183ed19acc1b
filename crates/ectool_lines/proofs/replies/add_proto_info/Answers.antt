use Rattle.std.proofs.Common.{ap, ◌∙◌, sym, ◌++◌, ℕ, List, arith}
use Rattle.ectool_lines.proofs.ReplyLemmas.{proto_info-read}
use Rattle.ectool_lines.proofs.replies.add_proto_info.Goals as goal

pub returns-clause-text : goal.returns-clause-text
returns-clause-text c =
    let say = c.from_bytes.result in
    c.proto_info.ensures.text
    ∙ ap (λ (text : List ℕ). c.args.out.now ++ text)
    (sym (proto_info-read c.args.reply.now say.versions say.max_request say.max_response say.flags (omega arith) (omega arith) (omega arith) (omega arith) c.from_bytes.ensures.spelled))
