use Rattle.std.proofs.Common.{ap, ◌∙◌, sym, ◌++◌, ℕ, List, arith}
use Rattle.ectool_lines.proofs.ReplyLemmas.{hash-read}
use Rattle.ectool_lines.proofs.replies.add_hash.Goals as goal

pub returns-clause-text : goal.returns-clause-text
returns-clause-text c =
    let say = c.from_bytes.result in
    c.hash.ensures.text
    ∙ ap (λ (text : List ℕ). c.args.out.now ++ text)
    (sym (hash-read c.args.reply.now say.status say.hash_type say.digest_size say.reserved say.offset say.size say.digest (omega arith) (omega arith) c.from_bytes.ensures.spelled))
