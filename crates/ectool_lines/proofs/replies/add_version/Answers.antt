use Rattle.std.proofs.Common.{ap, ◌∙◌, sym, ◌++◌, ℕ, List, arith}
use Rattle.ectool_lines.proofs.ReplyLemmas.{version-read}
use Rattle.ectool_lines.proofs.replies.add_version.Goals as goal

pub returns-clause-text : goal.returns-clause-text
returns-clause-text c =
    let say = c.from_bytes.result in
    c.version.ensures.text
    ∙ ap (λ (text : List ℕ). c.args.out.now ++ text)
    (sym (version-read c.args.reply.now say.ro say.rw say.reserved say.current c.version.ensures.ro c.version.ensures.rw_version c.version.ensures.reserved (omega arith) c.from_bytes.ensures.spelled))
