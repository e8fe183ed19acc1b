use Rattle.std.proofs.Common.{ap, ◌∙◌, sym, ◌++◌, ℕ, List, arith}
use Rattle.ectool_lines.proofs.ReplyLemmas.{sysinfo-read}
use Rattle.ectool_lines.proofs.replies.add_sysinfo.Goals as goal

pub returns-clause-text : goal.returns-clause-text
returns-clause-text c =
    let say = c.from_bytes.result in
    c.sysinfo.ensures.text
    ∙ ap (λ (text : List ℕ). c.args.out.now ++ text)
    (sym (sysinfo-read c.args.reply.now say.reset_flags say.current say.flags (omega arith) (omega arith) (omega arith) c.from_bytes.ensures.spelled))
