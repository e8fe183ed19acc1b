use Rattle.std.proofs.Common.{ap, ◌∙◌, sym, ◌++◌, ℕ, List, arith}
use Rattle.ectool_lines.proofs.ReplyLemmas.{protection-read}
use Rattle.ectool_lines.proofs.replies.add_protection.Goals as goal

pub returns-clause-text : goal.returns-clause-text
returns-clause-text c =
    c.protection.ensures.text
    ∙ ap (λ (text : List ℕ). c.args.out.now ++ text)
    (sym (protection-read c.args.reply.now c.from_bytes.result.flags c.from_bytes.result.valid c.from_bytes.result.writable (omega arith) (omega arith) (omega arith) c.from_bytes.ensures.spelled))
