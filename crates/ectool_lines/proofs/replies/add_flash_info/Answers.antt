use Rattle.std.proofs.Common.{ap, ◌∙◌, sym, ◌++◌, ℕ, List, arith}
use Rattle.ectool_lines.proofs.ReplyLemmas.{flash_info-read}
use Rattle.ectool_lines.proofs.replies.add_flash_info.Goals as goal

pub returns-clause-text : goal.returns-clause-text
returns-clause-text c =
    let say = c.from_bytes.result in
    c.flash_info.ensures.text
    ∙ ap (λ (text : List ℕ). c.args.out.now ++ text)
    (sym (flash_info-read c.args.reply.now say.size say.write say.erase say.protect say.ideal say.flags (omega arith) (omega arith) (omega arith) (omega arith) (omega arith) (omega arith) c.from_bytes.ensures.spelled))
