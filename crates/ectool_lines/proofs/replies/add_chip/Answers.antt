use Rattle.std.proofs.Common.{ap, ◌∙◌, sym, ◌++◌, ℕ, List}
use Rattle.ectool_lines.proofs.ReplyLemmas.{chip-read}
use Rattle.ectool_lines.proofs.replies.add_chip.Goals as goal

pub returns-clause-text : goal.returns-clause-text
returns-clause-text c =
    c.chip.ensures.text ∙ ap (λ (text : List ℕ). c.args.out.now ++ text) (sym (chip-read c.args.reply.now c.from_bytes.result.vendor c.from_bytes.result.name c.from_bytes.result.revision c.chip.ensures.vendor c.chip.ensures.name c.chip.ensures.revision c.from_bytes.ensures.spelled))
