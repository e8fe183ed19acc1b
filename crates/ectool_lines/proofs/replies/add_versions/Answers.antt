use Rattle.std.proofs.Common.{ap, ◌∙◌, sym, ◌++◌, ℕ, codes, arith}
use Rattle.ectool_lines.specs.Texts.{hex_text}
use Rattle.ectool_lines.proofs.ReplyLemmas.{mask-read}
use Rattle.ectool_lines.proofs.replies.add_versions.Goals as goal

pub returns-clause-text : goal.returns-clause-text
returns-clause-text c =
    c.append_mask.ensures.text ∙ ap (λ (mask : ℕ). c.args.out.now ++ (codes "versions " ++ hex_text mask)) (sym (mask-read c.args.reply.now c.from_bytes-say.result.mask (omega arith) c.from_bytes-say.ensures.spelled))
