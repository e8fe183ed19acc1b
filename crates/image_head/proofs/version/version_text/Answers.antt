use Rattle.std.proofs.Common.{◌∙◌, ap, ℕ, List, ◌++◌, drop, replicate, arith}
use Rattle.ec_model.specs.InfoRows.{is_shown}
use Rattle.image_head.proofs.Shown.{text_is}
use Rattle.image_head.proofs.version.version_text.Goals as goal

pub returns : goal.returns
returns c =
    ap (λ (front : List ℕ). front ++ drop c.min-count.result (replicate 32 0)) c.copy_from_slice.ensures.after
    ∙ text_is 31 32 c.min-count.result is_shown c.args.raw.now (omega arith) (omega arith)
