use Rattle.std.proofs.Common.{◌∙◌, ap, ℕ, Option, unwrap_or, length}
use Rattle.ec_model.specs.InfoRows.{is_shown}
use Rattle.image_head.proofs.Shown.{shown_before}
use Rattle.image_head.proofs.version.shown_count.Goals as goal

pub returns : goal.returns
returns c =
    c.unwrap_or.ensures ∙ ap (λ (found : Option ℕ). unwrap_or found (length c.args.raw.now)) c.first_hidden.ensures ∙ shown_before is_shown c.args.raw.now
