use Rattle.std.proofs.Common.{refl, sym, ap, ◌∙◌, ◌+◌, Ok}
use Rattle.ec_model.specs.Ranges.{rw_range}
use Rattle.sync_rules.specs.Parts.{Gives}
use Rattle.sync_rules.specs.Requests.{write_request}
use Rattle.sync_rules.specs.Steps.{Confirms, is_blank}
use Rattle.sync_engine.proofs.Chains.{gives, when-true}
use Rattle.sync_engine.proofs.writing.write_piece.Goals as goal

pub returns-then-is_blank : goal.returns-then-is_blank
returns-then-is_blank g c =
    let bytes = c.args.buffers.now.piece in
    record {
      does = when-true (λ setting. Gives (Ok tt)) (λ setting. Confirms setting (write_request ((rw_range c.args.geometry).at + c.args.place) bytes)) _ _ _ _ _
          (sym (ap is_blank c.as_slice.ensures.bytes) ∙ sym c.is_blank.ensures ∙ c.if-is_blank.true) (gives (λ setting. Ok tt) _ _ _ refl);
    }
