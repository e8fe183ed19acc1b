use Rattle.std.proofs.Common.{◌∙◌, ap, ◌++◌, ℕ, List}
use Rattle.ec_model.specs.Bodies.{region_info_ask}
use Rattle.sync_rules.specs.Replies.{region_told}
use Rattle.sync_engine.proofs.Asked.{learns}
use Rattle.sync_engine.proofs.asking.ask_region.Goals as goal

pub returns : goal.returns
returns g c = record {
  does = learns 0x16 1 _ (region_info_ask 1) _ 8 _ (region_told c.args.geometry) c.send-said.result c.send-said.new.buffers.reply _ _ _ _
      (c.write.ensures ∙ ap (λ (front : List ℕ). front ++ region_info_ask 1) c.clear.ensures) c.send-said.ensures.tries c.reply_body.ensures.body c.shown_region.ensures.told (c.if_success.ensures.told _);
}
