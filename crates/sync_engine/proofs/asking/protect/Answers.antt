use Rattle.std.proofs.Common.{◌∙◌, ap, ◌++◌, ℕ, List}
use Rattle.ec_model.specs.Bodies.{flash_protect_ask}
use Rattle.sync_rules.specs.Replies.{flags_told}
use Rattle.sync_engine.proofs.Asked.{learns}
use Rattle.sync_engine.proofs.asking.protect.Goals as goal

pub returns : goal.returns
returns g c = record {
  does = learns 0x15 1 _ (flash_protect_ask c.args.bits c.args.bits) _ 12 _ flags_told c.send-said.result c.send-said.new.buffers.reply _ _ _ _
      (c.write.ensures ∙ ap (λ (front : List ℕ). front ++ flash_protect_ask c.args.bits c.args.bits) c.clear.ensures) c.send-said.ensures.tries c.reply_body.ensures.body c.shown_flags.ensures.told (c.if_success.ensures.told _);
}
