use Rattle.sync_rules.specs.Replies.{hash_told}
use Rattle.sync_engine.proofs.Asked.{learns}
use Rattle.sync_engine.proofs.asking.ask_hash.Goals as goal

pub returns : goal.returns
returns g c = record { does = learns 0x2A 0 _ _ _ 76 _ (hash_told c.args.aim.now) c.send-said.result c.send-said.new.buffers.reply _ _ _ _ c.write_hash_ask.ensures.asked c.send-said.ensures.tries c.reply_body.ensures.body c.shown_hash.ensures.told (c.if_success.ensures.told _) }
