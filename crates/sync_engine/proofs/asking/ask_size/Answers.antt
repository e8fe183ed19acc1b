use Rattle.std.proofs.Common.{[]}
use Rattle.sync_rules.specs.Replies.{size_told}
use Rattle.sync_engine.proofs.Asked.{learns}
use Rattle.sync_engine.proofs.asking.ask_size.Goals as goal

pub returns : goal.returns
returns g c = record { does = learns 0x10 1 _ [] _ 24 _ size_told c.send-said.result c.send-said.new.buffers.reply _ _ _ _ (c.clear.ensures) c.send-said.ensures.tries c.reply_body.ensures.body c.shown_size.ensures.told (c.if_success.ensures.told _) }
