use Rattle.std.proofs.Common.{[]}
use Rattle.sync_rules.specs.Replies.{runs_rw_told}
use Rattle.sync_engine.proofs.Asked.{learns}
use Rattle.sync_engine.proofs.asking.ask_copy.Goals as goal

pub returns : goal.returns
returns g c = record { does = learns 2 0 _ [] _ 100 _ runs_rw_told c.send-said.result c.send-said.new.buffers.reply _ _ _ _ (c.clear.ensures) c.send-said.ensures.tries c.reply_body.ensures.body c.shows_rw.ensures.told (c.if_success.ensures.told _) }
