use Rattle.std.proofs.Common.{[], ◌∙◌, ap, ℕ}
use Rattle.ec_types.specs.Tables.{packet_limit}
use Rattle.host_transport.proofs.WireParts.{part-as}
use Rattle.sync_rules.specs.Replies.{limits_told}
use Rattle.sync_engine.proofs.Asked.{learns}
use Rattle.sync_engine.proofs.asking.agree.Goals as goal

pub returns : goal.returns
returns g c =
    let limit = c.limit_of-limit.ensures.limit ∙ ap packet_limit c.kind.ensures.kind in
    let told = c.shown_limits.ensures.told ∙ ap (λ (n : ℕ). limits_told n c.reply_body.result.now) limit in
    record { does = part-as _ _ _ _ _ (learns 0x0B 0 _ [] _ 12 _ (limits_told (packet_limit _)) c.send-said.result c.send-said.new.buffers.reply _ _ _ _ c.clear.ensures c.send-said.ensures.tries c.reply_body.ensures.body told (c.if_success.ensures.told _)) (λ added part. part) }
