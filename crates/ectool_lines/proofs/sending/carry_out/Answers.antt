use Rattle.std.proofs.Common.{◌≡◌, ap, subst, ℕ, ◌-◌, ◌<◌, ◌≤◌, true, drop, length, arith}
use Rattle.ec_types.specs.Tables.{packet_limit}
use Rattle.ec_model.specs.Tries.{Said, Answered}
use Rattle.command_laws.specs.Carried.{tells_any}
use Rattle.host_transport.specs.Trying.{said_of}
use Rattle.ectool_lines.specs.Asking.{HearsOn}
use Rattle.ectool_lines.specs.Requests.{Asked, command_of, count_of}
use Rattle.ectool_lines.specs.Sending.{asked_of, most_text}
use Rattle.ectool_lines.proofs.SendLemmas.{Went, went-on, went-all, went-stopped, hears-sized, limit-least, limit-most, limit-is, count-is, asked-is, once-first, reply-few, reply-fits, text-short, text-more, more-text, no-success}
use Rattle.ectool_lines.proofs.sending.carry_out.Goals as goal

pub returns-then-not-is_success : goal.returns-then-not-is_success
returns-then-not-is_success g c =
    let tool = c.args.tool.now in
    let own = packet_limit (g.W.Wire.view c.args.w.now).bus in
    let limit : c.limit_of-limit.result ≡ own = limit-is _ _ _ c.limit_of-limit.ensures.limit c.kind.ensures.kind in
    let asked : asked_of c.command-command.result c.command-command.new.body ≡ command_of own tool c.loop-k.k = asked-is _ own c.loop-k.k tool _ limit c.command-command.ensures.asked in
    let count : c.count-k-end.result ≡ count_of own tool = count-is _ own _ tool limit c.count-k-end.ensures.count in
    let there : c.loop-k.k < count_of own tool = omega (arith, c.loop-k-test.true, count) in
    let body = drop 8 c.send-said.new.buffers.reply in
    let refused = no-success c.send-said.result body c.is_success.result (λ bytes same. (c.is_success.ensures bytes).1 same) c.if-not-is_success.true in
    rw (c.refuse.ensures body)
    (went-stopped tool c.loop-k.k (g.W.Wire.view c.args.w.now) (g.W.Wire.view c.loop-k.w) (g.W.Wire.view c.send-said.new.w) c.loop-k.buffers.text (asked_of c.command-command.result c.command-command.new.body) (said_of c.send-said.result body) there asked refused c.loop-k.invariant.0 c.send-said.ensures.hears)

pub send-said-requires-clause-room : goal.send-said-requires-clause-room
send-said-requires-clause-room g c = λ once.
    let tool = c.args.tool.now in
    let own = packet_limit (g.W.Wire.view c.args.w.now).bus in
    let limit : c.limit_of-limit.result ≡ own = limit-is _ _ _ c.limit_of-limit.ensures.limit c.kind.ensures.kind in
    let asked : asked_of c.command-command.result c.command-command.new.body ≡ command_of own tool c.loop-k.k = asked-is _ own c.loop-k.k tool _ limit c.command-command.ensures.asked in
    let count : c.count-k-end.result ≡ count_of own tool = count-is _ own _ tool limit c.count-k-end.ensures.count in
    let there : c.loop-k.k < count_of own tool = omega (arith, c.loop-k-test.true, count) in
    let first = once-first own tool c.loop-k.k there (subst (λ (command : Asked). tells_any command.command ≡ true) asked once) in
    omega (arith, c.loop-k.invariant.2 first)

pub add_reply-requires-clause-sized : goal.add_reply-requires-clause-sized
add_reply-requires-clause-sized g c =
    let tool = c.args.tool.now in
    let own = packet_limit (g.W.Wire.view c.args.w.now).bus in
    let limit : c.limit_of-limit.result ≡ own = limit-is _ _ _ c.limit_of-limit.ensures.limit c.kind.ensures.kind in
    let asked : asked_of c.command-command.result c.command-command.new.body ≡ command_of own tool c.loop-k.k = asked-is _ own c.loop-k.k tool _ limit c.command-command.ensures.asked in
    let body = drop 8 c.send-said.new.buffers.reply in
    let success = (c.is_success.ensures body).0 c.if-not-is_success.false in
    reply-fits tool own c.loop-k.k (asked_of c.command-command.result c.command-command.new.body) body c.reply_body.result.now asked c.reply_body.ensures.body
    (hears-sized (asked_of c.command-command.result c.command-command.new.body) (said_of c.send-said.result body) body (g.W.Wire.view c.loop-k.w) (g.W.Wire.view c.send-said.new.w) success c.send-said.ensures.hears)

pub add_reply-requires-clause-few : goal.add_reply-requires-clause-few
add_reply-requires-clause-few g c =
    let tool = c.args.tool.now in
    let bus = (g.W.Wire.view c.args.w.now).bus in
    let own = packet_limit bus in
    let limit : c.limit_of-limit.result ≡ own = limit-is _ _ _ c.limit_of-limit.ensures.limit c.kind.ensures.kind in
    let asked : asked_of c.command-command.result c.command-command.new.body ≡ command_of own tool c.loop-k.k = asked-is _ own c.loop-k.k tool _ limit c.command-command.ensures.asked in
    let body = drop 8 c.send-said.new.buffers.reply in
    let success = (c.is_success.ensures body).0 c.if-not-is_success.false in
    let sized = hears-sized (asked_of c.command-command.result c.command-command.new.body) (said_of c.send-said.result body) body (g.W.Wire.view c.loop-k.w) (g.W.Wire.view c.send-said.new.w) success c.send-said.ensures.hears in
    omega (arith, ap length c.reply_body.ensures.body, reply-few own tool c.loop-k.k (asked_of c.command-command.result c.command-command.new.body) body (limit-least bus) c.requires.within asked sized, limit-most bus)

pub add_reply-requires-clause-fits : goal.add_reply-requires-clause-fits
add_reply-requires-clause-fits g c =
    let tool = c.args.tool.now in
    let bus = (g.W.Wire.view c.args.w.now).bus in
    let own = packet_limit bus in
    let limit : c.limit_of-limit.result ≡ own = limit-is _ _ _ c.limit_of-limit.ensures.limit c.kind.ensures.kind in
    let asked : asked_of c.command-command.result c.command-command.new.body ≡ command_of own tool c.loop-k.k = asked-is _ own c.loop-k.k tool _ limit c.command-command.ensures.asked in
    let count : c.count-k-end.result ≡ count_of own tool = count-is _ own _ tool limit c.count-k-end.ensures.count in
    let there : c.loop-k.k < count_of own tool = omega (arith, c.loop-k-test.true, count) in
    let body = drop 8 c.send-said.new.buffers.reply in
    let success = (c.is_success.ensures body).0 c.if-not-is_success.false in
    let sized = hears-sized (asked_of c.command-command.result c.command-command.new.body) (said_of c.send-said.result body) body (g.W.Wire.view c.loop-k.w) (g.W.Wire.view c.send-said.new.w) success c.send-said.ensures.hears in
    let few : length c.reply_body.result.now ≤ own - 8 = omega (arith, ap length c.reply_body.ensures.body, reply-few own tool c.loop-k.k (asked_of c.command-command.result c.command-command.new.body) body (limit-least bus) c.requires.within asked sized) in
    omega (arith, ap length c.send-said.ensures.text, c.loop-k.invariant.1, text-more tool (length c.reply_body.result.now) (own - 8) few, text-short own tool c.loop-k.k (limit-most bus) c.requires.within there)

pub loop-k-preserved : goal.loop-k-preserved
loop-k-preserved g c =
    let tool = c.args.tool.now in
    let bus = (g.W.Wire.view c.args.w.now).bus in
    let own = packet_limit bus in
    let limit : c.limit_of-limit.result ≡ own = limit-is _ _ _ c.limit_of-limit.ensures.limit c.kind.ensures.kind in
    let asked : asked_of c.command-command.result c.command-command.new.body ≡ command_of own tool c.loop-k.k = asked-is _ own c.loop-k.k tool _ limit c.command-command.ensures.asked in
    let body = drop 8 c.send-said.new.buffers.reply in
    let success = (c.is_success.ensures body).0 c.if-not-is_success.false in
    let sized = hears-sized (asked_of c.command-command.result c.command-command.new.body) (said_of c.send-said.result body) body (g.W.Wire.view c.loop-k.w) (g.W.Wire.view c.send-said.new.w) success c.send-said.ensures.hears in
    let few : length c.reply_body.result.now ≤ own - 8 = omega (arith, ap length c.reply_body.ensures.body, reply-few own tool c.loop-k.k (asked_of c.command-command.result c.command-command.new.body) body (limit-least bus) c.requires.within asked sized) in
    let hears : HearsOn (asked_of c.command-command.result c.command-command.new.body) (Answered 0 body) (g.W.Wire.view c.loop-k.w) (g.W.Wire.view c.send-said.new.w) =
    subst (λ (said : Said). HearsOn (asked_of c.command-command.result c.command-command.new.body) said (g.W.Wire.view c.loop-k.w) (g.W.Wire.view c.send-said.new.w)) success c.send-said.ensures.hears in (
      rw (c.add_reply.ensures.text, c.send-said.ensures.text, c.reply_body.ensures.body)
          (went-on tool c.loop-k.k (g.W.Wire.view c.args.w.now) (g.W.Wire.view c.loop-k.w) (g.W.Wire.view c.send-said.new.w) c.loop-k.buffers.text body (asked_of c.command-command.result c.command-command.new.body) asked c.loop-k.invariant.0 hears),
      omega (arith, c.add_reply.ensures.long, ap length c.send-said.ensures.text, c.loop-k.invariant.1, text-more tool (length c.reply_body.result.now) (own - 8) few, more-text c.loop-k.k (most_text tool (own - 8))),
      λ first. absurd (omega (arith, first)),
    )

pub returns : goal.returns
returns g c =
    let tool = c.args.tool.now in
    let own = packet_limit (g.W.Wire.view c.args.w.now).bus in
    let limit : c.limit_of-limit.result ≡ own = limit-is _ _ _ c.limit_of-limit.ensures.limit c.kind.ensures.kind in
    let count : c.count-k-end.result ≡ count_of own tool = count-is _ own _ tool limit c.count-k-end.ensures.count in
    let done : c.loop-k.k ≡ count_of own tool = omega (arith, c.loop-k-test.false, c.loop-k.auto.k-end, count) in
    rw c.close.ensures (went-all tool (g.W.Wire.view c.args.w.now) (g.W.Wire.view c.loop-k.w) c.loop-k.buffers.text (subst (λ (k : ℕ). Went tool k (g.W.Wire.view c.args.w.now) (g.W.Wire.view c.loop-k.w) c.loop-k.buffers.text) done c.loop-k.invariant.0))
