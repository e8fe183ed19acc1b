use Rattle.std.proofs.Common.{◌≡◌, ap, ◌∙◌, sym, ℕ, List, [], drop}
use Rattle.host_transport.specs.Ends.{ending_of}
use Rattle.host_transport.specs.Restarting.{cold_view}
use Rattle.host_transport.specs.Trying.{said_of}
use Rattle.ectool_lines.specs.Sending.{asked_of}
use Rattle.ectool_lines.proofs.SendLemmas.{hears-once, hears-restart, hears-tried}
use Rattle.ectool_lines.proofs.sending.send.Goals as goal

pub returns-then-is_sent_once-clause-hears : goal.returns-then-is_sent_once-clause-hears
returns-then-is_sent_once-clause-hears g c =
    let body = drop 8 c.send_once.new.buffers.reply in
    hears-once (asked_of c.args.command c.args.buffers.now.body) (ending_of c.send_once.result body) (said_of c.said_once.result body) (g.W.Wire.view c.args.w.now) (g.W.Wire.view c.send_once.new.w)
    (sym c.is_sent_once.ensures ∙ c.if-is_sent_once.true) (c.said_once.ensures body) c.send_once.ensures.asks

pub returns-then-is_cold-clause-hears : goal.returns-then-is_cold-clause-hears
returns-then-is_cold-clause-hears g c =
    let body = drop 8 c.restart.new.buffers.reply in
    let none : body ≡ [] = ap (λ (bytes : List ℕ). drop 8 bytes) c.restart.ensures.reply in
    hears-restart (asked_of c.args.command c.args.buffers.now.body) (cold_view c.restart.result) (said_of c.said_restart.result body) (g.W.Wire.view c.args.w.now) (g.W.Wire.view c.restart.new.w)
    (sym c.is_sent_once.ensures ∙ c.if-is_sent_once.false) (sym c.is_cold.ensures ∙ c.if-is_cold.true) (ap (λ (bytes : List ℕ). said_of c.said_restart.result bytes) none ∙ c.said_restart.ensures) c.restart.ensures.restarts

pub returns-else-is_cold-clause-hears : goal.returns-else-is_cold-clause-hears
returns-else-is_cold-clause-hears g c =
    hears-tried (asked_of c.args.command c.args.buffers.now.body) (said_of c.send_tried.result (drop 8 c.send_tried.new.buffers.reply)) (g.W.Wire.view c.args.w.now) (g.W.Wire.view c.send_tried.new.w)
    (sym c.is_sent_once.ensures ∙ c.if-is_sent_once.false) (sym c.is_cold.ensures ∙ c.if-is_cold.false) c.send_tried.ensures.tries
