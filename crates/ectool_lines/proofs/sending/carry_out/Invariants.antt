use Rattle.std.proofs.Common.{◌≡◌, ◌≤◌, ◌-◌, ◌*◌, length}
use Rattle.ec_types.specs.Tables.{packet_limit}
use Rattle.ectool_lines.specs.Sending.{most_text}
use Rattle.ectool_lines.proofs.SendLemmas.{Went}
use Rattle.ectool_lines.proofs.sending.carry_out.Given as goal

abbrev pub invariant-loop-k : goal.invariant-loop-k
invariant-loop-k g l =
    Went l.fn.tool l.k (g.W.Wire.view l.fn.w) (g.W.Wire.view l.w) l.buffers.text × (length l.buffers.text ≤ l.k * most_text l.fn.tool (packet_limit (g.W.Wire.view l.fn.w).bus - 8))
    × (l.k ≡ 0 → 200000 ≤ (g.W.Wire.view l.w).spare)
