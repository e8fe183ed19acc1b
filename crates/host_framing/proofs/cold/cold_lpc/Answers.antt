use Rattle.host_framing.proofs.ColdParts.{lpc-done}
use Rattle.host_framing.proofs.cold.cold_lpc.Goals as goal

pub returns : goal.returns
returns g c = lpc-done _ _ _ _ c.if-not-ask_lpc.ensures.asks c.waited.ensures.made
