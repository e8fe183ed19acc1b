use Rattle.host_framing.proofs.ColdParts.{spi-deselected}
use Rattle.host_framing.proofs.cold.cold_spi.Goals as goal

pub returns : goal.returns
returns g c = spi-deselected _ _ _ _ _ _ c.ask.ensures.asks c.waited.ensures.made c.deselect.ensures.made
