use Rattle.host_framing.proofs.SpiParts.{sends-deselected}
use Rattle.host_framing.proofs.spi.steps_spi.Goals as goal

pub returns-clause-sends : goal.returns-clause-sends
returns-clause-sends g c = sends-deselected _ _ _ _ _ _ c.talk-heard.ensures.talks c.deselect.ensures.made
