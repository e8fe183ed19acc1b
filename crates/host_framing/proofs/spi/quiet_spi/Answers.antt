use Rattle.host_framing.proofs.CleanLemmas.{undisturbed-since}
use Rattle.host_framing.proofs.SpiParts.{quiets-deselected}
use Rattle.host_framing.proofs.SpiClean.{spi-settles}
use Rattle.host_framing.proofs.spi.quiet_spi.Goals as goal

pub returns-clause-quiets : goal.returns-clause-quiets
returns-clause-quiets g c = quiets-deselected _ _ _ c.deselect.ensures.made

pub returns-clause-undisturbed : goal.returns-clause-undisturbed
returns-clause-undisturbed g c = undisturbed-since _ _ _ c.deselect.ensures.made.grows

pub returns-clause-calm : goal.returns-clause-calm
returns-clause-calm g c = spi-settles _ _ c.requires.bus (quiets-deselected _ _ _ c.deselect.ensures.made)
