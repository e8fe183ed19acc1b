use Rattle.host_framing.proofs.CleanLemmas.{undisturbed-since, exchanges-calm}
use Rattle.host_framing.proofs.SpiClean.{spi-serves, spi-caused, spi-rests, spi-takes}
use Rattle.host_framing.proofs.spi.send_spi.Goals as goal

pub returns-clause-undisturbed : goal.returns-clause-undisturbed
returns-clause-undisturbed g c = undisturbed-since _ _ _ c.steps_spi.ensures.sends.grows

pub returns-clause-calm : goal.returns-clause-calm
returns-clause-calm g c = spi-serves _ _ _ _ c.requires.bus c.requires.request.plain c.requires.short c.steps_spi.ensures.sends

pub returns-clause-exchange : goal.returns-clause-exchange
returns-clause-exchange g c = exchanges-calm _ _ _ _ _ c.requires.bus c.requires.request.plain c.requires.short c.steps_spi.ensures.sends

pub returns-clause-cause : goal.returns-clause-cause
returns-clause-cause g c = spi-caused _ _ _ _ c.requires.bus c.requires.request.plain c.requires.short c.steps_spi.ensures.sends

pub returns-clause-rests : goal.returns-clause-rests
returns-clause-rests g c = spi-rests _ _ _ _ c.requires.bus c.steps_spi.ensures.sends

pub returns-clause-takes : goal.returns-clause-takes
returns-clause-takes g c = spi-takes _ _ _ _ c.requires.bus c.requires.request.plain c.requires.short c.steps_spi.ensures.sends
