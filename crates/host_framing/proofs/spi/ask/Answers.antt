use Rattle.host_framing.proofs.SpiParts.{asks-put}
use Rattle.host_framing.proofs.spi.ask.Goals as goal

pub returns-clause-asks : goal.returns-clause-asks
returns-clause-asks g c = asks-put _ _ _ _ _ _ c.as_slice.ensures.bytes c.did.ensures.made c.put.ensures.puts
