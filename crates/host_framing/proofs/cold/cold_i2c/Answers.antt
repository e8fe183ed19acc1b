use Rattle.host_framing.proofs.ColdParts.{i2c-stopped}
use Rattle.host_framing.proofs.cold.cold_i2c.Goals as goal

pub returns : goal.returns
returns g c = i2c-stopped _ _ _ _ c.talk_cold.ensures.talks c.stop.ensures.quiets
