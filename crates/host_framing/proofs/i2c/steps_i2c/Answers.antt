use Rattle.host_framing.proofs.I2cParts.{sends-stopped}
use Rattle.host_framing.proofs.i2c.steps_i2c.Goals as goal

pub returns-clause-sends : goal.returns-clause-sends
returns-clause-sends g c = sends-stopped _ _ _ _ _ c.talk_i2c-heard.ensures.talks c.stop.ensures.quiets
