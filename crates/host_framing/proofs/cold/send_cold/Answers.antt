use Rattle.host_framing.proofs.CleanLemmas.{undisturbed-since}
use Rattle.host_framing.proofs.ColdCalm.{cold-resets}
use Rattle.host_framing.proofs.ColdRests.{cold-rests}
use Rattle.host_framing.proofs.ColdRoom.{cold-room}
use Rattle.host_framing.proofs.cold.send_cold.Goals as goal

pub returns-clause-undisturbed : goal.returns-clause-undisturbed
returns-clause-undisturbed g c = undisturbed-since _ _ _ c.steps_cold.ensures.grows

pub returns-clause-rests : goal.returns-clause-rests
returns-clause-rests g c = cold-rests _ _ _ c.steps_cold.ensures

pub returns-clause-resets : goal.returns-clause-resets
returns-clause-resets g c = cold-resets _ _ _ c.requires.short c.steps_cold.ensures

pub returns-clause-room : goal.returns-clause-room
returns-clause-room g c = cold-room _ _ _ _ c.steps_cold.ensures
