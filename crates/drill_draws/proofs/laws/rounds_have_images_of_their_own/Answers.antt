use Rattle.drill_draws.proofs.Apart.{same-round}
use Rattle.drill_draws.proofs.laws.rounds_have_images_of_their_own.Goals as goal

pub returns : goal.returns
returns c = same-round
