use Rattle.std.proofs.Common.{refl, [], arith}
use Rattle.ec_examples.proofs.RoundLemmas.{none-asked, begun-round}
use Rattle.ec_examples.proofs.rounds.two_short_rounds.Goals as goal

pub returns : goal.returns
returns c = record { few = omega arith; whole = refl; each = (begun-round 8000000 12000000 [] refl (none-asked [] refl) refl, (begun-round 4000000 11999965 [] refl (none-asked [] refl) refl, tt)) }
