use Rattle.ec_wire.proofs.Growth.{grows-then}
use Rattle.ec_wire.proofs.laws.calls_compose.Goals as goal

pub returns : goal.returns
returns c = grows-then
