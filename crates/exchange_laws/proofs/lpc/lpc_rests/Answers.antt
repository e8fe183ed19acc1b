use Rattle.ec_model.specs.HostCalls.{calls_of}
use Rattle.exchange_laws.proofs.LpcEnds.{lpc-ends}
use Rattle.exchange_laws.proofs.Rests.{ends-rest}
use Rattle.exchange_laws.proofs.lpc.lpc_rests.Goals as goal

pub returns : goal.returns
returns c = λ old entries packet heard new valid sent run. ends-rest old entries new valid (lpc-ends packet (calls_of entries) heard sent.1) run
