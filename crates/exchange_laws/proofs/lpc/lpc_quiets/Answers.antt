use Rattle.exchange_laws.proofs.LpcSend.{lpc-quiet}
use Rattle.exchange_laws.proofs.lpc.lpc_quiets.Goals as goal

pub returns : goal.returns
returns c = lpc-quiet
