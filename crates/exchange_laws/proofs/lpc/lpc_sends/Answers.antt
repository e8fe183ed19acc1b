use Rattle.exchange_laws.proofs.LpcSend.{lpc-calm}
use Rattle.exchange_laws.proofs.OffLead.{lpc-off}
use Rattle.exchange_laws.proofs.lpc.lpc_sends.Goals as goal

pub returns-clause-on : goal.returns-clause-on
returns-clause-on c = lpc-calm

pub returns-clause-off : goal.returns-clause-off
returns-clause-off c = lpc-off
