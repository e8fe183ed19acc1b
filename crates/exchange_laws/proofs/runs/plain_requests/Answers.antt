use Rattle.exchange_laws.proofs.Plain.{plain-answered}
use Rattle.exchange_laws.proofs.Spelled.{plain-spelled}
use Rattle.exchange_laws.proofs.runs.plain_requests.Goals as goal

pub returns-clause-spelled : goal.returns-clause-spelled
returns-clause-spelled c = plain-spelled

pub returns-clause-answered : goal.returns-clause-answered
returns-clause-answered c = plain-answered
