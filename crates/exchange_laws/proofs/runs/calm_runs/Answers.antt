use Rattle.exchange_laws.proofs.CalmRun.{calm_lead}
use Rattle.exchange_laws.proofs.runs.calm_runs.Goals as goal

pub returns : goal.returns
returns c = calm_lead
