use Rattle.exchange_laws.proofs.QuietRests.{quiet-rests, none-waits-at-rest}
use Rattle.exchange_laws.proofs.runs.quiets_rest.Goals as goal

pub returns-clause-rest : goal.returns-clause-rest
returns-clause-rest c = quiet-rests

pub returns-clause-none_waits : goal.returns-clause-none_waits
returns-clause-none_waits c = none-waits-at-rest
