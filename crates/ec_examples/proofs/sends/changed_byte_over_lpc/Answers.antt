use Rattle.ec_examples.proofs.Exchanges.{changed-sent}
use Rattle.ec_examples.proofs.sends.changed_byte_over_lpc.Goals as goal

pub returns-clause-heard : goal.returns-clause-heard
returns-clause-heard c = changed-sent
