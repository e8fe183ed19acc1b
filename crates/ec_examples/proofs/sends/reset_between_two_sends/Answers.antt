use Rattle.std.proofs.Common.{refl}
use Rattle.ec_examples.specs.Sends.{hello_request, hello_response}
use Rattle.ec_examples.proofs.Exchanges.{lpc_exchange-sent}
use Rattle.ec_examples.proofs.sends.reset_between_two_sends.Goals as goal

pub returns-clause-heard : goal.returns-clause-heard
returns-clause-heard c = lpc_exchange-sent hello_request hello_response refl refl
