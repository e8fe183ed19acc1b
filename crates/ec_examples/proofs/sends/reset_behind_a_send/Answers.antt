use Rattle.std.proofs.Common.{◌≡◌, true, false}
use Rattle.ec_types.specs.declared.bus.BusKind.TheVariants.{Lpc}
use Rattle.ec_model.specs.Send.{IsTransaction, Quiets, Sends, Colds}
use Rattle.ec_examples.specs.Sends.{changed_then_reset}
use Rattle.ec_examples.proofs.sends.reset_behind_a_send.Goals as goal

-- a reset ends no call
ends : false ≡ true → ⊥
ends same = cc

-- no transaction ends with it
none : IsTransaction Lpc changed_then_reset → ⊥
none (Quiets quiet) = ends quiet.0
none (Sends packet heard other sent) = ends sent.0
none (Colds cold) = ends cold.0

pub returns-clause-send : goal.returns-clause-send
returns-clause-send c = λ packet heard sent. ends sent.0

pub returns-clause-other : goal.returns-clause-other
returns-clause-other c = none
