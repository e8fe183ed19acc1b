use Rattle.std.proofs.Common.{sym, ◌∙◌, true, false, ◌≡◌}
use Rattle.ec_model.specs.declared.event.Event.TheVariants.{Pin}
use Rattle.ec_model.proofs.StepLaws.{step-pin}
use Rattle.ec_model.proofs.laws.pin_is_the_worlds.Goals as goal

-- no test is both true and false
apart : false ≡ true → ⊥
apart same = cc

pub returns-clause-pin : goal.returns-clause-pin
returns-clause-pin c = step-pin

pub returns-clause-unguarded : goal.returns-clause-unguarded
returns-clause-unguarded c = λ old answer meant seen hurt new step guarded. apart (sym (step-pin old (Pin false) answer meant seen hurt new step) ∙ guarded.pin)
