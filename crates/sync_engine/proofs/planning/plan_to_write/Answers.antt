use Rattle.std.proofs.Common.{refl, true, Ok}
use Rattle.sync_rules.specs.Parts.{Gives}
use Rattle.sync_rules.specs.Steps.{Frees, plan_of}
use Rattle.sync_engine.proofs.Chains.{leads-on, stops, gives}
use Rattle.sync_engine.proofs.planning.plan_to_write.Goals as goal

pub returns-in_err-free-clause-does : goal.returns-in_err-free-clause-does
returns-in_err-free-clause-does g c = stops (λ setting. Frees setting) (λ setting free. Gives (Ok (plan_of c.args.aim.now true))) _ _ _ _ _ c.from_residual.ensures c.in_err-free.ensures.does

pub returns-clause-does : goal.returns-clause-does
returns-clause-does g c = leads-on (λ setting. Frees setting) (λ setting free. Gives (Ok (plan_of c.args.aim.now true))) _ _ _ _ _ _ c.in_ok-free.ensures.does
    (gives (λ setting. Ok (plan_of c.args.aim.now true)) _ _ _ refl)
