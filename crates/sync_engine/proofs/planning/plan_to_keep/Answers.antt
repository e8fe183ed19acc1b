use Rattle.std.proofs.Common.{refl, false, Ok}
use Rattle.sync_rules.specs.Parts.{Gives, When}
use Rattle.sync_rules.specs.Steps.{Starts, plan_of, PlansToWrite}
use Rattle.sync_engine.proofs.Chains.{leads-on, stops, gives, when-true, when-false}
use Rattle.sync_engine.proofs.planning.plan_to_keep.Goals as goal

pub returns-in_err-runs-clause-does : goal.returns-in_err-runs-clause-does
returns-in_err-runs-clause-does g c = stops (λ setting. Starts setting) (λ setting runs. When runs (Gives (Ok (plan_of c.args.aim.now false))) (PlansToWrite setting c.args.aim.now)) _ _ _ _ _ c.from_residual.ensures c.in_err-runs.ensures.does

pub returns-then-runs-clause-does : goal.returns-then-runs-clause-does
returns-then-runs-clause-does g c = leads-on (λ setting. Starts setting) (λ setting runs. When runs (Gives (Ok (plan_of c.args.aim.now false))) (PlansToWrite setting c.args.aim.now)) c.in_ok-runs.runs _ _ _ _ _ c.in_ok-runs.ensures.does
    (when-true (λ setting. Gives (Ok (plan_of c.args.aim.now false))) (λ setting. PlansToWrite setting c.args.aim.now) _ _ _ _ _ c.if-runs.true (gives (λ setting. Ok (plan_of c.args.aim.now false)) _ _ _ refl))

pub returns-clause-does : goal.returns-clause-does
returns-clause-does g c = leads-on (λ setting. Starts setting) (λ setting runs. When runs (Gives (Ok (plan_of c.args.aim.now false))) (PlansToWrite setting c.args.aim.now)) c.in_ok-runs.runs _ _ _ _ _ c.in_ok-runs.ensures.does
    (when-false (λ setting. Gives (Ok (plan_of c.args.aim.now false))) (λ setting. PlansToWrite setting c.args.aim.now) _ _ _ _ _ c.if-runs.false c.plan_to_write.ensures.does)
