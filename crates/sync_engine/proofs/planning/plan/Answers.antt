use Rattle.sync_rules.specs.Parts.{Then, When}
use Rattle.sync_rules.specs.Steps.{Hashes, PlansToWrite, PlansToKeep, Surveys}
use Rattle.sync_engine.proofs.Chains.{leads-on, stops, when-true, when-false}
use Rattle.sync_engine.proofs.planning.plan.Goals as goal

pub returns-in_err-aim-clause-does : goal.returns-in_err-aim-clause-does
returns-in_err-aim-clause-does g c = stops (λ setting. Surveys setting c.args.image.now) (λ setting aim. Then (Hashes setting aim) (λ same. When same (PlansToKeep setting aim) (PlansToWrite setting aim))) _ _ _ _ _ c.from_residual.ensures c.in_err-aim.ensures.does

pub returns-in_err-same-clause-does : goal.returns-in_err-same-clause-does
returns-in_err-same-clause-does g c = leads-on (λ setting. Surveys setting c.args.image.now) (λ setting aim. Then (Hashes setting aim) (λ same. When same (PlansToKeep setting aim) (PlansToWrite setting aim))) c.in_ok-aim.aim _ _ _ _ _ c.in_ok-aim.ensures.does
    (stops (λ setting. Hashes setting c.in_ok-aim.aim) (λ setting same. When same (PlansToKeep setting c.in_ok-aim.aim) (PlansToWrite setting c.in_ok-aim.aim)) _ _ _ _ _ c.from_residual-in_err-same.ensures c.in_err-same.ensures.does)

pub returns-then-same-clause-does : goal.returns-then-same-clause-does
returns-then-same-clause-does g c = leads-on (λ setting. Surveys setting c.args.image.now) (λ setting aim. Then (Hashes setting aim) (λ same. When same (PlansToKeep setting aim) (PlansToWrite setting aim))) c.in_ok-aim.aim _ _ _ _ _ c.in_ok-aim.ensures.does
    (leads-on (λ setting. Hashes setting c.in_ok-aim.aim) (λ setting same. When same (PlansToKeep setting c.in_ok-aim.aim) (PlansToWrite setting c.in_ok-aim.aim)) c.in_ok-same.same _ _ _ _ _ c.in_ok-same.ensures.does
    (when-true (λ setting. PlansToKeep setting c.in_ok-aim.aim) (λ setting. PlansToWrite setting c.in_ok-aim.aim) _ _ _ _ _ c.if-same.true c.plan_to_keep.ensures.does))

pub returns-clause-does : goal.returns-clause-does
returns-clause-does g c = leads-on (λ setting. Surveys setting c.args.image.now) (λ setting aim. Then (Hashes setting aim) (λ same. When same (PlansToKeep setting aim) (PlansToWrite setting aim))) c.in_ok-aim.aim _ _ _ _ _ c.in_ok-aim.ensures.does
    (leads-on (λ setting. Hashes setting c.in_ok-aim.aim) (λ setting same. When same (PlansToKeep setting c.in_ok-aim.aim) (PlansToWrite setting c.in_ok-aim.aim)) c.in_ok-same.same _ _ _ _ _ c.in_ok-same.ensures.does
    (when-false (λ setting. PlansToKeep setting c.in_ok-aim.aim) (λ setting. PlansToWrite setting c.in_ok-aim.aim) _ _ _ _ _ c.if-same.false c.plan_to_write.ensures.does))
