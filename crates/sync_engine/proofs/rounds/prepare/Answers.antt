use Rattle.std.proofs.Common.{refl, Ok}
use Rattle.sync_rules.specs.Parts.{Gives}
use Rattle.sync_rules.specs.Steps.{Rewrites}
use Rattle.sync_engine.proofs.Chains.{gives, when-true, when-false}
use Rattle.sync_engine.proofs.rounds.prepare.Goals as goal

pub returns-then-plan : goal.returns-then-plan
returns-then-plan g c = record { does = when-true (λ setting. Rewrites setting c.args.image.now c.args.plan.now.aim) (λ setting. Gives (Ok tt)) _ _ _ _ _ c.if-plan.true c.rewrite.ensures.does }

pub returns : goal.returns
returns g c = record { does = when-false (λ setting. Rewrites setting c.args.image.now c.args.plan.now.aim) (λ setting. Gives (Ok tt)) _ _ _ _ _ c.if-plan.false (gives (λ setting. Ok tt) _ _ _ refl) }
