use Rattle.sync_rules.specs.Steps.{Seals, Prepares}
use Rattle.sync_engine.proofs.Chains.{leads-on, stops}
use Rattle.sync_engine.proofs.rounds.carry_out.Goals as goal

pub returns-in_err-prepare : goal.returns-in_err-prepare
returns-in_err-prepare g c = record { does = stops (λ setting. Prepares setting c.args.image.now c.args.plan.now) (λ setting ready. Seals setting c.args.plan.now.aim) _ _ _ _ _ c.from_residual.ensures c.in_err-prepare.ensures.does }

pub returns : goal.returns
returns g c = record {
  does = leads-on (λ setting. Prepares setting c.args.image.now c.args.plan.now) (λ setting ready. Seals setting c.args.plan.now.aim) _ _ _ _ _ _ c.in_ok-prepare.ensures.does
      (c.seal.ensures.does);
}
