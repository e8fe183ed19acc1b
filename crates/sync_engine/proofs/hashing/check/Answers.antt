use Rattle.sync_rules.specs.Parts.{Gives}
use Rattle.sync_rules.specs.Replies.{given_if}
use Rattle.sync_rules.specs.Steps.{Hashes}
use Rattle.sync_engine.proofs.Chains.{leads-on, stops, gives}
use Rattle.sync_engine.proofs.hashing.check.Goals as goal

pub returns-in_err-same : goal.returns-in_err-same
returns-in_err-same g c = record { does = stops (λ setting. Hashes setting c.args.aim.now) (λ setting same. Gives (given_if same tt)) _ _ _ _ _ c.from_residual.ensures c.in_err-same.ensures.does }

pub returns : goal.returns
returns g c = record {
  does = leads-on (λ setting. Hashes setting c.args.aim.now) (λ setting same. Gives (given_if same tt)) c.in_ok-same.same _ _ _ _ _ c.in_ok-same.ensures.does
      (gives (λ setting. given_if c.in_ok-same.same tt) _ _ _ c.required.ensures.told);
}
