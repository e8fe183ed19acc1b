use Rattle.sync_rules.specs.Steps.{StartsHash, LooksUpTo}
use Rattle.sync_engine.proofs.Chains.{leads-on, stops}
use Rattle.sync_engine.proofs.hashing.hash.Goals as goal

pub returns-in_err-start_hash : goal.returns-in_err-start_hash
returns-in_err-start_hash g c = record { does = stops (λ setting. StartsHash setting) (λ setting started. LooksUpTo 40 setting c.args.aim.now) _ _ _ _ _ c.from_residual.ensures c.in_err-start_hash.ensures.does }

pub returns : goal.returns
returns g c = record {
  does = leads-on (λ setting. StartsHash setting) (λ setting started. LooksUpTo 40 setting c.args.aim.now) _ _ _ _ _ _ c.in_ok-start_hash.ensures.does
      (c.look_up.ensures.does);
}
