use Rattle.sync_rules.specs.Parts.{Waits}
use Rattle.sync_rules.specs.Steps.{AsksHash}
use Rattle.sync_engine.proofs.Chains.{leads-on, stops}
use Rattle.sync_engine.proofs.hashing.look.Goals as goal

pub returns-in_err-pause : goal.returns-in_err-pause
returns-in_err-pause g c = record { does = stops (λ setting. Waits 64 setting) (λ setting waited. AsksHash setting c.args.aim.now) _ _ _ _ _ c.from_residual.ensures c.in_err-pause.ensures.does }

pub returns : goal.returns
returns g c = record {
  does = leads-on (λ setting. Waits 64 setting) (λ setting waited. AsksHash setting c.args.aim.now) _ _ _ _ _ _ c.in_ok-pause.ensures.does
      (c.ask_hash.ensures.does);
}
