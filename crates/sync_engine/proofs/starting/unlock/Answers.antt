use Rattle.sync_rules.specs.Parts.{Gives, Then, Colds}
use Rattle.sync_rules.specs.Replies.{unlocked_told}
use Rattle.sync_rules.specs.Steps.{Protects}
use Rattle.sync_engine.proofs.Chains.{leads-on, stops, gives}
use Rattle.sync_engine.proofs.starting.unlock.Goals as goal

pub returns-in_err-restart : goal.returns-in_err-restart
returns-in_err-restart g c = record { does = stops (λ setting. Colds setting) (λ setting reset. Then (Protects setting 0) (λ flags. Gives (unlocked_told flags))) _ _ _ _ _ c.from_residual.ensures c.in_err-restart.ensures.does }

pub returns-in_err-flags : goal.returns-in_err-flags
returns-in_err-flags g c = record {
  does = leads-on (λ setting. Colds setting) (λ setting reset. Then (Protects setting 0) (λ flags. Gives (unlocked_told flags))) _ _ _ _ _ _ c.in_ok-restart.ensures.does
      (stops (λ setting. Protects setting 0) (λ setting flags. Gives (unlocked_told flags)) _ _ _ _ _ c.from_residual-in_err-flags.ensures c.in_err-flags.ensures.does);
}

pub returns : goal.returns
returns g c = record {
  does = leads-on (λ setting. Colds setting) (λ setting reset. Then (Protects setting 0) (λ flags. Gives (unlocked_told flags))) _ _ _ _ _ _ c.in_ok-restart.ensures.does
      (leads-on (λ setting. Protects setting 0) (λ setting flags. Gives (unlocked_told flags)) c.in_ok-flags.flags _ _ _ _ _ c.in_ok-flags.ensures.does
      (gives (λ setting. unlocked_told c.in_ok-flags.flags) _ _ _ c.unlocked.ensures.told));
}
