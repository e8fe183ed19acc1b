use Rattle.sync_rules.specs.Parts.{Gives, Then, Colds}
use Rattle.sync_rules.specs.Replies.{last_jump_told}
use Rattle.sync_rules.specs.Steps.{Jumps}
use Rattle.sync_engine.proofs.Chains.{leads-on, stops, gives}
use Rattle.sync_engine.proofs.starting.jump_again.Goals as goal

pub returns-in_err-restart : goal.returns-in_err-restart
returns-in_err-restart g c = record { does = stops (λ setting. Colds setting) (λ setting reset. Then (Jumps setting) (λ jump. Gives (last_jump_told jump))) _ _ _ _ _ c.from_residual.ensures c.in_err-restart.ensures.does }

pub returns-in_err-jump : goal.returns-in_err-jump
returns-in_err-jump g c = record {
  does = leads-on (λ setting. Colds setting) (λ setting reset. Then (Jumps setting) (λ jump. Gives (last_jump_told jump))) _ _ _ _ _ _ c.in_ok-restart.ensures.does
      (stops (λ setting. Jumps setting) (λ setting jump. Gives (last_jump_told jump)) _ _ _ _ _ c.from_residual-in_err-jump.ensures c.in_err-jump.ensures.does);
}

pub returns : goal.returns
returns g c = record {
  does = leads-on (λ setting. Colds setting) (λ setting reset. Then (Jumps setting) (λ jump. Gives (last_jump_told jump))) _ _ _ _ _ _ c.in_ok-restart.ensures.does
      (leads-on (λ setting. Jumps setting) (λ setting jump. Gives (last_jump_told jump)) c.in_ok-jump.jump _ _ _ _ _ c.in_ok-jump.ensures.does
      (gives (λ setting. last_jump_told c.in_ok-jump.jump) _ _ _ c.last_jump_end.ensures.told));
}
