use Rattle.std.proofs.Common.{refl, true, Ok}
use Rattle.sync_rules.specs.Parts.{Gives, Then, When}
use Rattle.sync_rules.specs.Steps.{AsksCopy, Jumps, JumpLeads}
use Rattle.sync_engine.proofs.Chains.{leads-on, stops, gives, when-true, when-false}
use Rattle.sync_engine.proofs.starting.start.Goals as goal

pub returns-in_err-runs_rw : goal.returns-in_err-runs_rw
returns-in_err-runs_rw g c = record { does = stops (λ setting. AsksCopy setting) (λ setting runs_rw. When runs_rw (Gives (Ok true)) (Then (Jumps setting) (JumpLeads setting))) _ _ _ _ _ c.from_residual.ensures c.in_err-runs_rw.ensures.does }

pub returns-then-runs_rw : goal.returns-then-runs_rw
returns-then-runs_rw g c = record {
  does = leads-on (λ setting. AsksCopy setting) (λ setting runs_rw. When runs_rw (Gives (Ok true)) (Then (Jumps setting) (JumpLeads setting))) c.in_ok-runs_rw.runs_rw _ _ _ _ _ c.in_ok-runs_rw.ensures.does
      (when-true (λ setting. Gives (Ok true)) (λ setting. Then (Jumps setting) (JumpLeads setting)) _ _ _ _ _ c.if-runs_rw.true (gives (λ setting. Ok true) _ _ _ refl));
}

pub returns : goal.returns
returns g c = record {
  does = leads-on (λ setting. AsksCopy setting) (λ setting runs_rw. When runs_rw (Gives (Ok true)) (Then (Jumps setting) (JumpLeads setting))) c.in_ok-runs_rw.runs_rw _ _ _ _ _ c.in_ok-runs_rw.ensures.does
      (when-false (λ setting. Gives (Ok true)) (λ setting. Then (Jumps setting) (JumpLeads setting)) _ _ _ _ _ c.if-runs_rw.false c.jump_up.ensures.does);
}
