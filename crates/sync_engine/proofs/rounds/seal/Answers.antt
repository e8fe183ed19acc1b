use Rattle.sync_rules.specs.Parts.{Gives, Then}
use Rattle.sync_rules.specs.Replies.{given_if}
use Rattle.sync_rules.specs.Requests.{reboot_request}
use Rattle.sync_rules.specs.Steps.{AsksCopy, Protects, Checks, Confirms}
use Rattle.sync_engine.proofs.Chains.{leads-on, stops, gives}
use Rattle.sync_engine.proofs.rounds.seal.Goals as goal

pub returns-in_err-protect : goal.returns-in_err-protect
returns-in_err-protect g c = record { does = stops (λ setting. Protects setting 6) (λ setting flags. Then (Confirms setting (reboot_request 5)) (λ disabled. Then (Checks setting c.args.aim.now) (λ checked. Then (AsksCopy setting) (λ runs_rw. Gives (given_if runs_rw tt))))) _ _ _ _ _ c.from_residual.ensures c.in_err-protect.ensures.does }

pub returns-in_err-disable_jump : goal.returns-in_err-disable_jump
returns-in_err-disable_jump g c = record {
  does = leads-on (λ setting. Protects setting 6) (λ setting flags. Then (Confirms setting (reboot_request 5)) (λ disabled. Then (Checks setting c.args.aim.now) (λ checked. Then (AsksCopy setting) (λ runs_rw. Gives (given_if runs_rw tt))))) _ _ _ _ _ _ c.in_ok-protect.ensures.does
      (stops (λ setting. Confirms setting (reboot_request 5)) (λ setting disabled. Then (Checks setting c.args.aim.now) (λ checked. Then (AsksCopy setting) (λ runs_rw. Gives (given_if runs_rw tt)))) _ _ _ _ _ c.from_residual-in_err-disable_jump.ensures c.in_err-disable_jump.ensures.does);
}

pub returns-in_err-check : goal.returns-in_err-check
returns-in_err-check g c = record {
  does = leads-on (λ setting. Protects setting 6) (λ setting flags. Then (Confirms setting (reboot_request 5)) (λ disabled. Then (Checks setting c.args.aim.now) (λ checked. Then (AsksCopy setting) (λ runs_rw. Gives (given_if runs_rw tt))))) _ _ _ _ _ _ c.in_ok-protect.ensures.does
      (leads-on (λ setting. Confirms setting (reboot_request 5)) (λ setting disabled. Then (Checks setting c.args.aim.now) (λ checked. Then (AsksCopy setting) (λ runs_rw. Gives (given_if runs_rw tt)))) _ _ _ _ _ _ c.in_ok-disable_jump.ensures.does
      (stops (λ setting. Checks setting c.args.aim.now) (λ setting checked. Then (AsksCopy setting) (λ runs_rw. Gives (given_if runs_rw tt))) _ _ _ _ _ c.from_residual-in_err-check.ensures c.in_err-check.ensures.does));
}

pub returns-in_err-runs_rw : goal.returns-in_err-runs_rw
returns-in_err-runs_rw g c = record {
  does = leads-on (λ setting. Protects setting 6) (λ setting flags. Then (Confirms setting (reboot_request 5)) (λ disabled. Then (Checks setting c.args.aim.now) (λ checked. Then (AsksCopy setting) (λ runs_rw. Gives (given_if runs_rw tt))))) _ _ _ _ _ _ c.in_ok-protect.ensures.does
      (leads-on (λ setting. Confirms setting (reboot_request 5)) (λ setting disabled. Then (Checks setting c.args.aim.now) (λ checked. Then (AsksCopy setting) (λ runs_rw. Gives (given_if runs_rw tt)))) _ _ _ _ _ _ c.in_ok-disable_jump.ensures.does
      (leads-on (λ setting. Checks setting c.args.aim.now) (λ setting checked. Then (AsksCopy setting) (λ runs_rw. Gives (given_if runs_rw tt))) _ _ _ _ _ _ c.in_ok-check.ensures.does
      (stops (λ setting. AsksCopy setting) (λ setting runs_rw. Gives (given_if runs_rw tt)) _ _ _ _ _ c.from_residual-in_err-runs_rw.ensures c.in_err-runs_rw.ensures.does)));
}

pub returns : goal.returns
returns g c = record {
  does = leads-on (λ setting. Protects setting 6) (λ setting flags. Then (Confirms setting (reboot_request 5)) (λ disabled. Then (Checks setting c.args.aim.now) (λ checked. Then (AsksCopy setting) (λ runs_rw. Gives (given_if runs_rw tt))))) _ _ _ _ _ _ c.in_ok-protect.ensures.does
      (leads-on (λ setting. Confirms setting (reboot_request 5)) (λ setting disabled. Then (Checks setting c.args.aim.now) (λ checked. Then (AsksCopy setting) (λ runs_rw. Gives (given_if runs_rw tt)))) _ _ _ _ _ _ c.in_ok-disable_jump.ensures.does
      (leads-on (λ setting. Checks setting c.args.aim.now) (λ setting checked. Then (AsksCopy setting) (λ runs_rw. Gives (given_if runs_rw tt))) _ _ _ _ _ _ c.in_ok-check.ensures.does
      (leads-on (λ setting. AsksCopy setting) (λ setting runs_rw. Gives (given_if runs_rw tt)) c.in_ok-runs_rw.runs_rw _ _ _ _ _ c.in_ok-runs_rw.ensures.does
      (gives (λ setting. given_if c.in_ok-runs_rw.runs_rw tt) _ _ _ c.required.ensures.told))));
}
