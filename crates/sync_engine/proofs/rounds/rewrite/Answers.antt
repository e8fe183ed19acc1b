use Rattle.sync_rules.specs.Parts.{Gives, Then}
use Rattle.sync_rules.specs.Replies.{given_if}
use Rattle.sync_rules.specs.Steps.{Checks, Starts, Installs}
use Rattle.sync_engine.proofs.Chains.{leads-on, stops, gives}
use Rattle.sync_engine.proofs.rounds.rewrite.Goals as goal

pub returns-in_err-install : goal.returns-in_err-install
returns-in_err-install g c = record { does = stops (λ setting. Installs setting c.args.image.now c.args.aim.now.geometry) (λ setting installed. Then (Checks setting c.args.aim.now) (λ checked. Then (Starts setting) (λ runs. Gives (given_if runs tt)))) _ _ _ _ _ c.from_residual.ensures c.in_err-install.ensures.does }

pub returns-in_err-check : goal.returns-in_err-check
returns-in_err-check g c = record {
  does = leads-on (λ setting. Installs setting c.args.image.now c.args.aim.now.geometry) (λ setting installed. Then (Checks setting c.args.aim.now) (λ checked. Then (Starts setting) (λ runs. Gives (given_if runs tt)))) _ _ _ _ _ _ c.in_ok-install.ensures.does
      (stops (λ setting. Checks setting c.args.aim.now) (λ setting checked. Then (Starts setting) (λ runs. Gives (given_if runs tt))) _ _ _ _ _ c.from_residual-in_err-check.ensures c.in_err-check.ensures.does);
}

pub returns-in_err-runs : goal.returns-in_err-runs
returns-in_err-runs g c = record {
  does = leads-on (λ setting. Installs setting c.args.image.now c.args.aim.now.geometry) (λ setting installed. Then (Checks setting c.args.aim.now) (λ checked. Then (Starts setting) (λ runs. Gives (given_if runs tt)))) _ _ _ _ _ _ c.in_ok-install.ensures.does
      (leads-on (λ setting. Checks setting c.args.aim.now) (λ setting checked. Then (Starts setting) (λ runs. Gives (given_if runs tt))) _ _ _ _ _ _ c.in_ok-check.ensures.does
      (stops (λ setting. Starts setting) (λ setting runs. Gives (given_if runs tt)) _ _ _ _ _ c.from_residual-in_err-runs.ensures c.in_err-runs.ensures.does));
}

pub returns : goal.returns
returns g c = record {
  does = leads-on (λ setting. Installs setting c.args.image.now c.args.aim.now.geometry) (λ setting installed. Then (Checks setting c.args.aim.now) (λ checked. Then (Starts setting) (λ runs. Gives (given_if runs tt)))) _ _ _ _ _ _ c.in_ok-install.ensures.does
      (leads-on (λ setting. Checks setting c.args.aim.now) (λ setting checked. Then (Starts setting) (λ runs. Gives (given_if runs tt))) _ _ _ _ _ _ c.in_ok-check.ensures.does
      (leads-on (λ setting. Starts setting) (λ setting runs. Gives (given_if runs tt)) c.in_ok-runs.runs _ _ _ _ _ c.in_ok-runs.ensures.does
      (gives (λ setting. given_if c.in_ok-runs.runs tt) _ _ _ c.required.ensures.told)));
}
