use Rattle.std.proofs.Common.{refl, sym, ap, ◌∙◌, ◌||◌, Bool, Ok}
use Rattle.sync_rules.specs.Parts.{Gives, Then, When}
use Rattle.sync_rules.specs.Replies.{is_locked}
use Rattle.sync_rules.specs.Steps.{AsksCopy, Protects, Unlocks}
use Rattle.sync_engine.proofs.Chains.{leads-on, stops, gives, when-true, when-false}
use Rattle.sync_engine.proofs.starting.free.Goals as goal

pub returns-in_err-flags : goal.returns-in_err-flags
returns-in_err-flags g c = record { does = stops (λ setting. Protects setting 0) (λ setting flags. Then (AsksCopy setting) (λ runs_rw. When (runs_rw || is_locked flags) (Unlocks setting) (Gives (Ok tt)))) _ _ _ _ _ c.from_residual.ensures c.in_err-flags.ensures.does }

pub returns-in_err-runs_rw : goal.returns-in_err-runs_rw
returns-in_err-runs_rw g c = record {
  does = leads-on (λ setting. Protects setting 0) (λ setting flags. Then (AsksCopy setting) (λ runs_rw. When (runs_rw || is_locked flags) (Unlocks setting) (Gives (Ok tt)))) c.in_ok-flags.flags _ _ _ _ _ c.in_ok-flags.ensures.does
      (stops (λ setting. AsksCopy setting) (λ setting runs_rw. When (runs_rw || is_locked c.in_ok-flags.flags) (Unlocks setting) (Gives (Ok tt))) _ _ _ _ _ c.from_residual-in_err-runs_rw.ensures c.in_err-runs_rw.ensures.does);
}

pub returns-then-runs_rw-is_locked : goal.returns-then-runs_rw-is_locked
returns-then-runs_rw-is_locked g c = record {
  does = leads-on (λ setting. Protects setting 0) (λ setting flags. Then (AsksCopy setting) (λ runs_rw. When (runs_rw || is_locked flags) (Unlocks setting) (Gives (Ok tt)))) c.in_ok-flags.flags _ _ _ _ _ c.in_ok-flags.ensures.does
      (leads-on (λ setting. AsksCopy setting) (λ setting runs_rw. When (runs_rw || is_locked c.in_ok-flags.flags) (Unlocks setting) (Gives (Ok tt))) c.in_ok-runs_rw.runs_rw _ _ _ _ _ c.in_ok-runs_rw.ensures.does
      (when-true (λ setting. Unlocks setting) (λ setting. Gives (Ok tt)) _ _ _ _ _ (ap (λ (b : Bool). c.in_ok-runs_rw.runs_rw || b) (sym c.is_locked.ensures.locked) ∙ c.if-runs_rw-is_locked.true) c.unlock.ensures.does));
}

pub returns : goal.returns
returns g c = record {
  does = leads-on (λ setting. Protects setting 0) (λ setting flags. Then (AsksCopy setting) (λ runs_rw. When (runs_rw || is_locked flags) (Unlocks setting) (Gives (Ok tt)))) c.in_ok-flags.flags _ _ _ _ _ c.in_ok-flags.ensures.does
      (leads-on (λ setting. AsksCopy setting) (λ setting runs_rw. When (runs_rw || is_locked c.in_ok-flags.flags) (Unlocks setting) (Gives (Ok tt))) c.in_ok-runs_rw.runs_rw _ _ _ _ _ c.in_ok-runs_rw.ensures.does
      (when-false (λ setting. Unlocks setting) (λ setting. Gives (Ok tt)) _ _ _ _ _ (ap (λ (b : Bool). c.in_ok-runs_rw.runs_rw || b) (sym c.is_locked.ensures.locked) ∙ c.if-runs_rw-is_locked.false) (gives (λ setting. Ok tt) _ _ _ refl)));
}
