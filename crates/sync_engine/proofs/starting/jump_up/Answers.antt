use Rattle.std.proofs.Common.{refl, true, false, Ok, Err}
use Rattle.sync_rules.specs.declared.ending.Jump.TheVariants.{Jumped, Denied, Failed}
use Rattle.sync_rules.specs.Steps.{Jumps, JumpLeads}
use Rattle.sync_engine.proofs.Chains.{leads-on, stops, gives}
use Rattle.sync_engine.proofs.starting.jump_up.Goals as goal

pub returns-in-Ok-Jumped : goal.returns-in-Ok-Jumped
returns-in-Ok-Jumped g c = record { does = leads-on Jumps JumpLeads Jumped _ _ _ _ _ (rw c.in-Ok-Jumped.field-0-is at c.in-Ok-Jumped.ensures.does) (gives (λ setting. Ok true) _ _ _ refl) }

pub returns-in-Ok-Denied : goal.returns-in-Ok-Denied
returns-in-Ok-Denied g c = record { does = leads-on Jumps JumpLeads Denied _ _ _ _ _ (rw c.in-Ok-Denied.field-0-is at c.in-Ok-Denied.ensures.does) c.jump_again.ensures.does }

pub returns-in-Ok-Failed : goal.returns-in-Ok-Failed
returns-in-Ok-Failed g c = record { does = leads-on Jumps JumpLeads Failed _ _ _ _ _ (rw c.in-Ok-Failed.field-0-is at c.in-Ok-Failed.ensures.does) (gives (λ setting. Ok false) _ _ _ refl) }

pub returns-in-Err : goal.returns-in-Err
returns-in-Err g c = record { does = stops Jumps JumpLeads c.in-Err.stop _ (Err c.in-Err.stop) _ _ (refl, refl) c.in-Err.ensures.does }
