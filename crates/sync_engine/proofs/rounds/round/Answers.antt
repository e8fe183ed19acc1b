use Rattle.sync_engine.proofs.Rounding.{round-done, round-stopped}
use Rattle.sync_engine.proofs.rounds.round.Goals as goal

pub returns-in-Ok : goal.returns-in-Ok
returns-in-Ok g c = record { round = round-done _ _ _ _ _ _ _ c.in-Ok.ensures.does c.carry_out.ensures.does }

pub returns-in-Err : goal.returns-in-Err
returns-in-Err g c = record { round = round-stopped _ _ _ _ _ c.in-Err.ensures.does }
