use Rattle.std.proofs.Common.{refl}
use Rattle.host_transport.proofs.RestartLaws.{restarted, not-restarted}
use Rattle.host_transport.proofs.restarting.cold.Goals as goal

pub returns-in-Idle-clause-restarts : goal.returns-in-Idle-clause-restarts
returns-in-Idle-clause-restarts g c = restarted _ _ _ _ _ c.in-Idle.ensures.looks c.reset.ensures.resets

pub returns-in-Lost-clause-restarts : goal.returns-in-Lost-clause-restarts
returns-in-Lost-clause-restarts g c = not-restarted _ _ _ _ _ c.in-Lost.ensures.looks (λ more. (refl, refl))

pub returns-in-NoPower-clause-restarts : goal.returns-in-NoPower-clause-restarts
returns-in-NoPower-clause-restarts g c = not-restarted _ _ _ _ _ c.in-NoPower.ensures.looks (λ more. (refl, refl))

pub returns-in-Short-clause-restarts : goal.returns-in-Short-clause-restarts
returns-in-Short-clause-restarts g c = not-restarted _ _ _ _ _ c.in-Short.ensures.looks (λ more. (refl, refl))
