use Rattle.std.proofs.Common.{refl}
use Rattle.host_transport.proofs.TryLaws.{idle-asked, not-asked}
use Rattle.host_transport.proofs.trying.ask_when_idle.Goals as goal

pub returns-in-Idle-clause-asks : goal.returns-in-Idle-clause-asks
returns-in-Idle-clause-asks g c = idle-asked _ _ _ _ _ _ _ c.in-Idle.ensures.polls c.ask.ensures.asks

pub returns-in-Lost-clause-asks : goal.returns-in-Lost-clause-asks
returns-in-Lost-clause-asks g c = not-asked _ _ _ _ _ _ _ c.in-Lost.ensures.polls (λ more. (refl, refl))

pub returns-in-NoPower-clause-asks : goal.returns-in-NoPower-clause-asks
returns-in-NoPower-clause-asks g c = not-asked _ _ _ _ _ _ _ c.in-NoPower.ensures.polls (λ more. (refl, refl))

pub returns-in-Short-clause-asks : goal.returns-in-Short-clause-asks
returns-in-Short-clause-asks g c = not-asked _ _ _ _ _ _ _ c.in-Short.ensures.polls (λ more. (refl, refl))
