use Rattle.sync_laws.proofs.DarkRounds.{sync-dark}
use Rattle.sync_laws.proofs.power.dark_syncs_leave_it_off.Goals as goal

pub returns : goal.returns
returns c = sync-dark
