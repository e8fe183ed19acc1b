use Rattle.sync_laws.proofs.DarkRounds.{sync-memory}
use Rattle.sync_laws.proofs.power.syncs_take_no_memory.Goals as goal

pub returns : goal.returns
returns c = sync-memory
