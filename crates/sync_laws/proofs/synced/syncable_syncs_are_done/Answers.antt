use Rattle.sync_laws.proofs.Succeeding.{sync-succeeds}
use Rattle.sync_laws.proofs.synced.syncable_syncs_are_done.Goals as goal

pub returns : goal.returns
returns c = sync-succeeds
