use Rattle.sync_laws.proofs.KeptRounds.{sync-kept}
use Rattle.sync_laws.proofs.keeping.kept_syncs_are_done.Goals as goal

pub returns : goal.returns
returns c = sync-kept
