use Rattle.sync_laws.proofs.WrittenSync.{sync-written}
use Rattle.sync_laws.proofs.renewing.undisturbed_syncs_are_done.Goals as goal

pub returns : goal.returns
returns c = sync-written
