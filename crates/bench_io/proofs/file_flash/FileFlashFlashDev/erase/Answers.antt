use Rattle.flash_dev.specs.Operations.{Erase}
use Rattle.bench_io.proofs.Storing.{stored-change}
use Rattle.bench_io.proofs.file_flash.FileFlashFlashDev.erase.Goals as goal

pub returns : goal.returns
returns g c = stored-change (Erase c.args.block) c.args.self.now c.store.new.self c.store.result c.store.ensures.later c.store.ensures.done c.store.ensures.outside c.store.ensures.failed c.store.ensures.counts
