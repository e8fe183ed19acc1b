use Rattle.std.proofs.Common.{length}
use Rattle.jump_data.proofs.tags.+find.Given as goal

abbrev pub decreases-find : goal.decreases-find
decreases-find l = length l.tags.now
