use Rattle.std.proofs.Common.{refl, []}
use Rattle.ec_model.specs.HostCalls.{view_after}
use Rattle.ec_model.specs.Polls.{Pending, Ends, Idle}
use Rattle.ec_examples.specs.Tries.{turn, pending, none_pending, with_room}
use Rattle.ec_examples.proofs.TryLemmas.{turn-taken}
use Rattle.ec_examples.proofs.tries.poll_until_no_erase_is_pending.Goals as goal

pub returns : goal.returns
returns c = (turn pending, turn none_pending, Pending, refl, turn-taken (with_room 200000) pending (record { whole = refl; heard = refl }) refl, (turn none_pending, [], Ends Idle, refl, turn-taken (view_after (turn pending) (with_room 200000)) none_pending (record { whole = refl; heard = refl }) refl, (refl, refl)))
