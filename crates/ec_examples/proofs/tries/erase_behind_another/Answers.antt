use Rattle.std.proofs.Common.{refl, [], ◌++◌}
use Rattle.ec_model.specs.HostCalls.{view_after}
use Rattle.ec_model.specs.Asks.{Status}
use Rattle.ec_model.specs.Polls.{Pending, Ends, Idle}
use Rattle.ec_model.specs.Tries.{Answered, Final, resend_request as resend_asked}
use Rattle.ec_examples.specs.Tries.{turn, pending, none_pending, with_room, erase_request, resend_request, erase_asked, erase_poll, busy, in_progress, success}
use Rattle.ec_examples.specs.Entries.{lpc_exchange}
use Rattle.ec_examples.proofs.TryLemmas.{asks, turn-taken}
use Rattle.ec_examples.proofs.tries.erase_behind_another.Goals as goal

pub returns : goal.returns
returns c = (
  (lpc_exchange erase_request busy ++ (turn none_pending ++ lpc_exchange erase_request in_progress)) ++ (erase_poll ++ lpc_exchange resend_request success),
  [],
  Final (Answered 0 []),
  refl,
  record {
    first = lpc_exchange erase_request busy ++ (turn none_pending ++ lpc_exchange erase_request in_progress);
    rest = erase_poll ++ lpc_exchange resend_request success;
    told = Status 8 [];
    last = Status 0 [];
    parts = refl;
    asked = record {
      first = lpc_exchange erase_request busy;
      rest = turn none_pending ++ lpc_exchange erase_request in_progress;
      told = Status 16 [];
      parts = refl;
      asked = asks erase_asked 0 busy (record { whole = refl; heard = refl });
      again = record {
        polling = turn none_pending;
        rest = lpc_exchange erase_request in_progress;
        reached = Idle;
        parts = refl;
        polled = (turn none_pending, [], Ends Idle, refl, turn-taken (view_after (lpc_exchange erase_request busy) (with_room 200000)) none_pending (record { whole = refl; heard = refl }) refl, (refl, refl));
        leads = asks erase_asked 0 in_progress (record { whole = refl; heard = refl });
      };
    };
    resent = record {
      polling = erase_poll;
      rest = lpc_exchange resend_request success;
      reached = Idle;
      parts = refl;
      polled = (turn pending, turn none_pending, Pending, refl, turn-taken (view_after (lpc_exchange erase_request busy ++ (turn none_pending ++ lpc_exchange erase_request in_progress)) (with_room 200000)) pending (record { whole = refl; heard = refl }) refl, (turn none_pending, [], Ends Idle, refl, turn-taken (view_after (turn pending) (view_after (lpc_exchange erase_request busy ++ (turn none_pending ++ lpc_exchange erase_request in_progress)) (with_room 200000))) none_pending (record { whole = refl; heard = refl }) refl, (refl, refl)));
      leads = asks resend_asked 0 success (record { whole = refl; heard = refl });
    };
    end_is = refl;
  },
  (refl, refl),
)
