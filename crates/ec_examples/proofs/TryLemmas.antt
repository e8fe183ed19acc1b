-- Asks and turns on LPC, each an exchange.
use Rattle.std.proofs.Common.{◌≡◌, refl, sym, subst, ℕ, true, List, [], ◌∷◌, slice_index}
use Rattle.ec_types.specs.declared.bus.BusKind.TheVariants.{Lpc}
use Rattle.ec_model.specs.Packet.{RequestView}
use Rattle.ec_model.specs.HostCalls.{HostView, view_after}
use Rattle.ec_model.specs.Heard.{Reply, is_all_read, reads_on, heard_if, heard_with}
use Rattle.ec_model.specs.Asks.{got, SendsOnce, packet_of, IsSent, Unsent, unsent, AsksBy}
use Rattle.ec_model.specs.Polls.{TakesTurn, turn_of, comms_request as comms_asked}
use Rattle.ec_examples.specs.Entries.{lpc_exchange, waited}
use Rattle.ec_examples.specs.Tries.{comms_request, turn, on_lpc}
use Rattle.ec_examples.proofs.Exchanges.{lpc_exchange-sent}

-- a response that is heard whole
pub record IsHeard (response : List ℕ) : Type 0 where
  pub whole : is_all_read (reads_on 248 response) response ≡ true
  pub heard : Reply response ≡ heard_if (reads_on 248 response) (heard_with (slice_index response 2) response)

-- an exchange is one send of its request, whose end is what its response says
pub asks : (request : RequestView) (want : ℕ) (response : List ℕ) → IsHeard response → SendsOnce Lpc request want (lpc_exchange (packet_of request) response) (got want (Reply response))
asks request want response heard =
    record { heard = Reply response; sent = lpc_exchange-sent (packet_of request) response heard.whole heard.heard; end_is = refl }

-- one turn of a poll, where it may be sent
pub turn-taken : (view : HostView) (response : List ℕ) → IsHeard response → unsent (view_after (waited ∷ []) view) 0 ≡ IsSent → TakesTurn (on_lpc 0) view (turn response) (turn_of (got 4 (Reply response)))
turn-taken view response heard sent =
    record {
      waiting = waited ∷ [];
      asking = lpc_exchange comms_request response;
      end = got 4 (Reply response);
      parts = refl;
      waits = refl;
      waited = refl;
      asked = subst (λ (why : Unsent). AsksBy why Lpc comms_asked 4 (lpc_exchange comms_request response) (got 4 (Reply response))) (sym sent) (asks comms_asked 4 response heard);
      turn_is = refl;
    }
