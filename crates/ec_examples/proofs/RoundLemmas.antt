-- Rounds on I2C, by their first command.
use Rattle.std.proofs.Common.{◌≡◌, refl, sym, subst, ap, ◌∙◌, ℕ, ◌==◌, Bool, true, false, ◌||◌, List, [], ◌∷◌, ◌++◌, take, length, arith}
use Rattle.std.specs.List.{list_any}
use Rattle.std.proofs.lemmas.List.Folds.{list_any-append}
use Rattle.ec_types.specs.declared.bus.BusKind.TheVariants.{I2c}
use Rattle.ec_model.specs.declared.event.Access.TheVariants.{I2cStartWrite, I2cWrite}
use Rattle.ec_model.specs.declared.event.Entry.{Entry}
use Rattle.ec_model.specs.HostCalls.{HostCall, Did, HostView, calls_of, are_calls, view_after}
use Rattle.ec_model.specs.Heard.{Reply, i2c_writes}
use Rattle.ec_model.specs.SendI2c.{I2cWasServed}
use Rattle.ec_model.specs.Send.{Send}
use Rattle.ec_model.specs.Asks.{packet_of, Status, Unsent, unsent, IsSent, AsksBy}
use Rattle.ec_model.specs.Tries.{Tries, Answered, Final}
use Rattle.ec_model.specs.Rounds.{AsksNoProtocol, IsRound, protocol_request as protocol_asked}
use Rattle.ec_examples.specs.I2cExchanges.{stopped, i2c_exchange, protocol_request, protocol_response, short_round}
use Rattle.ec_examples.proofs.Exchanges.{calls_of-append}

-- whether a call writes the checksum of GET_PROTOCOL_INFO
abbrev pub is_protocol_sum : HostCall → Bool
is_protocol_sum (Did (I2cWrite byte) got) = byte == 0xF2
is_protocol_sum other = false

-- a test that some middle part meets is met by the whole
met : (before middle after : Bool) → middle ≡ true → (before || middle || after) ≡ false → ⊥
met true middle after is none = cc
met false true after is none = cc
met false false after is none = cc

-- a request that was written has it
sum-written : (gots : List ℕ) → length gots ≡ 9 → list_any is_protocol_sum (Did I2cStartWrite 0 ∷ i2c_writes (0xDA ∷ packet_of protocol_asked) gots) ≡ true
sum-written [] size = absurd (omega (arith, size))
sum-written (a ∷ []) size = absurd (omega (arith, size))
sum-written (a ∷ b ∷ []) size = absurd (omega (arith, size))
sum-written (a ∷ b ∷ c ∷ gots) size = refl

-- where no call writes it, nothing asks for the protocol
pub none-asked : (entries : List Entry) → list_any is_protocol_sum (calls_of entries) ≡ false → AsksNoProtocol I2c entries
none-asked entries none before asked after parts asks =
    met (list_any is_protocol_sum (calls_of before)) (list_any is_protocol_sum (calls_of asked)) (list_any is_protocol_sum (calls_of after))
    (ap (list_any is_protocol_sum) asks.made ∙ sum-written asks.gots asks.each)
    (sym (ap (list_any is_protocol_sum) (ap calls_of parts ∙ calls_of-append (before ++ asked) after ∙ ap (λ (calls : List HostCall). calls ++ calls_of after) (calls_of-append before asked))
    ∙ list_any-append is_protocol_sum (calls_of before ++ calls_of asked) (calls_of after)
    ∙ ap (λ (found : Bool). found || list_any is_protocol_sum (calls_of after)) (list_any-append is_protocol_sum (calls_of before) (calls_of asked)))
    ∙ none)

-- the exchange is a send
protocol-sent : Send I2c (i2c_exchange protocol_request protocol_response) protocol_request (Reply protocol_response)
protocol-sent = (
  refl,
  I2cWasServed (record {
    first = take 10 (calls_of (i2c_exchange protocol_request protocol_response));
    outcome = 0;
    size = 20;
    bytes = protocol_response;
    stopped = 0;
    asked = record { made = refl };
    whole = refl;
    made = refl;
    heard_is = refl;
  }),
)

-- what GET_PROTOCOL_INFO is answered
abbrev pub told : List ℕ
told = 0x08 ∷ 0x00 ∷ 0x00 ∷ 0x00 ∷ 0x80 ∷ 0x00 ∷ 0x80 ∷ 0x00 ∷ 0x01 ∷ 0x00 ∷ 0x00 ∷ 0x00 ∷ []

-- GET_PROTOCOL_INFO is answered at the first try, where it may be sent
pub protocol-tried : (floor : ℕ) (view : HostView) → unsent view floor ≡ IsSent → Tries (record { bus = I2c; floor = floor }) protocol_asked 12 view (i2c_exchange protocol_request protocol_response) (Answered 0 told)
protocol-tried floor view sent = (
  i2c_exchange protocol_request protocol_response,
  [],
  Final (Answered 0 told),
  refl,
  record {
    first = i2c_exchange protocol_request protocol_response;
    rest = [];
    told = Status 0 told;
    last = Status 0 told;
    parts = refl;
    asked = record {
      first = i2c_exchange protocol_request protocol_response;
      rest = [];
      told = Status 0 told;
      parts = refl;
      asked = subst (λ (why : Unsent). AsksBy why I2c protocol_asked 12 (i2c_exchange protocol_request protocol_response) (Status 0 told)) (sym sent)
          (record { heard = Reply protocol_response; sent = protocol-sent; end_is = refl });
      again = (refl, refl);
    };
    resent = (refl, refl);
    end_is = refl;
  },
  (refl, refl),
)

-- a round of a controller that is on, with this room, that goes on with these entries
pub begun-round : (floor spare : ℕ) (rest : List Entry) → are_calls (short_round ++ rest) ≡ true → AsksNoProtocol I2c rest
    → unsent (view_after (stopped 0) (record { on = true; spare = spare })) floor ≡ IsSent
    → IsRound (record { bus = I2c; floor = floor }) (record { on = true; spare = spare }) (short_round ++ rest)
begun-round floor spare rest calls no_more sent =
    record {
      quieting = stopped 0;
      rest = i2c_exchange protocol_request protocol_response ++ rest;
      calls = calls;
      parts = refl;
      quiet = (refl, record { got = 0; made = refl });
      begins = record {
        asking = i2c_exchange protocol_request protocol_response;
        rest = rest;
        said = Answered 0 told;
        parts = refl;
        asked = protocol-tried floor (view_after (stopped 0) (record { on = true; spare = spare })) sent;
        no_more = no_more;
      };
    }
