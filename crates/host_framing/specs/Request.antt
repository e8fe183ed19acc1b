-- What the host sends.
use Rattle.std.specs.Prelude.{◌≡◌, ℕ, List}
use Rattle.ec_model.specs.Packet.{request_packet}
use Rattle.exchange_laws.specs.Served.{IsPlain}

-- a request, spelled whole, which is no COLD
pub record IsRequest (packet : List ℕ) : Type 0 where
  pub command : ℕ
  pub version : ℕ
  pub body : List ℕ
  pub spelled : packet ≡ request_packet command version body
  pub plain : IsPlain packet
