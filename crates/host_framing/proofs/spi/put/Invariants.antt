use Rattle.std.proofs.Common.{◌≡◌, ◌+◌, ℕ, List, length, take}
use Rattle.ec_model.specs.Heard.{spi_writes}
use Rattle.ec_wire.specs.Calls.{Made}
use Rattle.host_framing.proofs.spi.put.Given as goal

-- the first bytes were sent
abbrev pub invariant-loop-byte : goal.invariant-loop-byte
invariant-loop-byte g l = record {
  room : (g.W.Wire.view l.w).spare + l.byte-index ≡ (g.W.Wire.view l.fn.w).spare;
  gots : List ℕ;
  each : length gots ≡ l.byte-index;
  made : Made (spi_writes (take l.byte-index l.bytes) gots) (g.W.Wire.view l.fn.w) (g.W.Wire.view l.w);
}
