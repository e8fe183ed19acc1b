use Rattle.std.proofs.Common.{◌≡◌, ◌+◌, ◌*◌, ℕ, List, length, take}
use Rattle.hex.specs.Hex.{encode_lower}
use Rattle.ec_model.specs.Heard.{spi_writes}
use Rattle.ec_wire.specs.Calls.{Made}
use Rattle.bus_lines.proofs.spi.send.Given as goal

-- the first bytes were sent
abbrev pub invariant-loop-place : goal.invariant-loop-place
invariant-loop-place g l = record {
  room : (g.W.Wire.view l.w).spare + l.place ≡ (g.W.Wire.view l.fn.w).spare;
  gots : List ℕ;
  each : length gots ≡ l.place;
  made : Made (spi_writes (take l.place l.bytes) gots) (g.W.Wire.view l.fn.w) (g.W.Wire.view l.w);
  text_is : l.text ≡ encode_lower gots;
  long : length l.text ≡ 2 * l.place;
}
