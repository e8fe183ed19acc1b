use Rattle.std.proofs.Common.{◌≡◌, ◌+◌, ◌*◌, ℕ, List, length}
use Rattle.hex.specs.Hex.{encode_lower}
use Rattle.ec_model.specs.Heard.{port_reads}
use Rattle.ec_wire.specs.Calls.{Made}
use Rattle.bus_lines.proofs.ports.read_in_row.Given as goal

-- the first bytes were read
abbrev pub invariant-loop-place : goal.invariant-loop-place
invariant-loop-place g l = record {
  room : (g.W.Wire.view l.w).spare + l.place ≡ (g.W.Wire.view l.fn.w).spare;
  bytes : List ℕ;
  each : length bytes ≡ l.place;
  made : Made (port_reads l.port bytes) (g.W.Wire.view l.fn.w) (g.W.Wire.view l.w);
  text_is : l.text ≡ encode_lower bytes;
  long : length l.text ≡ 2 * l.place;
}
