use Rattle.std.proofs.Common.{◌≡◌, ◌+◌, ℕ, List, length, take}
use Rattle.ec_model.specs.Heard.{i2c_writes}
use Rattle.ec_wire.specs.Calls.{Made}
use Rattle.bus_lines.proofs.i2c.write_bytes.Given as goal

-- the first bytes were written
abbrev pub invariant-loop-place : goal.invariant-loop-place
invariant-loop-place g l = record {
  room : (g.W.Wire.view l.w).spare + l.place ≡ (g.W.Wire.view l.fn.w).spare;
  gots : List ℕ;
  each : length gots ≡ l.place;
  made : Made (i2c_writes (take l.place l.bytes) gots) (g.W.Wire.view l.fn.w) (g.W.Wire.view l.w);
}
