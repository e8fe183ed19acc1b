use Rattle.std.proofs.Common.{◌≡◌, ◌+◌, ◌*◌, ℕ, List, length}
use Rattle.hex.specs.Hex.{encode_lower}
use Rattle.ec_model.specs.declared.event.Access.TheVariants.{I2cRead}
use Rattle.ec_model.specs.Heard.{reads_in_row}
use Rattle.ec_wire.specs.Calls.{Made}
use Rattle.bus_lines.proofs.i2c.read_bytes.Given as goal

-- the first bytes were read
abbrev pub invariant-loop-turn : goal.invariant-loop-turn
invariant-loop-turn g l = record {
  room : (g.W.Wire.view l.w).spare + l._turn ≡ (g.W.Wire.view l.fn.w).spare;
  bytes : List ℕ;
  each : length bytes ≡ l._turn;
  made : Made (reads_in_row I2cRead bytes) (g.W.Wire.view l.fn.w) (g.W.Wire.view l.w);
  text_is : l.text ≡ encode_lower bytes;
  long : length l.text ≡ 2 * l._turn;
}
