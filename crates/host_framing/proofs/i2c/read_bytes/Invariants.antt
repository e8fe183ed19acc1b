use Rattle.std.proofs.Common.{◌≡◌, ◌+◌, ◌++◌, ℕ, List, length}
use Rattle.ec_model.specs.declared.event.Access.TheVariants.{I2cRead}
use Rattle.ec_model.specs.Heard.{reads_in_row}
use Rattle.ec_wire.specs.Calls.{Made}
use Rattle.host_framing.proofs.i2c.read_bytes.Given as goal

-- the first bytes were read
abbrev pub invariant-loop-place : goal.invariant-loop-place
invariant-loop-place g l = record {
  room : (g.W.Wire.view l.w).spare + l._place ≡ (g.W.Wire.view l.fn.w).spare;
  bytes : List ℕ;
  each : length bytes ≡ l._place;
  appended : l.reply ≡ l.fn.reply ++ bytes;
  made : Made (reads_in_row I2cRead bytes) (g.W.Wire.view l.fn.w) (g.W.Wire.view l.w);
}
