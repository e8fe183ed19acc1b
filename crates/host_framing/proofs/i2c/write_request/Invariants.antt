use Rattle.std.proofs.Common.{◌≡◌, ◌+◌, ◌∷◌, take, replicate}
use Rattle.ec_model.specs.Heard.{i2c_writes}
use Rattle.ec_wire.specs.Calls.{Made}
use Rattle.host_framing.proofs.i2c.write_request.Given as goal

-- the first bytes were taken
abbrev pub invariant-loop-byte : goal.invariant-loop-byte
invariant-loop-byte g l = record {
  room : (g.W.Wire.view l.w).spare + l.byte-index + 1 ≡ (g.W.Wire.view l.fn.w).spare;
  made : Made (i2c_writes (0xDA ∷ take l.byte-index l.packet) (replicate (1 + l.byte-index) 0)) (g.W.Wire.view l.fn.w) (g.W.Wire.view l.w);
}
