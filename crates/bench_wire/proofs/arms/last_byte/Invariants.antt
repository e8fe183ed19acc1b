use Rattle.std.proofs.Common.{◌≡◌, ℕ, drop, unwrap_or}
use Rattle.ec_model.specs.Bench.{byte_among}
use Rattle.bench_wire.specs.Arming.{events_of}
use Rattle.bench_wire.proofs.arms.last_byte.Given as goal

-- the last changed byte so far, or else the byte as it was, is what the rest begins with
abbrev pub invariant-loop-armed : goal.invariant-loop-armed
invariant-loop-armed l = (byte : ℕ) → byte_among (events_of (drop l.armed-index l.due)) (unwrap_or l.last byte) ≡ byte_among (events_of l.fn.due) byte
