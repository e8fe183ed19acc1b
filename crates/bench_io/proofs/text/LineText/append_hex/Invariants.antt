use Rattle.std.proofs.Common.{◌≡◌, ◌+◌, ◌*◌, ◌++◌, length, take}
use Rattle.hex.specs.Hex.{encode_lower}
use Rattle.bench_io.proofs.text.LineText.append_hex.Given as goal

-- the first bytes stand behind the text
abbrev pub invariant-loop-byte : goal.invariant-loop-byte
invariant-loop-byte l = record {
  text : l.self ≡ l.fn.self ++ encode_lower (take l.byte-index l.bytes);
  long : length l.self ≡ length l.fn.self + 2 * l.byte-index;
}
