use Rattle.std.proofs.Common.{ap, ◌∙◌, ℕ, ◌++◌, [], ◌∷◌, List, get_or, arith}
use Rattle.hex.specs.Hex.{encode_lower}
use Rattle.bench_io.proofs.HexTexts.{encode-none, encode-more}
use Rattle.bench_io.proofs.text.LineText.append_hex.Goals as goal

pub loop-byte-init : goal.loop-byte-init
loop-byte-init c = record {
  text = encode-none c.args.self.now;
  long = omega arith;
}

pub loop-byte-preserved : goal.loop-byte-preserved
loop-byte-preserved c =
    let place = c.loop-byte.byte-index in
    let bytes = c.args.bytes.now in
    record {
      text =
          c.append_byte.ensures.text ∙ ap (λ (text : List ℕ). text ++ encode_lower (get_or bytes place 0 ∷ [])) c.loop-byte.invariant.text
          ∙ encode-more c.args.self.now bytes place c.loop-byte-test.true;
      long = omega (arith, c.append_byte.ensures.long, c.loop-byte.invariant.long);
    }
