use Rattle.std.proofs.Common.{refl, sym, ap, ◌∙◌, ℕ, ◌++◌, List, [], ◌∷◌, length, arith}
use Rattle.std.proofs.lemmas.List.{length_push}
use Rattle.hex.specs.Hex.{encode_lower}
use Rattle.ec_model.specs.declared.event.Access.TheVariants.{I2cRead}
use Rattle.ec_wire.proofs.Growth.{made-none, made-then, made-as, made-access, made-room}
use Rattle.bench_io.proofs.HexTexts.{encode-none, encode-push}
use Rattle.host_framing.proofs.PollLemmas.{reads_in_row-append}
use Rattle.bus_lines.proofs.i2c.read_bytes.Goals as goal

pub loop-turn-init : goal.loop-turn-init
loop-turn-init g c = record {
  room = omega arith;
  bytes = [];
  each = refl;
  made = made-none (g.W.Wire.view c.args.w.now);
  text_is = c.requires.empty ∙ encode-none [];
  long = ap length c.requires.empty;
}

pub loop-turn-preserved : goal.loop-turn-preserved
loop-turn-preserved g c =
    let so_far = c.loop-turn.invariant in
    let bytes = so_far.bytes in
    let byte = c.access-byte.result in
    let made = made-access _ _ _ _ c.access-byte.ensures.adds in
    record {
      room = omega (arith, so_far.room, made-room _ _ _ made);
      bytes = bytes ++ byte ∷ [];
      each = omega (arith, length_push bytes byte, so_far.each);
      made = made-as _ _ _ _ (sym (reads_in_row-append I2cRead bytes (byte ∷ []))) (made-then _ _ _ _ _ so_far.made made);
      text_is = c.append_byte.ensures.text ∙ ap (λ (text : List ℕ). text ++ encode_lower (byte ∷ [])) so_far.text_is ∙ sym (encode-push bytes byte);
      long = omega (arith, c.append_byte.ensures.long, so_far.long);
    }
