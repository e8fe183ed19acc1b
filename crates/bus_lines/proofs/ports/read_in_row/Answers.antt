use Rattle.std.proofs.Common.{refl, sym, ap, ◌∙◌, ℕ, ◌+◌, ◌++◌, List, [], ◌∷◌, length, arith}
use Rattle.std.proofs.lemmas.List.{length_push}
use Rattle.hex.specs.Hex.{encode_lower}
use Rattle.ec_wire.proofs.Growth.{made-none, made-then, made-as, made-access, made-room}
use Rattle.bench_io.proofs.HexTexts.{encode-none, encode-push}
use Rattle.host_framing.proofs.PollLemmas.{port_reads-append}
use Rattle.bus_lines.proofs.ports.read_in_row.Goals as goal

pub loop-place-init : goal.loop-place-init
loop-place-init g c = record {
  room = omega arith;
  bytes = [];
  each = refl;
  made = made-none (g.W.Wire.view c.args.w.now);
  text_is = c.requires.empty ∙ encode-none [];
  long = ap length c.requires.empty;
}

pub loop-place-preserved : goal.loop-place-preserved
loop-place-preserved g c =
    let so_far = c.loop-place.invariant in
    let bytes = so_far.bytes in
    let port = c.args.port in
    let byte = c.access-byte.result in
    let made = made-access _ _ _ _ c.access-byte.ensures.adds in
    record {
      room = omega (arith, so_far.room, made-room _ _ _ made);
      bytes = bytes ++ byte ∷ [];
      each = omega (arith, length_push bytes byte, so_far.each);
      made = made-as _ _ _ _ (sym (port_reads-append port (port + c.loop-place.place) bytes (byte ∷ []) (omega (arith, so_far.each))))
          (made-then _ _ _ _ _ so_far.made made);
      text_is = c.append_byte.ensures.text ∙ ap (λ (text : List ℕ). text ++ encode_lower (byte ∷ [])) so_far.text_is ∙ sym (encode-push bytes byte);
      long = omega (arith, c.append_byte.ensures.long, so_far.long);
    }
