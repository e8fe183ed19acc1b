use Rattle.std.proofs.Common.{refl, sym, ap, ◌∙◌, ℕ, ◌<◌, List, [], ◌∷◌, ◌++◌, length, take, length-take, arith}
use Rattle.std.proofs.lemmas.List.{take_more, length_push}
use Rattle.ec_model.specs.Heard.{spi_writes}
use Rattle.ec_wire.proofs.Growth.{made-none, made-then, made-as, made-access, made-room}
use Rattle.host_framing.proofs.SpiParts.{writes-append}
use Rattle.hex.specs.Hex.{encode_lower}
use Rattle.bench_io.proofs.HexTexts.{encode-none, encode-push}
use Rattle.bus_lines.proofs.spi.send.Goals as goal

pub loop-place-init : goal.loop-place-init
loop-place-init g c = record { room = omega arith; gots = []; each = refl; made = made-none (g.W.Wire.view c.args.w.now); text_is = c.requires.empty ∙ encode-none []; long = ap length c.requires.empty }

pub loop-place-preserved : goal.loop-place-preserved
loop-place-preserved g c =
    let so_far = c.loop-place.invariant in
    let bytes = c.args.bytes.now in
    let place = c.loop-place.place in
    let got = c.access-byte.result in
    let inside : place < length bytes = omega arith in
    let byte = c.byte.result in
    let more = take_more bytes place 0 inside ∙ ap (λ (last : ℕ). take place bytes ++ last ∷ []) (sym c.byte.ensures) in
    let made = made-access _ _ _ _ c.access-byte.ensures.adds in
    record {
      room = omega (arith, so_far.room, made-room _ _ _ made);
      gots = so_far.gots ++ got ∷ [];
      each = omega (arith, length_push so_far.gots got, so_far.each);
      made = made-as _ _ _ _ (sym (ap (λ (xs : List ℕ). spi_writes xs (so_far.gots ++ got ∷ [])) more
          ∙ writes-append (take place bytes) so_far.gots (byte ∷ []) (got ∷ []) (omega (arith, length-take {A = ℕ}, so_far.each))))
          (made-then _ _ _ _ _ so_far.made made);
      text_is = c.append_byte.ensures.text ∙ ap (λ (text : List ℕ). text ++ encode_lower (got ∷ [])) so_far.text_is ∙ sym (encode-push so_far.gots got);
      long = omega (arith, c.append_byte.ensures.long, so_far.long);
    }
