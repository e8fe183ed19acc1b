use Rattle.std.proofs.Common.{sym, ap, ◌∙◌, ℕ, ◌<◌, List, [], ◌∷◌, ◌++◌, length, take, get_or, length-take, arith}
use Rattle.std.proofs.lemmas.List.{take_more, length_push}
use Rattle.ec_model.specs.Heard.{spi_writes}
use Rattle.ec_wire.proofs.Growth.{made-then, made-as}
use Rattle.host_framing.proofs.SpiParts.{writes-append}
use Rattle.host_framing.proofs.spi.put.Goals as goal

pub loop-byte-preserved : goal.loop-byte-preserved
loop-byte-preserved g c =
    let so_far = c.loop-byte.invariant in
    let bytes = c.args.bytes.now in
    let place = c.loop-byte.byte-index in
    let inside : place < length bytes = omega arith in
    let more = take_more bytes place 0 inside in
    record {
      room = omega arith;
      gots = so_far.gots ++ c.did.result ∷ [];
      each = omega (arith, length_push so_far.gots c.did.result, so_far.each);
      made = made-as _ _ _ _ (sym (ap (λ (xs : List ℕ). spi_writes xs (so_far.gots ++ c.did.result ∷ [])) more
          ∙ writes-append (take place bytes) so_far.gots (get_or bytes place 0 ∷ []) (c.did.result ∷ []) (omega (arith, length-take {A = ℕ}, so_far.each))))
          (made-then _ _ _ _ _ so_far.made c.did.ensures.made);
    }
