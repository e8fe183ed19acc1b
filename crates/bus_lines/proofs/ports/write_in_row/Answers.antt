use Rattle.std.proofs.Common.{refl, sym, ap, ◌∙◌, ℕ, ◌+◌, ◌<◌, List, [], ◌∷◌, ◌++◌, length, take, length-take, arith}
use Rattle.std.proofs.lemmas.List.{take_more, length_push}
use Rattle.ec_model.specs.Heard.{port_writes}
use Rattle.ec_wire.proofs.Growth.{made-none, made-then, made-as, made-access, made-room}
use Rattle.host_framing.proofs.PollLemmas.{port_writes-append}
use Rattle.bus_lines.proofs.ports.write_in_row.Goals as goal

pub loop-place-init : goal.loop-place-init
loop-place-init g c = record { room = omega arith; gots = []; each = refl; made = made-none (g.W.Wire.view c.args.w.now) }

pub loop-place-preserved : goal.loop-place-preserved
loop-place-preserved g c =
    let so_far = c.loop-place.invariant in
    let bytes = c.args.bytes.now in
    let port = c.args.port in
    let place = c.loop-place.place in
    let got = c.access.result in
    let inside : place < length bytes = omega arith in
    let byte = c.byte.result in
    let more = take_more bytes place 0 inside ∙ ap (λ (last : ℕ). take place bytes ++ last ∷ []) (sym c.byte.ensures) in
    let made = made-access _ _ _ _ c.access.ensures.adds in
    record {
      room = omega (arith, so_far.room, made-room _ _ _ made);
      gots = so_far.gots ++ got ∷ [];
      each = omega (arith, length_push so_far.gots got, so_far.each);
      made = made-as _ _ _ _ (sym (ap (λ (xs : List ℕ). port_writes port xs (so_far.gots ++ got ∷ [])) more
          ∙ port_writes-append port (port + place) (take place bytes) so_far.gots (byte ∷ []) (got ∷ []) (omega (arith, length-take {A = ℕ}, so_far.each)) (omega (arith, length-take {A = ℕ}))))
          (made-then _ _ _ _ _ so_far.made made);
    }
