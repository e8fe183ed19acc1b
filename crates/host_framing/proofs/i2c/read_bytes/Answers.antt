use Rattle.std.proofs.Common.{refl, sym, ap, ◌∙◌, ℕ, List, [], ◌∷◌, ◌++◌, append_assoc, append-nil, arith}
use Rattle.std.proofs.lemmas.List.{length_push}
use Rattle.ec_model.specs.declared.event.Access.TheVariants.{I2cRead}
use Rattle.ec_wire.proofs.Growth.{made-none, made-then, made-as}
use Rattle.host_framing.proofs.PollLemmas.{reads_in_row-append}
use Rattle.host_framing.proofs.i2c.read_bytes.Goals as goal

pub loop-place-init : goal.loop-place-init
loop-place-init g c = record {
  room = omega arith;
  bytes = [];
  each = refl;
  appended = sym (append-nil c.args.reply.now);
  made = made-none (g.W.Wire.view c.args.w.now);
}

pub loop-place-preserved : goal.loop-place-preserved
loop-place-preserved g c =
    let so_far = c.loop-place.invariant in
    record {
      room = omega arith;
      bytes = so_far.bytes ++ c.did-byte.result ∷ [];
      each = omega (arith, length_push so_far.bytes c.did-byte.result, so_far.each);
      appended = c.push.ensures ∙ ap (λ (xs : List ℕ). xs ++ c.did-byte.result ∷ []) so_far.appended ∙ append_assoc c.args.reply.now so_far.bytes (c.did-byte.result ∷ []);
      made = made-as _ _ _ _ (sym (reads_in_row-append I2cRead so_far.bytes (c.did-byte.result ∷ []))) (made-then _ _ _ _ _ so_far.made c.did-byte.ensures.made);
    }
