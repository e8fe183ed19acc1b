-- Lines done one after the other.
use Rattle.std.proofs.Common.{◌≡◌, refl, sym, ap, ◌∙◌, subst, ℕ, ◌+◌, List, [], ◌∷◌, ◌++◌, length, append_assoc, append-nil, arith}
use Rattle.ec_model.specs.declared.event.Entry.{Entry}
use Rattle.ec_wire.specs.Calls.{WireView}
use Rattle.ecbench.specs.Lines.{Around, IsDone, AreDone}

-- one more line behind others
pub done-more : {around : Around} → (number : ℕ) (first : List Entry) (lines : List (List ℕ)) (text : List ℕ) (old middle : WireView) (last : List Entry) (at : ℕ) (line said : List ℕ) (new : WireView) (own : List Entry) →
    at ≡ number + length lines → AreDone around number first lines text old middle last → IsDone around at last line said middle new own → AreDone around number first (lines ++ line ∷ []) (text ++ said) old new own
done-more {around = around} number first [] text old middle last at line said new own same before here =
    let number_is : at ≡ number = omega (arith, same) in
    let from : IsDone around at first line said old new own =
    subst (λ (entries : List Entry). IsDone around at entries line said old new own) before.2 (subst (λ (view : WireView). IsDone around at last line said view new own) before.1 here) in (
      said,
      [],
      new,
      own,
      ap (λ (front : List ℕ). front ++ said) before.0 ∙ sym (append-nil said),
      subst (λ (n : ℕ). IsDone around n first line said old new own) number_is from,
      (refl, refl, refl),
    )
done-more number first (text ∷ lines) words old middle last at line said new own same (own_words, more, between, here_last, text_is, done, others) here = (
  own_words,
  more ++ said,
  between,
  here_last,
  ap (λ (front : List ℕ). front ++ said) text_is ∙ append_assoc own_words more said,
  done,
  done-more (number + 1) here_last lines more between middle last at line said new own (omega (arith, same)) others here,
)
