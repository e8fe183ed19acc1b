use Rattle.std.proofs.Common.{◌≡◌, ◌∙◌, refl, sym, ap, ℕ, ◌+◌, ◌-◌, Option, Some, List, [], ◌∷◌, ◌++◌, length, arith, length-append, eq-eqb, ne_eqb}
use Rattle.std.proofs.lemmas.List.{nil_from_length}
use Rattle.std.proofs.lemmas.Bool.Decides.{nat_tests}
use Rattle.jump_data.specs.Tags.{tag_bytes, first_place}
use Rattle.jump_data.proofs.Walking.{made, walk, none-placed, none-in-front, placed-here, placed-behind}
use Rattle.jump_data.proofs.tags.+find.Goals as goal

pub returns-then-is_empty-clause-found : goal.returns-then-is_empty-clause-found
returns-then-is_empty-clause-found t c = λ each are same.
    let empty : c.args.tags.now ≡ [] = nil_from_length c.args.tags.now (grind (arith, nat_tests)) in
    ap (λ (found : Option (ℕ × ℕ)). Some found) (none-placed c.args.number c.args.at each (sym empty ∙ same))

pub returns-in_err-name-clause-found : goal.returns-in_err-name-clause-found
returns-in_err-name-clause-found t c = λ each are same.
    absurd (none-in-front c.args.tags.now each (λ empty. let none : length c.args.tags.now ≡ 0 = ap length empty in grind (arith, nat_tests))
    (λ tag rest is spelled. let some = c.in_err-name.ensures.accepted tag rest is spelled in cc) are same)

pub returns-in_err-later-clause-found : goal.returns-in_err-later-clause-found
returns-in_err-later-clause-found t c = λ each are same.
    let front = walk c.in_ok-name.name c.in_ok-name.content.now c.in_ok-name.behind.now each c.in_ok-name.ensures.is are (sym c.in_ok-name.ensures.spelled ∙ same) in
    let found = c.in_err-later.ensures.found front.later front.are front.spells in
    absurd cc

pub returns-then-name-number-clause-found : goal.returns-then-name-number-clause-found
returns-then-name-number-clause-found t c = λ each are same.
    let front = walk c.in_ok-name.name c.in_ok-name.content.now c.in_ok-name.behind.now each c.in_ok-name.ensures.is are (sym c.in_ok-name.ensures.spelled ∙ same) in
    ap (λ (found : Option (ℕ × ℕ)). Some found)
    (placed-here c.in_ok-name.name c.args.number c.args.at c.in_ok-name.content.now front.later (eq-eqb c.in_ok-name.name c.args.number c.if-name-number.true)
    ∙ ap (first_place c.args.number c.args.at) (sym front.first))

pub returns-then-name-number-clause-well_formed : goal.returns-then-name-number-clause-well_formed
returns-then-name-number-clause-well_formed t c = λ some.
    let deeper = c.in_ok-later.ensures.well_formed refl in
    let tag = made c.in_ok-name.name c.in_ok-name.content.now in
    (tag ∷ deeper.0, (c.in_ok-name.ensures.is, deeper.1), c.in_ok-name.ensures.spelled ∙ ap (λ (rest : List ℕ). tag_bytes tag ++ rest) deeper.2)

pub returns-clause-found : goal.returns-clause-found
returns-clause-found t c = λ each are same.
    let name = c.in_ok-name.name in
    let content = c.in_ok-name.content.now in
    let behind = c.in_ok-name.behind.now in
    let front = walk name content behind each c.in_ok-name.ensures.is are (sym c.in_ok-name.ensures.spelled ∙ same) in
    let total : length c.args.tags.now ≡ length (tag_bytes (made name content) ++ behind) = ap length c.in_ok-name.ensures.spelled in
    let place : c.args.at + length c.args.tags.now - length behind ≡ c.args.at + length (tag_bytes (made name content)) =
    omega (arith, length-append (tag_bytes (made name content)) behind) in
    c.in_ok-later.ensures.found front.later front.are front.spells
    ∙ ap (λ (found : Option (ℕ × ℕ)). Some found)
    (ap (λ (at : ℕ). first_place c.args.number at front.later) place
    ∙ placed-behind name c.args.number c.args.at content front.later (ne_eqb name c.args.number c.if-name-number.false)
    ∙ ap (first_place c.args.number c.args.at) (sym front.first))

pub returns-clause-well_formed : goal.returns-clause-well_formed
returns-clause-well_formed t c = λ some.
    let deeper = c.in_ok-later.ensures.well_formed refl in
    let tag = made c.in_ok-name.name c.in_ok-name.content.now in
    (tag ∷ deeper.0, (c.in_ok-name.ensures.is, deeper.1), c.in_ok-name.ensures.spelled ∙ ap (λ (rest : List ℕ). tag_bytes tag ++ rest) deeper.2)
