use Rattle.std.proofs.Common.{◌≡◌, ap, ◌∙◌, sym, subst, ℕ, true, false, List, Option, Some, IfSome}
use Rattle.std.specs.Str.{bytes_eq}
use Rattle.bench_shelf.proofs.Finding.{found-last, found-before}
use Rattle.bench_shelf.proofs.memory_shelf.+find.Goals as goal

pub returns-then-eq-clause-some : goal.returns-then-eq-clause-some
returns-then-eq-clause-some t c =
    let own : bytes_eq c.in_ok-last.last.now.name c.args.name.now ≡ true = ap (λ (name : List ℕ). bytes_eq name c.args.name.now) (sym c.as_slice.ensures) ∙ sym c.eq.ensures ∙ c.if-eq.true in
    found-last c.args.name.now c.args.files.now c.in_ok-last.rest.now c.in_ok-last.last.now c.in_ok-last.ensures.cases.0 own ∙ ap Some (sym c.as_slice-then-eq.ensures)

pub returns-else-eq-clause-some : goal.returns-else-eq-clause-some
returns-else-eq-clause-some t c =
    let other : bytes_eq c.in_ok-last.last.now.name c.args.name.now ≡ false = ap (λ (name : List ℕ). bytes_eq name c.args.name.now) (sym c.as_slice.ensures) ∙ sym c.eq.ensures ∙ c.if-eq.false in
    let before = found-before c.args.name.now c.args.files.now c.in_ok-last.rest.now c.in_ok-last.last.now c.in_ok-last.ensures.cases.0 other in
    subst (λ (found : Option (List ℕ)). IfSome c.find.result (λ bytes. found ≡ Some bytes.now)) (sym before) c.find.ensures.some

pub returns-else-eq-clause-none : goal.returns-else-eq-clause-none
returns-else-eq-clause-none t c = λ missing.
    let other : bytes_eq c.in_ok-last.last.now.name c.args.name.now ≡ false = ap (λ (name : List ℕ). bytes_eq name c.args.name.now) (sym c.as_slice.ensures) ∙ sym c.eq.ensures ∙ c.if-eq.false in
    found-before c.args.name.now c.args.files.now c.in_ok-last.rest.now c.in_ok-last.last.now c.in_ok-last.ensures.cases.0 other ∙ c.find.ensures.none missing
