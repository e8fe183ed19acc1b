use Rattle.std.proofs.Common.{◌≡◌, ◌∙◌, sym, ap, ℕ, ◌-◌, ◌%◌, true, List, ◌++◌, take, drop, replicate, arith, subst}
use Rattle.std.specs.List.{list_all}
use Rattle.jump_data.proofs.Cutting.{is_zero, filling-passes, filled}
use Rattle.jump_data.proofs.tags.split_content.Goals as goal

pub returns-then-not-are_zeros-clause-accepted : goal.returns-then-not-are_zeros-clause-accepted
returns-then-not-are_zeros-clause-accepted c = λ content rest sized same.
    let zeros : ℕ = (4 - c.args.size % 4) % 4 in
    let cut : c.split_at-2.result.0.now ≡ take zeros (drop c.args.size c.args.bytes.now) = c.split_at-2.ensures.front ∙ ap (take zeros) c.split_at.ensures.back in
    let passes : list_all is_zero (take zeros (drop c.args.size c.args.bytes.now)) ≡ true =
    ap (λ (bytes : List ℕ). list_all is_zero (take zeros (drop c.args.size bytes))) same
    ∙ subst (λ (size : ℕ). list_all is_zero (take zeros (drop size (content ++ replicate zeros 0 ++ rest))) ≡ true) sized (filling-passes content rest zeros) in
    let tested : c.are_zeros.result ≡ true = c.are_zeros.ensures ∙ ap (λ (bytes : List ℕ). list_all is_zero bytes) cut ∙ passes in
    cc

pub returns-clause-spelled : goal.returns-clause-spelled
returns-clause-spelled c =
    let zeros : ℕ = (4 - c.args.size % 4) % 4 in
    let behind : List ℕ = drop c.args.size c.args.bytes.now in
    let cut : c.split_at-2.result.0.now ≡ take zeros behind = c.split_at-2.ensures.front ∙ ap (take zeros) c.split_at.ensures.back in
    let rest : c.split_at-2.result.1.now ≡ drop zeros behind = c.split_at-2.ensures.back ∙ ap (drop zeros) c.split_at.ensures.back in
    let tested : c.are_zeros.result ≡ true = cc in
    let passes : list_all is_zero (take zeros behind) ≡ true = ap (λ (bytes : List ℕ). list_all is_zero bytes) (sym cut) ∙ sym c.are_zeros.ensures ∙ tested in
    filled c.args.size zeros c.args.bytes.now (omega arith) passes
    ∙ ap (λ (front : List ℕ). front ++ replicate zeros 0 ++ drop zeros behind) (sym c.split_at.ensures.front)
    ∙ ap (λ (last : List ℕ). c.split_at.result.0.now ++ replicate zeros 0 ++ last) (sym rest)
