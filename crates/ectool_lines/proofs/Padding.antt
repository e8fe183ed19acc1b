-- Bytes with zeros behind them.
use Rattle.std.proofs.Common.{◌≡◌, ap, ◌∙◌, ℕ, ◌-◌, ◌≤◌, List, ◌++◌, length, take, drop, arith}
use Rattle.std.specs.Prelude.{replicate}
use Rattle.std.proofs.lemmas.List.{take_all, length-take, length-replicate, drop-replicate}

-- bytes that were decoded over the front of zeros
pub decoded-padded : (size : ℕ) (bytes out : List ℕ) (count : ℕ) → count ≡ length bytes → length bytes ≤ size →
    out ≡ take (length {A = ℕ} (take count (replicate size 0))) bytes → out ++ drop count (replicate size 0) ≡ bytes ++ replicate (size - length bytes) 0
decoded-padded size bytes out count same short decoded =
    let zeros : List ℕ = replicate size 0 in
    let long : length bytes ≤ length (take count zeros) = omega (arith, length-take count zeros, length-replicate {A = ℕ} size 0, same, short) in
    let whole : out ≡ bytes = decoded ∙ take_all (length (take count zeros)) bytes long in
    let rest : drop count zeros ≡ replicate (size - length bytes) 0 = ap (λ (n : ℕ). drop n zeros) same ∙ drop-replicate (length bytes) size 0 in
    ap (λ (front : List ℕ). front ++ drop count zeros) whole ∙ ap (λ (back : List ℕ). bytes ++ back) rest
