-- Erased bytes, appended part by part.
use Rattle.std.proofs.Common.{◌≡◌, ◌∙◌, ap, ℕ, ◌+◌, List, ◌++◌, replicate, append_assoc}
use Rattle.std.proofs.lemmas.List.{replicate-append-replicate}

-- some bytes behind others are as many as both together
pub blank-more : (message : List ℕ) (count more both byte : ℕ) → count + more ≡ both → (message ++ replicate count byte) ++ replicate more byte ≡ message ++ replicate both byte
blank-more message count more both byte sum =
    append_assoc message (replicate count byte) (replicate more byte)
    ∙ ap (λ (rest : List ℕ). message ++ rest) (replicate-append-replicate count more byte ∙ ap (λ (n : ℕ). replicate n byte) sum)
