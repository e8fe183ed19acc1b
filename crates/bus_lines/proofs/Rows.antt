-- Lists that grow at their end.
use Rattle.std.proofs.Common.{◌≡◌, ℕ, ◌+◌, [], ◌∷◌, ◌++◌, replicate}
use Rattle.std.proofs.lemmas.List.{replicate-append-replicate}

-- one more of the same
pub replicate-more : {A : Type 0} (count : ℕ) (a : A) → replicate count a ++ a ∷ [] ≡ replicate (count + 1) a
replicate-more count a = replicate-append-replicate count 1 a
