-- What is appended in two calls.
use Rattle.std.proofs.Common.{◌≡◌, ℕ, ◌+◌, List, ◌++◌, take, drop, Option, Some, None, ap, ◌∙◌, append_assoc}
use Rattle.std.proofs.Math.Seq.{take-add}
use Rattle.flash_dev.specs.Told.{Changes}

-- these bytes were added, where the bytes are told
abbrev pub Appended : List ℕ → Option (List ℕ) → Option (List ℕ) → Type 0
Appended bytes before now = Changes (λ old new. new ≡ old ++ bytes) before now

-- the first bytes were added, and then some of those behind them
pub appended-more : (a b c : Option (List ℕ)) (bytes : List ℕ) (n m : ℕ) → Appended (take n bytes) a b → Appended (take m (drop n bytes)) b c → Appended (take (n + m) bytes) a c
appended-more None None None bytes n m p q = tt
appended-more None None (Some t) bytes n m p q = absurd q
appended-more None (Some s) c bytes n m p q = absurd p
appended-more (Some s) None c bytes n m p q = absurd p
appended-more (Some s) (Some t) None bytes n m p q = absurd q
appended-more (Some s) (Some t) (Some u) bytes n m p q = rw (take-add n m bytes) (q ∙ ap (λ (w : List ℕ). w ++ take m (drop n bytes)) p ∙ append_assoc s (take n bytes) (take m (drop n bytes)))
