-- What was taken from a source in several calls.
use Rattle.std.specs.Prelude.{◌≡◌, ℕ, List, ◌++◌, Option}
use Rattle.flash_dev.specs.Told.{Changes}

-- these bytes were taken from the front of what was left, where that is told
abbrev pub Takes : List ℕ → Option (List ℕ) → Option (List ℕ) → Type 0
Takes bytes = Changes (λ old new. bytes ++ new ≡ old)
