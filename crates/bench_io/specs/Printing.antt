-- What printing a text adds to a sink.
use Rattle.std.specs.Prelude.{◌≡◌, ◌<◌, ℕ, List, ◌++◌, length, take, Option, Result, Ok, Err}
use Rattle.flash_dev.specs.Told.{Changes}
use Rattle.bench_io.specs.declared.printing.PrintErr.{PrintErr}
use Rattle.bench_io.specs.declared.printing.PrintErr.TheVariants.{Sink, NoMemory}

-- these bytes were added to what was written, where that is told
abbrev pub Appends : List ℕ → Option (List ℕ) → Option (List ℕ) → Type 0
Appends bytes = Changes (λ old new. new ≡ old ++ bytes)

-- the first of these bytes were added, but not all, where that is told
abbrev pub AppendsFront : List ℕ → Option (List ℕ) → Option (List ℕ) → Type 0
AppendsFront bytes = Changes (λ old new. (count : ℕ) × (count < length bytes) × (new ≡ old ++ take count bytes))

-- a text was printed, all of it or at a fault of the sink a front of it
abbrev pub Prints : Result (Unit {0}) PrintErr → List ℕ → (before after : Option (List ℕ)) → Type 0
Prints (Ok done) text before after = Appends text before after
Prints (Err Sink) text before after = AppendsFront text before after
Prints (Err NoMemory) text before after = ⊥
