-- What contracts see of the shelf in memory.
use Rattle.std.specs.Prelude.{ℕ, List, map, Result, Ok, Err, ⊤}
use Rattle.flash_dev.specs.Calls.{Calls}
use Rattle.bench_shelf.specs.declared.memory_shelf.Stored.{Stored}
use Rattle.bench_shelf.specs.declared.shelf.Loaded.{Loaded}
use Rattle.bench_shelf.specs.declared.shelf.ShelfErr.{ShelfErr}
use Rattle.bench_shelf.specs.declared.shelf.ShelfErr.TheVariants.{Failed, NoMemory}
use Rattle.bench_shelf.specs.Shelves.{File, IsGiven}

-- its files, in the order in which they were added
pub record ShelfState : Type 0 where
  pub files : List File
  pub calls : Calls

-- what is stored, as files
abbrev pub files_of : List Stored → List File
files_of stored = map (λ one. record { name = one.name; bytes = one.bytes }) stored

-- what is given of bytes that were found
abbrev pub IsKept : Result Loaded ShelfErr → List ℕ → ℕ → Type 0
IsKept (Ok loaded) bytes limit = IsGiven loaded bytes limit
IsKept (Err Failed) bytes limit = ⊥
IsKept (Err NoMemory) bytes limit = ⊤
