-- What a shelf that tells its files gave.
use Rattle.std.proofs.Common.{◌≡◌, refl, ap, ℕ, List, Option, Some, None, Result, Ok}
use Rattle.std.specs.Prelude.{IfSome}
use Rattle.flash_dev.specs.Told.{Changes}
use Rattle.bench_shelf.specs.Shelves.{File, Finds, IsFound}
use Rattle.bench_shelf.specs.declared.shelf.Loaded.{Loaded}
use Rattle.bench_shelf.specs.declared.shelf.ShelfErr.{ShelfErr}

-- it keeps what it has
pub files-kept : (result : Result Loaded ShelfErr) (name : List ℕ) (limit : ℕ) (old new : Option (List File)) → Changes (Finds result name limit) old new → new ≡ old
files-kept result name limit None None finds = refl
files-kept result name limit None (Some after) finds = absurd finds
files-kept result name limit (Some before) None finds = absurd finds
files-kept result name limit (Some before) (Some after) finds = ap (λ (files : List File). Some files) finds.kept

-- what it gave is what it has
pub files-found : (loaded : Loaded) (name : List ℕ) (limit : ℕ) (old new : Option (List File)) → Changes (Finds (Ok loaded) name limit) old new → IfSome old (λ all. IsFound (Ok loaded) name limit all)
files-found loaded name limit None None finds = tt
files-found loaded name limit None (Some after) finds = absurd finds
files-found loaded name limit (Some before) None finds = absurd finds
files-found loaded name limit (Some before) (Some after) finds = finds.found
