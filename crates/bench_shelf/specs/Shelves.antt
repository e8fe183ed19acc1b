-- Shelves: names with their bytes.
use Rattle.std.specs.Prelude.{◌≡◌, ◌≤◌, ◌<◌, ℕ, Bool, true, false, List, [], ◌∷◌, length, Option, Some, None, Result, Ok, Err, ⊤, if◌then◌else◌}
use Rattle.std.specs.Str.{bytes_eq}
use Rattle.flash_dev.specs.Counts.{Rose}
use Rattle.bench_shelf.specs.declared.shelf.Loaded.{Loaded}
use Rattle.bench_shelf.specs.declared.shelf.Loaded.TheVariants.{Whole, TooLong}
use Rattle.bench_shelf.specs.declared.shelf.ShelfErr.{ShelfErr}
use Rattle.bench_shelf.specs.declared.shelf.ShelfErr.TheVariants.{Failed, NoMemory}

-- a name with its bytes
pub record File : Type 0 where
  pub name : List ℕ
  pub bytes : List ℕ

-- the first of two that is there
abbrev pub either : Option (List ℕ) → Option (List ℕ) → Option (List ℕ)
either (Some bytes) other = Some bytes
either None other = other

-- the bytes of a file, by its name
abbrev pub own_bytes : List ℕ → File → Option (List ℕ)
own_bytes name file = if bytes_eq file.name name then Some file.bytes else None

-- the bytes of a name: those of its last file
abbrev pub bytes_of : List ℕ → List File → Option (List ℕ)
bytes_of name [] = None
bytes_of name (file ∷ files) = either (bytes_of name files) (own_bytes name file)

-- what was loaded of a name, by what it has: all its bytes, which are few enough; or that they are too many
abbrev pub IsFound : Result Loaded ShelfErr → List ℕ → ℕ → List File → Type 0
IsFound (Ok (Whole blob)) name limit files = (bytes_of name files ≡ Some blob) × (length blob ≤ limit)
IsFound (Ok TooLong) name limit files = (bytes : List ℕ) × (bytes_of name files ≡ Some bytes) × (limit < length bytes)
IsFound (Err Failed) name limit files = ⊤
IsFound (Err NoMemory) name limit files = ⊤

-- the same of a shelf, which keeps all that it has
pub record Finds (result : Result Loaded ShelfErr) (name : List ℕ) (limit : ℕ) (old new : List File) : Type 0 where
  pub found : IsFound result name limit old
  pub kept : new ≡ old

-- what is given of bytes that are all there is: all of them, which are few enough; or that they are too many
abbrev pub IsGiven : Loaded → List ℕ → ℕ → Type 0
IsGiven (Whole blob) bytes limit = (blob ≡ bytes) × (length bytes ≤ limit)
IsGiven TooLong bytes limit = limit < length bytes

-- no more bytes come than were wanted
abbrev pub IsWithin : Result Loaded ShelfErr → ℕ → Type 0
IsWithin (Ok (Whole blob)) limit = length blob ≤ limit
IsWithin (Ok TooLong) limit = ⊤
IsWithin (Err error) limit = ⊤

-- a failure comes only where the count rose
abbrev pub FailsByFault : Result Loaded ShelfErr → ℕ → ℕ → Type 0
FailsByFault (Err Failed) before now = Rose before now
FailsByFault (Err NoMemory) before now = ⊤
FailsByFault (Ok loaded) before now = ⊤

-- whether a load failed, for another reason than memory
abbrev pub is_failed : Result Loaded ShelfErr → Bool
is_failed (Err Failed) = true
is_failed (Err NoMemory) = false
is_failed (Ok loaded) = false
