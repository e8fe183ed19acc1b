-- The bytes of a name, where a file is added last.
use Rattle.std.proofs.Common.{◌≡◌, refl, ap, ◌∙◌, ℕ, Bool, true, false, if◌then◌else◌, List, [], ◌∷◌, ◌++◌, Option, Some, None}
use Rattle.std.specs.Str.{bytes_eq}
use Rattle.std.proofs.lemmas.List.{map-append}
use Rattle.bench_shelf.specs.declared.memory_shelf.Stored.{Stored}
use Rattle.bench_shelf.specs.Memory.{files_of}
use Rattle.bench_shelf.specs.Shelves.{File, either, own_bytes, bytes_of}

either-none : (own : Option (List ℕ)) → own ≡ either own None
either-none (Some bytes) = refl
either-none None = refl

either-both : (a b c : Option (List ℕ)) → either (either a b) c ≡ either a (either b c)
either-both (Some bytes) b c = refl
either-both None b c = refl

pub bytes-last : (name : List ℕ) (files : List File) (file : File) → bytes_of name (files ++ file ∷ []) ≡ either (own_bytes name file) (bytes_of name files)
bytes-last name [] file = either-none (own_bytes name file)
bytes-last name (first ∷ files) file =
    ap (λ (found : Option (List ℕ)). either found (own_bytes name first)) (bytes-last name files file) ∙ either-both (own_bytes name file) (bytes_of name files) (own_bytes name first)

-- what is stored, as a file
abbrev as_file : Stored → File
as_file stored = record { name = stored.name; bytes = stored.bytes }

-- a name is looked for in the last one first
pub look-last : (name : List ℕ) (files rest : List Stored) (last : Stored) → files ≡ rest ++ last ∷ [] → bytes_of name (files_of files) ≡ either (if bytes_eq last.name name then Some last.bytes else None) (bytes_of name (files_of rest))
look-last name files rest last same =
    ap (λ (stored : List Stored). bytes_of name (files_of stored)) same ∙ ap (bytes_of name) (map-append as_file rest (last ∷ [])) ∙ bytes-last name (files_of rest) (as_file last)

-- it is found there
pub found-last : (name : List ℕ) (files rest : List Stored) (last : Stored) → files ≡ rest ++ last ∷ [] → bytes_eq last.name name ≡ true → bytes_of name (files_of files) ≡ Some last.bytes
found-last name files rest last same own =
    look-last name files rest last same ∙ ap (λ (test : Bool). either (if test then Some last.bytes else None) (bytes_of name (files_of rest))) own

-- or before it
pub found-before : (name : List ℕ) (files rest : List Stored) (last : Stored) → files ≡ rest ++ last ∷ [] → bytes_eq last.name name ≡ false → bytes_of name (files_of files) ≡ bytes_of name (files_of rest)
found-before name files rest last same other =
    look-last name files rest last same ∙ ap (λ (test : Bool). either (if test then Some last.bytes else None) (bytes_of name (files_of rest))) other
