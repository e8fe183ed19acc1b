-- The lines of a script.
use Rattle.std.specs.Prelude.{◌==◌, ℕ, List, [], ◌∷◌, length, take, nat_le, nat_lt, if◌then◌else◌, All, ◌≡◌, false}
use Rattle.std.specs.List.{slice_split}
use Rattle.std.specs.Str.Lines.{strip_carriage_return}

-- the most bytes that a script has
abbrev pub most_bytes : ℕ
most_bytes = 16777216

-- the most bytes that a line has without its end
abbrev pub longest_line : ℕ
longest_line = 16384

-- no line feed is among the bytes
abbrev pub HasNoFeed : List ℕ → Type 0
HasNoFeed bytes = All (λ byte. (byte == 10) ≡ false) bytes

-- the parts between line feeds
abbrev pub parts : List ℕ → List (List ℕ)
parts bytes = slice_split (λ byte. byte == 10) bytes

-- a line without the one carriage return at its end, if it has one
abbrev pub without_return : List ℕ → List ℕ
without_return line = strip_carriage_return line

-- the lines in the parts: each but the last was ended by a line feed, and what the last counts for is said apart
abbrev pub lines_with : (List ℕ → List (List ℕ)) → List (List ℕ) → List (List ℕ)
lines_with closing [] = []
lines_with closing (last ∷ []) = closing last
lines_with closing (line ∷ next ∷ more) = without_return line ∷ lines_with closing (next ∷ more)

-- the lines that a line feed ends
abbrev pub ended_lines : List ℕ → List (List ℕ)
ended_lines bytes = lines_with (λ last. []) (parts bytes)

-- a last part of an input that ends there is a line, where it is not empty
abbrev pub last_line : List ℕ → List (List ℕ)
last_line last = if length last == 0 then [] else last ∷ []

-- all the lines of an input that ends there
abbrev pub lines_of : List ℕ → List (List ℕ)
lines_of bytes = lines_with last_line (parts bytes)

-- a last part that was cut off counts only where it is too long already
abbrev pub cut_line : List ℕ → List (List ℕ)
cut_line last = if nat_lt longest_line (length last) then last ∷ [] else []

-- the lines of the front of a longer script
abbrev pub lines_within : List ℕ → List (List ℕ)
lines_within bytes = lines_with cut_line (parts bytes)

-- the lines of a script, of which no byte behind the most that it may have counts
abbrev pub script_lines : List ℕ → List (List ℕ)
script_lines bytes = if nat_le (length bytes) most_bytes then lines_of bytes else lines_within (take most_bytes bytes)
