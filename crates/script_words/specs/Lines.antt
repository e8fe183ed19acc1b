-- A line before its words are read.
use Rattle.std.specs.Prelude.{ℕ, Bool, List, length, codes, Result, Ok, Err, nat_eq, nat_lt, is_ok, ◌==◌, ◌&&◌, ◌||◌, if◌then◌else◌}
use Rattle.std.specs.List.{list_any, starts_with}
use Rattle.ec_types.specs.declared.why.Why.{Why}
use Rattle.ec_types.specs.declared.why.Why.TheVariants.{TooLong, Ascii}
use Rattle.script_words.specs.Words.{words_of}

-- a byte that is no printable ASCII
abbrev pub is_unprintable : ℕ → Bool
is_unprintable b = nat_lt b 0x20 || nat_lt 0x7E b

-- what is wrong with a line, whatever its words are
abbrev pub checked : List ℕ → Result (Unit {0}) Why
checked line =
    if nat_lt 16384 (length line) then Err TooLong else
    if list_any is_unprintable line then Err Ascii else
    Ok tt

-- a line that does nothing: it begins with `#` or has no word, and nothing is wrong with it
abbrev pub does_nothing : List ℕ → Bool
does_nothing line = (starts_with nat_eq line (codes "#") || (length (words_of line) == 0)) && is_ok (checked line)
