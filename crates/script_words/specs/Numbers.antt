-- Numbers as words.
use Rattle.std.specs.Prelude.{ℕ, ◌^◌, List, length, drop, codes, nat_eq, Option, Some, None, nat_lt, ◌&&◌, if◌then◌else◌}
use Rattle.std.specs.Char.{is_digit}
use Rattle.std.specs.List.{list_all, starts_with}
use Rattle.std.specs.Str.Parse.{digits_value}

-- the number that digits of a base write: at least one digit, and at most 4,294,967,295
abbrev pub number_in : ℕ → List ℕ → Option ℕ
number_in base digits =
    if nat_lt 0 (length digits) && list_all (λ c. is_digit c base) digits && nat_lt (digits_value base digits) (2 ^ 32)
    then Some (digits_value base digits) else None

-- a word that is a number: decimal digits, or `0x` and hexadecimal digits of either case
abbrev pub number_of : List ℕ → Option ℕ
number_of word = if starts_with nat_eq word (codes "0x") then number_in 16 (drop 2 word) else number_in 10 word
