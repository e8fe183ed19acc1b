-- Bytes as hexadecimal words.
use Rattle.std.specs.Prelude.{◌≡◌, ℕ, ◌/◌, List, [], length, Option, None, Ok, nat_le, ◌&&◌, if◌then◌else◌}
use Rattle.std.specs.Result.{result_ok, result_unwrap_or}
use Rattle.hex.specs.Hex.{decode_of}

-- the bytes that a word spells, two digits of either case each: at least one byte, and at most so many
abbrev pub hex_of : ℕ → List ℕ → Option (List ℕ)
hex_of limit word = if nat_le 1 (length word / 2) && nat_le (length word / 2) limit then result_ok (decode_of word) else None

-- the bytes that digits spell, two each; none where they spell none
abbrev pub spelled : List ℕ → List ℕ
spelled digits = result_unwrap_or (decode_of digits) []

-- digits that spell bytes
abbrev pub IsSpelling : List ℕ → Type 0
IsSpelling digits = decode_of digits ≡ Ok (spelled digits)
