-- Texts, and parts of them.
use Rattle.std.specs.Prelude.{ℕ, ◌==◌, List, ◌∷◌, [], ◌++◌, take, codes}
use Rattle.std.specs.List.{position_or_len}
use Rattle.std.specs.Int.{w32, to_be_bytes}
use Rattle.hex.specs.Hex.{encode_lower}

-- a printed line: its text and a line feed
abbrev pub printed : List ℕ → List ℕ
printed text = text ++ 10 ∷ []

-- a number as `0x` and eight hexadecimal digits
abbrev pub hex_text : ℕ → List ℕ
hex_text number = codes "0x" ++ encode_lower (to_be_bytes w32 number)

-- a text with zeros behind it: its bytes before the first zero, or all of them
abbrev pub field_text : List ℕ → List ℕ
field_text bytes = take (position_or_len (λ byte. byte == 0) bytes) bytes
