-- Numbers as bytes, the lowest byte first.
use Rattle.std.specs.Prelude.{ℕ, ◌<◌, List, drop, slice_index, Bool, not, ◌==◌, if◌then◌else◌, bit_and}
use Rattle.byteorder.specs.Endian.{little_bytes, little_number}

-- each number of the list is a byte
abbrev pub AreBytes : List ℕ → Type 0
AreBytes bytes = (place : ℕ) → slice_index bytes place < 256

-- the two bytes of a 16 bit number
abbrev pub u16_bytes : ℕ → List ℕ
u16_bytes number = little_bytes 2 number

-- the four bytes of a 32 bit number
abbrev pub u32_bytes : ℕ → List ℕ
u32_bytes number = little_bytes 4 number

-- the 16 bit number whose bytes begin at a place of the list
abbrev pub u16_at : ℕ → List ℕ → ℕ
u16_at place bytes = little_number 2 (drop place bytes)

-- the 32 bit number whose bytes begin at a place of the list
abbrev pub u32_at : ℕ → List ℕ → ℕ
u32_at place bytes = little_number 4 (drop place bytes)

-- whether a number has some bit of the mask
abbrev pub has_bit : ℕ → ℕ → Bool
has_bit mask number = not (bit_and number mask == 0)

-- the mask where the test is true, and 0 otherwise
abbrev pub bit_if : ℕ → Bool → ℕ
bit_if mask test = if test then mask else 0
