-- Two and four little-endian bytes, as numbers and back.
use Rattle.std.proofs.Common.{◌≡◌, ℕ, ◌^◌, ◌<◌, List, ◌++◌, length, arith}
use Rattle.std.proofs.lemmas.Nat.{le_bytes_2, le_bytes_4}
use Rattle.byteorder.specs.Numbers.{little_number-reads_back}
use Rattle.ec_types.specs.LittleEndian.{AreBytes, u16_bytes, u32_bytes, u16_at, u32_at}

-- two bytes spell their number
pub u16_bytes-u16_at_two : (bytes : List ℕ) → AreBytes bytes → length bytes ≡ 2 → u16_bytes (u16_at 0 bytes) ≡ bytes
u16_bytes-u16_at_two bytes fits len = le_bytes_2 bytes (u16_at 0 bytes) len fits (omega arith)

-- four bytes spell their number
pub u32_bytes-u32_at_four : (bytes : List ℕ) → AreBytes bytes → length bytes ≡ 4 → u32_bytes (u32_at 0 bytes) ≡ bytes
u32_bytes-u32_at_four bytes fits len = le_bytes_4 bytes (u32_at 0 bytes) len fits (omega arith)

-- a 16 bit number is read back
pub u16_at-u16_bytes : (n : ℕ) (rest : List ℕ) → n < 2 ^ 16 → u16_at 0 (u16_bytes n ++ rest) ≡ n
u16_at-u16_bytes n rest fits = little_number-reads_back 2 n rest fits

-- a 32 bit number is read back
pub u32_at-u32_bytes : (n : ℕ) (rest : List ℕ) → n < 2 ^ 32 → u32_at 0 (u32_bytes n ++ rest) ≡ n
u32_at-u32_bytes n rest fits = little_number-reads_back 4 n rest fits
