-- What stands before the tags.
use Rattle.std.proofs.Common.{◌≡◌, refl, ap, ℕ, ◌/◌, ◌%◌, List, ◌++◌, length, arith}
use Rattle.ec_types.specs.LittleEndian.{u32_at, u32_bytes}
use Rattle.ec_types.proofs.Bytes.{u32_bytes-u32_at}
use Rattle.jump_data.specs.declared.kept.TagLayout.{TagLayout}
use Rattle.jump_data.specs.declared.kept.TagLayout.TheVariants.{V2, V3}
use Rattle.jump_data.specs.Tags.{magic, front, front_size}

-- the number that four bytes spell has those bytes
number-again : (n : ℕ) (rest : List ℕ) → u32_bytes (u32_at 0 (u32_bytes n ++ rest)) ≡ u32_bytes n
number-again n rest =
    u32_bytes-u32_at (n % 256) (n / 256 % 256) (n / 65536 % 256) (n / 16777216 % 256) rest (omega arith) (omega arith) (omega arith) (omega arith)

-- the flags that a front says make the same front
pub front-again : (layout : TagLayout) (flags total : ℕ) (behind : List ℕ) → front layout (u32_at 8 (front layout flags total ++ behind)) total ≡ front layout flags total
front-again V2 flags total behind = ap (λ (bytes : List ℕ). u32_bytes magic ++ u32_bytes 2 ++ bytes ++ u32_bytes total) (number-again flags (u32_bytes total ++ behind))
front-again V3 flags total behind =
    ap (λ (bytes : List ℕ). u32_bytes magic ++ u32_bytes 3 ++ bytes ++ u32_bytes total ++ u32_bytes 20) (number-again flags (u32_bytes total ++ u32_bytes 20 ++ behind))

-- how long it is
pub length-front : (layout : TagLayout) (flags total : ℕ) → length (front layout flags total) ≡ front_size layout
length-front V2 flags total = refl
length-front V3 flags total = refl
