-- Jump data, and the bytes that spell it.
use Rattle.std.specs.Prelude.{◌≡◌, ◌<◌, ◌^◌, ℕ, Bool, true, nat_le, IsTrue, List, [], ◌∷◌, ◌++◌, length, Option, Some, None, ⊤}
use Rattle.std.specs.List.{list_all}
use Rattle.ec_types.specs.LittleEndian.{u16_bytes, u32_bytes}
use Rattle.ec_types.specs.declared.image.KeptHash.{KeptHash}
use Rattle.jump_data.specs.declared.kept.JumpData.{JumpData}
use Rattle.jump_data.specs.declared.kept.JumpData.TheVariants.{Old, Tagged}
use Rattle.jump_data.specs.Tags.{magic, Tag, with_tags}

-- a kept hash as the content of a tag
abbrev pub hash_content : KeptHash → List ℕ
hash_content hash = u32_bytes hash.at ++ u32_bytes hash.size ++ hash.digest

-- the tag of a finished hash, where there is one
abbrev pub hash_tags : Option KeptHash → List Tag
hash_tags None = []
hash_tags (Some hash) = record { number = 0x4848; content = hash_content hash } ∷ []

-- the tags behind the protection: the hash, and the saved status
abbrev pub behind_protection : Option KeptHash → ℕ → List Tag
behind_protection hash saved = hash_tags hash ++ record { number = 0x5253; content = u16_bytes saved } ∷ []

-- the tags of what is kept: the protection first
abbrev pub kept_tags : List ℕ → Option KeptHash → ℕ → List Tag
kept_tags protect hash saved = record { number = 0x5057; content = protect } ∷ behind_protection hash saved

-- the one spelling
abbrev pub spelling : JumpData → List ℕ
spelling (Old flags) = u32_bytes magic ++ u32_bytes 1 ++ u32_bytes flags
spelling (Tagged layout flags protect hash saved) = with_tags layout flags (kept_tags protect hash saved)

-- whether a byte is a switch: 0 or 1
abbrev pub is_switch : ℕ → Bool
is_switch byte = nat_le byte 1

-- whether each byte of the protection is a switch
abbrev pub has_switches : JumpData → Bool
has_switches (Old flags) = true
has_switches (Tagged layout flags protect hash saved) = list_all is_switch protect

-- a kept hash: two numbers of four bytes, and a digest of 32
pub record IsHash (hash : KeptHash) : Type 0 where
  pub place : hash.at < 2 ^ 32
  pub extent : hash.size < 2 ^ 32
  pub whole : length hash.digest ≡ 32

-- the hash, where there is one, is a kept hash
abbrev pub IsHashKept : Option KeptHash → Type 0
IsHashKept None = ⊤
IsHashKept (Some hash) = IsHash hash

-- each field has its size, and each byte of the protection is a switch
abbrev pub IsKept : JumpData → Type 0
IsKept (Old flags) = flags < 2 ^ 32
IsKept (Tagged layout flags protect hash saved) =
    (flags < 2 ^ 32) × (length protect ≡ 4) × IsTrue (list_all is_switch protect) × IsHashKept hash × (saved < 2 ^ 16)
