-- Tags, and jump data that has any of them.
use Rattle.std.specs.Prelude.{◌≡◌, ◌<◌, ◌≤◌, ◌^◌, ℕ, ◌+◌, ◌-◌, ◌%◌, ◌==◌, if◌then◌else◌, List, [], ◌∷◌, ◌++◌, length, replicate, ⊤, Option, Some, None}
use Rattle.ec_types.specs.LittleEndian.{u16_bytes, u32_bytes}
use Rattle.jump_data.specs.declared.kept.TagLayout.{TagLayout}
use Rattle.jump_data.specs.declared.kept.TagLayout.TheVariants.{V2, V3}

-- the magic number: the bytes "Jump"
abbrev pub magic : ℕ
magic = 0x706D754A

-- a tag: its number, and its content
pub record Tag : Type 0 where
  pub number : ℕ
  pub content : List ℕ

-- a number of two bytes, and a size of one
pub record IsTag (tag : Tag) : Type 0 where
  pub numbered : tag.number < 2 ^ 16
  pub sized : length tag.content < 2 ^ 8

-- the zeros behind a content of so many bytes, up to a multiple of 4
abbrev pub filling : ℕ → List ℕ
filling size = replicate ((4 - size % 4) % 4) 0

-- the bytes of a tag: its number, the size of its content, its version 1, its content, and zeros
abbrev pub tag_bytes : Tag → List ℕ
tag_bytes tag = u16_bytes tag.number ++ length tag.content ∷ 1 ∷ [] ++ tag.content ++ filling (length tag.content)

-- tags, one behind the other
abbrev pub tags_bytes : List Tag → List ℕ
tags_bytes [] = []
tags_bytes (tag ∷ behind) = tag_bytes tag ++ tags_bytes behind

-- what stands before the tags: the magic number, the version, the flags, the size of the tags, and in version 3 its own size
abbrev pub front : TagLayout → ℕ → ℕ → List ℕ
front V2 flags total = u32_bytes magic ++ u32_bytes 2 ++ u32_bytes flags ++ u32_bytes total
front V3 flags total = u32_bytes magic ++ u32_bytes 3 ++ u32_bytes flags ++ u32_bytes total ++ u32_bytes 20

-- how many bytes that are
abbrev pub front_size : TagLayout → ℕ
front_size V2 = 16
front_size V3 = 20

-- each of them is a tag
abbrev pub AreTags : List Tag → Type 0
AreTags [] = ⊤
AreTags (tag ∷ behind) = IsTag tag × AreTags behind

-- jump data with these tags
abbrev pub with_tags : TagLayout → ℕ → List Tag → List ℕ
with_tags layout flags tags = front layout flags (length (tags_bytes tags)) ++ tags_bytes tags

-- the front of jump data stands before these bytes, and says how many they are
pub record HasFront (bytes : List ℕ) (layout : TagLayout) (flags : ℕ) (behind : List ℕ) : Type 0 where
  pub short : length bytes ≤ 256
  pub spelled : bytes ≡ front layout flags (length behind) ++ behind

-- the bytes are jump data with these tags, whatever their numbers
pub record HasTags (bytes : List ℕ) (layout : TagLayout) (flags : ℕ) (tags : List Tag) : Type 0 where
  pub short : length bytes ≤ 256
  pub each : AreTags tags
  pub spelled : bytes ≡ with_tags layout flags tags

-- the bytes are jump data with some tags
abbrev pub IsWellFormed : List ℕ → Type 0
IsWellFormed bytes = (layout : TagLayout) × (flags : ℕ) × (tags : List Tag) × HasTags bytes layout flags tags

-- the place and the length of the content of the first tag with a number, where the first of the tags stands at a place
abbrev pub first_place : ℕ → ℕ → List Tag → Option (ℕ × ℕ)
first_place number at [] = None
first_place number at (tag ∷ behind) =
    if tag.number == number then Some (at + 4, length tag.content) else
    first_place number (at + length (tag_bytes tag)) behind
