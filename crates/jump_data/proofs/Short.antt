-- A spelling is short.
use Rattle.std.proofs.Common.{◌≡◌, ℕ, ◌+◌, ◌-◌, ◌%◌, ◌≤◌, List, [], ◌++◌, length, Option, Some, None, arith, length-append}
use Rattle.std.proofs.lemmas.List.{length-replicate}
use Rattle.ec_types.specs.LittleEndian.{u16_bytes}
use Rattle.ec_types.specs.declared.image.KeptHash.{KeptHash}
use Rattle.jump_data.specs.declared.kept.TagLayout.{TagLayout}
use Rattle.jump_data.specs.declared.kept.TagLayout.TheVariants.{V2, V3}
use Rattle.jump_data.specs.Tags.{filling, tag_bytes, tags_bytes, front, front_size}
use Rattle.jump_data.specs.Spelling.{IsHashKept, behind_protection, hash_content, kept_tags}
use Rattle.jump_data.proofs.Walking.{made}
use Rattle.jump_data.proofs.Fronts.{length-front}

short-tag : (number : ℕ) (content : List ℕ) → length (tag_bytes (made number content)) ≤ 7 + length content
short-tag number content =
    omega (arith, length-append content (filling (length content)), length-replicate {A = ℕ} ((4 - length content % 4) % 4) 0)

short-behind : (hash : Option KeptHash) (saved : ℕ) → IsHashKept hash → length (tags_bytes (behind_protection hash saved)) ≤ 60
short-behind None saved kept = omega arith
short-behind (Some hash) saved kept =
    let long : length hash.digest ≡ 32 = kept.whole in
    let first : length (tag_bytes (made 0x4848 (hash_content hash))) ≤ 47 = omega (arith, short-tag 0x4848 (hash_content hash)) in
    omega (arith, length-append (tag_bytes (made 0x4848 (hash_content hash))) (tag_bytes (made 0x5253 (u16_bytes saved)) ++ []))

short-layout : (layout : TagLayout) → front_size layout ≤ 20
short-layout V2 = omega arith
short-layout V3 = omega arith

-- jump data with tags has at most 256 bytes
pub short-tagged : (layout : TagLayout) (flags total : ℕ) (protect : List ℕ) (hash : Option KeptHash) (saved : ℕ) → length protect ≡ 4 → IsHashKept hash → length (front layout flags total ++ tags_bytes (kept_tags protect hash saved)) ≤ 256
short-tagged layout flags total protect hash saved four kept =
    let first : length (tag_bytes (made 0x5057 protect)) ≤ 11 = omega (arith, short-tag 0x5057 protect) in
    let behind : length (tags_bytes (behind_protection hash saved)) ≤ 60 = short-behind hash saved kept in
    let all : length (tags_bytes (kept_tags protect hash saved)) ≤ 71 = omega (arith, length-append (tag_bytes (made 0x5057 protect)) (tags_bytes (behind_protection hash saved))) in
    let head : length (front layout flags total) ≤ 20 = omega (arith, length-front layout flags total, short-layout layout) in
    omega (arith, length-append (front layout flags total) (tags_bytes (kept_tags protect hash saved)))
