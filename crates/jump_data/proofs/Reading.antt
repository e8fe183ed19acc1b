-- The tags of what is kept, one by one.
use Rattle.std.proofs.Common.{◌≡◌, refl, ap, ℕ, List, [], ◌++◌, length, Option, Some, None, unwrap_or, arith}
use Rattle.ec_types.specs.LittleEndian.{u16_bytes}
use Rattle.ec_types.specs.declared.image.KeptHash.{KeptHash}
use Rattle.jump_data.specs.Tags.{Tag, IsTag, AreTags, tag_bytes, tags_bytes}
use Rattle.jump_data.specs.declared.kept.JumpData.TheVariants.{Tagged}
use Rattle.jump_data.specs.declared.kept.TagLayout.{TagLayout}
use Rattle.jump_data.specs.Spelling.{IsHash, IsHashKept, behind_protection, hash_content, kept_tags}
use Rattle.jump_data.proofs.Walking.{made, tag-same}

-- the tag of the saved status is one
pub is-saved_tag : (saved : ℕ) → IsTag (made 0x5253 (u16_bytes saved))
is-saved_tag saved = record { numbered = omega arith; sized = omega arith }

is-hash_tag : (hash : KeptHash) → IsHash hash → IsTag (made 0x4848 (hash_content hash))
is-hash_tag hash is = let long : length hash.digest ≡ 32 = is.whole in record { numbered = omega arith; sized = omega arith }

-- the tags behind the protection are tags
pub are-behind : (hash : Option KeptHash) (saved : ℕ) → IsHashKept hash → AreTags (behind_protection hash saved)
are-behind None saved kept = (is-saved_tag saved, tt)
are-behind (Some hash) saved kept = (is-hash_tag hash kept, (is-saved_tag saved, tt))

-- so are all
pub are-kept : (protect : List ℕ) (hash : Option KeptHash) (saved : ℕ) → length protect ≡ 4 → IsHashKept hash → AreTags (kept_tags protect hash saved)
are-kept protect hash saved four kept = (record { numbered = omega arith; sized = omega arith }, are-behind hash saved kept)

-- there is a tag behind the protection
pub some-behind : (hash : Option KeptHash) (saved : ℕ) → [] ≡ tags_bytes (behind_protection hash saved) → ⊥
some-behind None saved none = cc
some-behind (Some hash) saved none = cc

-- what the first tag behind the protection is
pub data First (name : ℕ) (content behind : List ℕ) (hash : Option KeptHash) (saved : ℕ) : Type 0 where
  Saved : name ≡ 0x5253 → content ≡ u16_bytes saved → None ≡ hash → First name content behind hash saved
  Hashed : (kept : KeptHash) → IsHash kept → name ≡ 0x4848 → content ≡ hash_content kept → behind ≡ tag_bytes (made 0x5253 (u16_bytes saved)) ++ [] → Some kept ≡ hash → First name content behind hash saved

pub first : (name : ℕ) (content behind : List ℕ) (hash : Option KeptHash) (saved : ℕ) → IsTag (made name content) → IsHashKept hash → tag_bytes (made name content) ++ behind ≡ tags_bytes (behind_protection hash saved) → First name content behind hash saved
first name content behind None saved is kept same =
    let both = tag-same (made name content) (made 0x5253 (u16_bytes saved)) behind [] is (is-saved_tag saved) same in
    Saved (ap (λ (tag : Tag). tag.number) both.0) (ap (λ (tag : Tag). tag.content) both.0) refl
first name content behind (Some hash) saved is kept same =
    let both = tag-same (made name content) (made 0x4848 (hash_content hash)) behind (tag_bytes (made 0x5253 (u16_bytes saved)) ++ []) is (is-hash_tag hash kept) same in
    Hashed hash kept (ap (λ (tag : Tag). tag.number) both.0) (ap (λ (tag : Tag). tag.content) both.0) both.1 refl

-- the tag of the saved status has its number
pub is_saved : (name : ℕ) (content behind : List ℕ) (hash : Option KeptHash) (saved : ℕ) → First name content behind hash saved → name ≡ 0x5253 → (content ≡ u16_bytes saved) × (None ≡ hash)
is_saved name content behind hash saved (Saved named content_is none) number = (content_is, none)
is_saved name content behind hash saved (Hashed kept is named content_is behind_is some) number = absurd (omega arith)

-- another tag is that of the hash
pub record Hash (content behind : List ℕ) (hash : Option KeptHash) (saved : ℕ) : Type 0 where
  pub kept : KeptHash
  pub is : IsHash kept
  pub content_is : content ≡ hash_content kept
  pub behind_is : behind ≡ tag_bytes (made 0x5253 (u16_bytes saved)) ++ []
  pub some : Some kept ≡ hash

pub is_hash : (name : ℕ) (content behind : List ℕ) (hash : Option KeptHash) (saved : ℕ) → First name content behind hash saved → (name ≡ 0x5253 → ⊥) → Hash content behind hash saved
is_hash name content behind hash saved (Saved named content_is none) other = absurd (other named)
is_hash name content behind hash saved (Hashed kept is named content_is behind_is some) other =
    record { kept = kept; is = is; content_is = content_is; behind_is = behind_is; some = some }

-- the last tag is that of the saved status
pub last_saved : (name : ℕ) (content behind : List ℕ) (saved : ℕ) → IsTag (made name content) → tag_bytes (made name content) ++ behind ≡ tag_bytes (made 0x5253 (u16_bytes saved)) ++ [] → content ≡ u16_bytes saved
last_saved name content behind saved is same =
    ap (λ (tag : Tag). tag.content) (tag-same (made name content) (made 0x5253 (u16_bytes saved)) behind [] is (is-saved_tag saved) same).0

-- the first tag of all is that of the protection
pub first_protect : (name : ℕ) (content behind protect : List ℕ) (hash : Option KeptHash) (saved : ℕ) → IsTag (made name content) → length protect ≡ 4 → tag_bytes (made name content) ++ behind ≡ tags_bytes (kept_tags protect hash saved) → (content ≡ protect) × (behind ≡ tags_bytes (behind_protection hash saved))
first_protect name content behind protect hash saved is four same =
    let both = tag-same (made name content) (made 0x5057 protect) behind (tags_bytes (behind_protection hash saved)) is (record { numbered = omega arith; sized = omega arith }) same in
    (ap (λ (tag : Tag). tag.content) both.0, both.1)

-- what is read behind the protection
abbrev pub pair : Option KeptHash → ℕ → Option (Option KeptHash × ℕ)
pair hash saved = Some (hash, saved)

-- jump data with the same fields
pub tagged-same : (layout : TagLayout) (flags : ℕ) (a protect : List ℕ) (b hash : Option KeptHash) (c saved : ℕ) → Some a ≡ Some protect → pair b c ≡ pair hash saved → Some (Tagged layout flags a b c) ≡ Some (Tagged layout flags protect hash saved)
tagged-same layout flags a protect b hash c saved same others =
    let own : Option KeptHash × ℕ = (b, c) in
    let hashes : b ≡ hash = ap (λ (found : Option (Option KeptHash × ℕ)). (unwrap_or found own).0) others in
    let statuses : c ≡ saved = ap (λ (found : Option (Option KeptHash × ℕ)). (unwrap_or found own).1) others in
    cc
