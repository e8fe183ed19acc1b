-- The fields of replies.
use Rattle.std.proofs.Common.{◌≡◌, refl, sym, ap, ◌∙◌, ℕ, ◌^◌, ◌<◌, ◌≤◌, List, ◌++◌, length, take, drop, append_assoc, arith}
use Rattle.std.proofs.lemmas.List.{take_all, take_at, drop_at, length-append}
use Rattle.std.proofs.Math.Seq.{take-append_seam, drop-append_seam}
use Rattle.ec_types.specs.LittleEndian.{u16_at, u32_at, u32_bytes}
use Rattle.ec_model.specs.Bodies.{version_say, chip_say, cmd_versions_say, proto_info_say, flash_info_say1, flash_protect_say, sysinfo_say, vboot_hash_say}
use Rattle.ectool_lines.specs.Texts.{version_text, chip_text, proto_info_text, flash_info_text, protection_text, sysinfo_text, hash_text, hash_reply}

-- a mask
pub mask-read : (reply : List ℕ) (mask : ℕ) → mask < 2 ^ 32 → reply ≡ cmd_versions_say mask → u32_at 0 reply ≡ mask
mask-read reply mask small spelled = ap (u32_at 0) spelled ∙ (omega (arith, small))

-- two texts of 32 bytes, the reserved bytes, and a number
pub version-read : (reply ro rw_version reserved : List ℕ) (current : ℕ) → length ro ≡ 32 → length rw_version ≡ 32 → length reserved ≡ 32 → current < 2 ^ 32 → reply ≡ version_say ro rw_version reserved current →
    version_text (take 32 reply) (take 32 (drop 32 reply)) (u32_at 96 reply) ≡ version_text ro rw_version current
version-read reply ro rw_version reserved current first second third small spelled =
    let last = u32_bytes current in
    let behind = rw_version ++ (reserved ++ last) in
    let parts : reply ≡ ro ++ behind = spelled ∙ append_assoc (ro ++ rw_version) reserved last ∙ append_assoc ro rw_version (reserved ++ last) in
    let one : take 32 reply ≡ ro = ap (take 32) parts ∙ take_at ro behind 32 first in
    let rest : drop 32 reply ≡ behind = ap (drop 32) parts ∙ drop_at ro behind 32 first in
    let two : take 32 (drop 32 reply) ≡ rw_version = ap (take 32) rest ∙ take_at rw_version (reserved ++ last) 32 second in
    let all : length ((ro ++ rw_version) ++ reserved) ≡ 96 = omega (arith, first, second, third, length-append (ro ++ rw_version) reserved, length-append ro rw_version) in
    let three : drop 96 reply ≡ last = ap (drop 96) spelled ∙ drop_at ((ro ++ rw_version) ++ reserved) last 96 all in
    let number : u32_at 96 reply ≡ current = ap (λ (bytes : List ℕ). u32_at 0 bytes) three ∙ (omega (arith, small)) in
    rw (one, two, number) refl

-- labels with a text behind each, and two texts at the end
pub version-parts : (old a b c d e f : List ℕ) → (((old ++ (a ++ b)) ++ (c ++ d)) ++ e) ++ f ≡ old ++ (a ++ b ++ c ++ d ++ e ++ f)
version-parts old a b c d e f = simp append_assoc

-- the text of equal parts
chip-of : (a b c vendor name revision : List ℕ) → a ≡ vendor → b ≡ name → c ≡ revision → chip_text a b c ≡ chip_text vendor name revision
chip-of a b c vendor name revision first second third = rw (first, second, third) refl

-- three texts of 32 bytes
pub chip-read : (reply vendor name revision : List ℕ) → length vendor ≡ 32 → length name ≡ 32 → length revision ≤ 32 → reply ≡ chip_say vendor name revision →
    chip_text (take 32 reply) (take 32 (drop 32 reply)) (take 32 (drop 64 reply)) ≡ chip_text vendor name revision
chip-read reply vendor name revision first second third spelled =
    let one : take 32 reply ≡ vendor =
    ap (take 32) (spelled ∙ append_assoc vendor name revision) ∙ ap (λ (n : ℕ). take n (vendor ++ (name ++ revision))) (sym first) ∙ take-append_seam vendor (name ++ revision) in
    let rest : drop 32 reply ≡ name ++ revision =
    ap (drop 32) (spelled ∙ append_assoc vendor name revision) ∙ ap (λ (n : ℕ). drop n (vendor ++ (name ++ revision))) (sym first) ∙ drop-append_seam vendor (name ++ revision) in
    let two : take 32 (drop 32 reply) ≡ name = ap (take 32) rest ∙ ap (λ (n : ℕ). take n (name ++ revision)) (sym second) ∙ take-append_seam name revision in
    let both : length (vendor ++ name) ≡ 64 = omega (arith, first, second, length-append vendor name) in
    let three : drop 64 reply ≡ revision = ap (drop 64) spelled ∙ ap (λ (n : ℕ). drop n ((vendor ++ name) ++ revision)) (sym both) ∙ drop-append_seam (vendor ++ name) revision in
    chip-of (take 32 reply) (take 32 (drop 32 reply)) (take 32 (drop 64 reply)) vendor name revision one two (ap (take 32) three ∙ take_all 32 revision third)

-- four labels with a text behind each
pub four-parts : (old a b c d e f g h : List ℕ) → (((old ++ (a ++ b)) ++ (c ++ d)) ++ (e ++ f)) ++ (g ++ h) ≡ old ++ (a ++ b ++ c ++ d ++ e ++ f ++ g ++ h)
four-parts old a b c d e f g h = simp append_assoc

-- the text of equal parts
protection-of : (a b c flags valid writable : ℕ) → a ≡ flags → b ≡ valid → c ≡ writable → protection_text a b c ≡ protection_text flags valid writable
protection-of a b c flags valid writable first second third = rw (first, second, third) refl

-- three labels with a text behind each
pub three-parts : (old a b c d e f : List ℕ) → ((old ++ (a ++ b)) ++ (c ++ d)) ++ (e ++ f) ≡ old ++ (a ++ b ++ c ++ d ++ e ++ f)
three-parts old a b c d e f = simp append_assoc

-- three numbers
pub protection-read : (reply : List ℕ) (flags valid writable : ℕ) → flags < 2 ^ 32 → valid < 2 ^ 32 → writable < 2 ^ 32 → reply ≡ flash_protect_say flags valid writable →
    protection_text (u32_at 0 reply) (u32_at 4 reply) (u32_at 8 reply) ≡ protection_text flags valid writable
protection-read reply flags valid writable first second third spelled =
    let body = flash_protect_say flags valid writable in
    let a : u32_at 0 body ≡ flags = omega (arith, first) in
    let b : u32_at 4 body ≡ valid = omega (arith, second) in
    let c : u32_at 8 body ≡ writable = omega (arith, third) in
    ap (λ (r : List ℕ). protection_text (u32_at 0 r) (u32_at 4 r) (u32_at 8 r)) spelled ∙ protection-of (u32_at 0 body) (u32_at 4 body) (u32_at 8 body) flags valid writable a b c

-- the text of equal parts
sysinfo-of : (a b c reset_flags current flags : ℕ) → a ≡ reset_flags → b ≡ current → c ≡ flags → sysinfo_text a b c ≡ sysinfo_text reset_flags current flags
sysinfo-of a b c reset_flags current flags first second third = rw (first, second, third) refl

-- three numbers
pub sysinfo-read : (reply : List ℕ) (reset_flags current flags : ℕ) → reset_flags < 2 ^ 32 → current < 2 ^ 32 → flags < 2 ^ 32 → reply ≡ sysinfo_say reset_flags current flags →
    sysinfo_text (u32_at 0 reply) (u32_at 4 reply) (u32_at 8 reply) ≡ sysinfo_text reset_flags current flags
sysinfo-read reply reset_flags current flags first second third spelled =
    let body = sysinfo_say reset_flags current flags in
    let a : u32_at 0 body ≡ reset_flags = omega (arith, first) in
    let b : u32_at 4 body ≡ current = omega (arith, second) in
    let c : u32_at 8 body ≡ flags = omega (arith, third) in
    ap (λ (r : List ℕ). sysinfo_text (u32_at 0 r) (u32_at 4 r) (u32_at 8 r)) spelled ∙ sysinfo-of (u32_at 0 body) (u32_at 4 body) (u32_at 8 body) reset_flags current flags a b c

-- the text of equal parts
hash-of : (status a b offset size : ℕ) (digest : List ℕ) → a ≡ offset → b ≡ size → hash_text status a b digest ≡ hash_text status offset size digest
hash-of status a b offset size digest first second = ap (λ (n : ℕ). hash_text status n b digest) first ∙ ap (λ (n : ℕ). hash_text status offset n digest) second

-- a status, a range and a digest
pub hash-read : (reply : List ℕ) (status hash_type digest_size reserved offset size : ℕ) (digest : List ℕ) → offset < 2 ^ 32 → size < 2 ^ 32 → reply ≡ vboot_hash_say status hash_type digest_size reserved offset size digest →
    hash_reply reply ≡ hash_text status offset size digest
hash-read reply status hash_type digest_size reserved offset size digest first second spelled =
    let body = vboot_hash_say status hash_type digest_size reserved offset size digest in
    let a : u32_at 4 body ≡ offset = omega (arith, first) in
    let b : u32_at 8 body ≡ size = omega (arith, second) in
    ap hash_reply spelled ∙ hash-of status (u32_at 4 body) (u32_at 8 body) offset size digest a b

-- the text of equal parts
proto_info-of : (a b c d versions max_request max_response flags : ℕ) → a ≡ versions → b ≡ max_request → c ≡ max_response → d ≡ flags → proto_info_text a b c d ≡ proto_info_text versions max_request max_response flags
proto_info-of a b c d versions max_request max_response flags first second third fourth = rw (first, second, third, fourth) refl

-- four numbers
pub proto_info-read : (reply : List ℕ) (versions max_request max_response flags : ℕ) → versions < 2 ^ 32 → max_request < 2 ^ 16 → max_response < 2 ^ 16 → flags < 2 ^ 32 → reply ≡ proto_info_say versions max_request max_response flags →
    proto_info_text (u32_at 0 reply) (u16_at 4 reply) (u16_at 6 reply) (u32_at 8 reply) ≡ proto_info_text versions max_request max_response flags
proto_info-read reply versions max_request max_response flags first second third fourth spelled =
    let body = proto_info_say versions max_request max_response flags in
    let a : u32_at 0 body ≡ versions = omega (arith, first) in
    let b : u16_at 4 body ≡ max_request = omega (arith, second) in
    let c : u16_at 6 body ≡ max_response = omega (arith, third) in
    let d : u32_at 8 body ≡ flags = omega (arith, fourth) in
    ap (λ (r : List ℕ). proto_info_text (u32_at 0 r) (u16_at 4 r) (u16_at 6 r) (u32_at 8 r)) spelled
    ∙ proto_info-of (u32_at 0 body) (u16_at 4 body) (u16_at 6 body) (u32_at 8 body) versions max_request max_response flags a b c d

-- the text of equal parts
flash_info-of : (a b c d e f size write erase protect ideal flags : ℕ) → a ≡ size → b ≡ write → c ≡ erase → d ≡ protect → e ≡ ideal → f ≡ flags → flash_info_text a b c d e f ≡ flash_info_text size write erase protect ideal flags
flash_info-of a b c d e f size write erase protect ideal flags first second third fourth fifth sixth = rw (first, second, third, fourth, fifth, sixth) refl

-- six numbers
pub flash_info-read : (reply : List ℕ) (size write erase protect ideal flags : ℕ) → size < 2 ^ 32 → write < 2 ^ 32 → erase < 2 ^ 32 → protect < 2 ^ 32 → ideal < 2 ^ 32 → flags < 2 ^ 32 → reply ≡ flash_info_say1 size write erase protect ideal flags →
    flash_info_text (u32_at 0 reply) (u32_at 4 reply) (u32_at 8 reply) (u32_at 12 reply) (u32_at 16 reply) (u32_at 20 reply) ≡ flash_info_text size write erase protect ideal flags
flash_info-read reply size write erase protect ideal flags first second third fourth fifth sixth spelled =
    let body = flash_info_say1 size write erase protect ideal flags in
    let a : u32_at 0 body ≡ size = omega (arith, first) in
    let b : u32_at 4 body ≡ write = omega (arith, second) in
    let c : u32_at 8 body ≡ erase = omega (arith, third) in
    let d : u32_at 12 body ≡ protect = omega (arith, fourth) in
    let e : u32_at 16 body ≡ ideal = omega (arith, fifth) in
    let f : u32_at 20 body ≡ flags = omega (arith, sixth) in
    ap (λ (r : List ℕ). flash_info_text (u32_at 0 r) (u32_at 4 r) (u32_at 8 r) (u32_at 12 r) (u32_at 16 r) (u32_at 20 r)) spelled
    ∙ flash_info-of (u32_at 0 body) (u32_at 4 body) (u32_at 8 body) (u32_at 12 body) (u32_at 16 body) (u32_at 20 body) size write erase protect ideal flags a b c d e f
