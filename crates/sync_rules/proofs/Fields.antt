-- The fields of replies.
use Rattle.std.proofs.Common.{◌≡◌, ◌≢◌, refl, ap, ◌∙◌, ℕ, ◌^◌, ◌<◌, ◌==◌, ◌&&◌, Bool, false, List, ◌++◌, length, drop, slice_index, arith, Ok, Err}
use Rattle.std.proofs.lemmas.List.{drop_at, length-append}
use Rattle.std.proofs.lemmas.Bool.Decides.{eqb_tells}
use Rattle.ec_types.specs.LittleEndian.{u32_at, u32_bytes}
use Rattle.ec_model.specs.Bodies.{version_say, vboot_hash_say}
use Rattle.ec_model.specs.Ranges.{rw_range}
use Rattle.sync_rules.specs.declared.ending.Aim.{Aim}
use Rattle.sync_rules.specs.declared.ending.Stop.TheVariants.{Lost}
use Rattle.sync_rules.specs.Replies.{is_of_rw, hash_told, runs_rw_told}

-- the number behind three texts of 32 bytes
pub current-read : (reply ro rw_version reserved : List ℕ) (current : ℕ) → length ro ≡ 32 → length rw_version ≡ 32 → length reserved ≡ 32 → current < 2 ^ 32 → reply ≡ version_say ro rw_version reserved current → u32_at 96 reply ≡ current
current-read reply ro rw_version reserved current first second third small spelled =
    let last = u32_bytes current in
    let all : length ((ro ++ rw_version) ++ reserved) ≡ 96 = omega (arith, first, second, third, length-append (ro ++ rw_version) reserved, length-append ro rw_version) in
    let three : drop 96 reply ≡ last = ap (drop 96) spelled ∙ drop_at ((ro ++ rw_version) ++ reserved) last 96 all in
    ap (λ (bytes : List ℕ). u32_at 0 bytes) three ∙ (omega (arith, small))

-- whether RW runs
pub copy-told : (reply : List ℕ) (current : ℕ) (runs : Bool) → length reply ≡ 100 → u32_at 96 reply ≡ current → runs ≡ (current == 2) → Ok runs ≡ runs_rw_told reply
copy-told reply current runs long read is = rw (long, read, is) refl

-- whether a finished hash of RW is shown
pub hash-read : (size : ℕ) (reply : List ℕ) (status hash_type digest_size reserved offset length_of : ℕ) (digest : List ℕ) → offset < 2 ^ 32 → length_of < 2 ^ 32 → reply ≡ vboot_hash_say status hash_type digest_size reserved offset length_of digest →
    is_of_rw size reply ≡ ((status == 1) && (offset == (rw_range size).at) && (length_of == (rw_range size).size))
hash-read size reply status hash_type digest_size reserved offset length_of digest first second spelled =
    let body = vboot_hash_say status hash_type digest_size reserved offset length_of digest in
    let a : u32_at 4 body ≡ offset = omega (arith, first) in
    let b : u32_at 8 body ≡ length_of = omega (arith, second) in
    ap (is_of_rw size) spelled
    ∙ ap (λ (n : ℕ). (status == 1) && (n == (rw_range size).at) && (u32_at 8 body == (rw_range size).size)) a
    ∙ ap (λ (n : ℕ). (status == 1) && (offset == (rw_range size).at) && (n == (rw_range size).size)) b

-- a reply that shows none
pub hash-lost : (aim : Aim) (reply : List ℕ) (status : ℕ) → length reply ≡ 76 → slice_index reply 0 ≡ status → status ≢ 2 → is_of_rw aim.geometry reply ≡ false → Err Lost ≡ hash_told aim reply
hash-lost aim reply status long first other_status other =
    let busy : (status == 2) ≡ false = grind (arith, eqb_tells, other_status) in
    rw (long, other, first, busy) refl
