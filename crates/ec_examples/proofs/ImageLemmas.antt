-- Images that are padded, and their digests.
use Rattle.std.proofs.Common.{◌≡◌, refl, ap, ◌∙◌, ℕ, ◌-◌, ◌≤◌, Bool, true, false, not, nat_lt, if◌then◌else◌, List, [], ◌++◌, length, replicate, length-append, append-nil, arith}
use Rattle.std.proofs.lemmas.List.{length-replicate}
use Rattle.sha2.specs.Sha256.{sha256, digest_bytes}
use Rattle.ec_types.specs.declared.image.Fit.TheVariants.{Yes, Short, Long, Vector}
use Rattle.ec_types.specs.LittleEndian.{u32_at}
use Rattle.ec_model.specs.declared.live.HashView.TheVariants.{Busy, Done}
use Rattle.ec_model.specs.Ranges.{rw_range, part}
use Rattle.ec_model.specs.Jump.{vector_in}
use Rattle.ec_model.specs.Table.{Table, Core}
use Rattle.ec_model.specs.Hash.{hash_ticked}
use Rattle.ec_model.specs.Image.{fit_of, padded, expected}
use Rattle.ec_model.specs.Syncable.{HoldsImage}

-- an image that fits is not too long
not-long : (short long vector : Bool) → (if short then Short else if long then Long else if not vector then Vector else Yes) ≡ Yes → long ≡ false
not-long true long vector fits = absurd (cc)
not-long false true vector fits = absurd (cc)
not-long false false vector fits = refl

-- a number that another is not below
at-most : (n m : ℕ) → nat_lt n m ≡ false → m ≤ n
at-most n m same = grind (arith)

-- the length of a list behind its padding
length-padded : (image : List ℕ) (room : ℕ) → length image ≤ room → length (image ++ replicate (room - length image) 0xFF) ≡ room
length-padded image room short = omega (arith, short, length-append image (replicate (room - length image) 0xFF), length-replicate {A = ℕ} (room - length image) 0xFF)

-- an image that fits is padded to the size of RW
pub padded-size : (image : List ℕ) (size : ℕ) → fit_of image size ≡ Yes → length (padded image size) ≡ (rw_range size).size
padded-size image size fits =
    length-padded image (rw_range size).size
    (at-most (rw_range size).size (length image) (not-long (nat_lt (length image) 8) (nat_lt (rw_range size).size (length image)) (vector_in (rw_range size) (u32_at 4 image)) fits))

-- an image of the size of RW is not padded
pub padded-full : (image : List ℕ) (size : ℕ) → length image ≡ (rw_range size).size → padded image size ≡ image
padded-full image size same =
    let none : (rw_range size).size - length image ≡ 0 = omega (arith, same) in
    ap (λ (n : ℕ). image ++ replicate n 0xFF) none ∙ append-nil image

-- a digest has 32 bytes
length-sha256 : (message : List ℕ) → length (sha256 message) ≡ 32
unfolding sha256 digest_bytes
length-sha256 message = refl

-- the expected digest has 32 bytes
pub expected-size : (image : List ℕ) (size : ℕ) → length (expected image size) ≡ 32
expected-size image size = length-sha256 (padded image size)

-- RW has the expected digest where it holds the image
pub expected-held : (table : Table) (image : List ℕ) → HoldsImage table image → sha256 (part (rw_range (length table.flash)) table.flash) ≡ expected image (length table.flash)
expected-held table image holds = ap (λ (bytes : List ℕ). sha256 bytes) holds.same

-- the last tick of a hash of RW with no nonce shows it
pub expected-shown : (core : Core) (image : List ℕ) → core.nonce ≡ [] → part (rw_range (length core.flash)) core.flash ≡ padded image (length core.flash) →
    (hash_ticked (Busy (rw_range (length core.flash)).at (rw_range (length core.flash)).size 1) core).live.hash ≡ Done (rw_range (length core.flash)).at (rw_range (length core.flash)).size (expected image (length core.flash))
expected-shown core image bare same =
    ap (λ (bytes : List ℕ). Done (rw_range (length core.flash)).at (rw_range (length core.flash)).size (sha256 bytes))
    (ap (λ (nonce : List ℕ). nonce ++ part (rw_range (length core.flash)) core.flash) bare ∙ same)
