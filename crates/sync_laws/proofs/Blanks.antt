-- Bytes that are written where the flash is blank.
use Rattle.std.proofs.Common.{◌≡◌, refl, sym, ap, ◌∙◌, subst, ℕ, zero, suc, ◌+◌, ◌-◌, ◌<◌, ◌==◌, true, List, [], ◌∷◌, ◌++◌, length, take, drop, replicate, slice_range, append_assoc, arith}
use Rattle.std.specs.Prelude.{bit_and}
use Rattle.std.proofs.lemmas.Bool.Decides.{eqb_tells}
use Rattle.std.proofs.lemmas.Grind.{numeral_and}
use Rattle.std.proofs.lemmas.List.{take_at, length-replicate, replicate-append-replicate}
use Rattle.std.proofs.Math.Seq.{take-append_seam, drop-append_seam, drop-append-add}
use Rattle.ec_types.specs.LittleEndian.{AreBytes}
use Rattle.flash_dev.specs.Flash.{and_bytes, overwritten, programmed}
use Rattle.ec_model.proofs.GuardSteps.{and_parts}
use Rattle.sync_rules.specs.Steps.{is_blank}

-- parts of bytes are bytes
pub bytes-drop : (count : ℕ) (bytes : List ℕ) → AreBytes bytes → AreBytes (drop count bytes)
bytes-drop zero bytes are = are
bytes-drop (suc count) [] are = are
bytes-drop (suc count) (x ∷ bytes) are = bytes-drop count bytes (λ place. are (suc place))

pub bytes-take : (count : ℕ) (bytes : List ℕ) → AreBytes bytes → AreBytes (take count bytes)
bytes-take zero bytes are place = omega arith
bytes-take (suc count) [] are place = omega arith
bytes-take (suc count) (x ∷ bytes) are zero = are 0
bytes-take (suc count) (x ∷ bytes) are (suc place) = bytes-take count bytes (λ n. are (suc n)) place

pub bytes-append : (first second : List ℕ) → AreBytes first → AreBytes second → AreBytes (first ++ second)
bytes-append [] second one two place = two place
bytes-append (x ∷ first) second one two zero = one 0
bytes-append (x ∷ first) second one two (suc place) = bytes-append first second (λ n. one (suc n)) two place

pub bytes-blank : (count : ℕ) → AreBytes (replicate count 0xFF)
bytes-blank zero place = omega arith
bytes-blank (suc count) zero = omega arith
bytes-blank (suc count) (suc place) = bytes-blank count place

-- a byte and 0xFF
byte-kept : (byte : ℕ) → byte < 256 → bit_and 0xFF byte ≡ byte
byte-kept byte low = numeral_and 254 byte refl ∙ omega (arith, low)

pub blank-and : (bytes : List ℕ) → AreBytes bytes → and_bytes (replicate (length bytes) 0xFF) bytes ≡ bytes
blank-and [] are = refl
blank-and (x ∷ bytes) are = ap (λ (y : ℕ). y ∷ and_bytes (replicate (length bytes) 0xFF) bytes) (byte-kept x (are 0)) ∙ ap (λ (ys : List ℕ). x ∷ ys) (blank-and bytes (λ place. are (suc place)))

-- bytes that are all blank
pub blank-is : (bytes : List ℕ) → is_blank bytes ≡ true → bytes ≡ replicate (length bytes) 0xFF
blank-is [] blank = refl
blank-is (x ∷ bytes) blank =
    let parts = and_parts (x == 0xFF) (is_blank bytes) blank in
    let first : x ≡ 0xFF = grind (arith, eqb_tells, parts.0) in
    ap (λ (y : ℕ). y ∷ bytes) first ∙ ap (λ (ys : List ℕ). 0xFF ∷ ys) (blank-is bytes parts.1)

-- bytes that are written behind others, where the flash is blank
program-behind : (before bytes rest : List ℕ) → AreBytes bytes → programmed (length before) bytes (before ++ (replicate (length bytes) 0xFF ++ rest)) ≡ before ++ (bytes ++ rest)
program-behind before bytes rest are =
    let count = length bytes in
    let blank = replicate {A = ℕ} count 0xFF in
    let whole = before ++ (blank ++ rest) in
    let some : length before + count - length before ≡ count = omega arith in
    let old : slice_range whole (length before) (length before + count) ≡ blank =
    ap (λ (xs : List ℕ). take (length before + count - length before) xs) (drop-append_seam before (blank ++ rest)) ∙ ap (λ (n : ℕ). take n (blank ++ rest)) some ∙ take_at blank rest count (length-replicate count 0xFF) in
    let made = ap (λ (xs : List ℕ). and_bytes xs bytes) old ∙ blank-and bytes are in
    let back : drop (length before + count) whole ≡ rest = drop-append-add before (blank ++ rest) count ∙ drop-blank count rest in
    ap (λ (xs : List ℕ). overwritten (length before) xs whole) made
    ∙ ap (λ (xs : List ℕ). xs ++ bytes ++ drop (length before + count) whole) (take-append_seam before (blank ++ rest))
    ∙ ap (λ (xs : List ℕ). before ++ bytes ++ xs) back
    ∙ append_assoc before bytes rest
  where
    drop-blank : (count : ℕ) (rest : List ℕ) → drop count (replicate count 0xFF ++ rest) ≡ rest
    drop-blank zero rest = refl
    drop-blank (suc count) rest = drop-blank count rest

-- the flash while RW is written: what is before RW, the bytes that are there, and blank ones
abbrev pub written_to : (front done : List ℕ) → ℕ → List ℕ
written_to front done rest = front ++ (done ++ replicate rest 0xFF)

split-blank : (front done : List ℕ) (count rest : ℕ) → written_to front done (count + rest) ≡ (front ++ done) ++ (replicate count 0xFF ++ replicate rest 0xFF)
split-blank front done count rest =
    ap (λ (xs : List ℕ). front ++ (done ++ xs)) (sym (replicate-append-replicate count rest 0xFF)) ∙ sym (append_assoc front done (replicate count 0xFF ++ replicate rest 0xFF))

join-bytes : (front done bytes behind : List ℕ) → (front ++ done) ++ (bytes ++ behind) ≡ front ++ ((done ++ bytes) ++ behind)
join-bytes front done bytes behind = append_assoc front done (bytes ++ behind) ∙ ap (λ (xs : List ℕ). front ++ xs) (sym (append_assoc done bytes behind))

-- the next bytes are written
pub program-more : (place : ℕ) (front done bytes : List ℕ) (rest : ℕ) → length (front ++ done) ≡ place → AreBytes bytes → programmed place bytes (written_to front done (length bytes + rest)) ≡ written_to front (done ++ bytes) rest
program-more place front done bytes rest at are =
    ap (λ (flash : List ℕ). programmed place bytes flash) (split-blank front done (length bytes) rest)
    ∙ subst (λ (n : ℕ). programmed n bytes ((front ++ done) ++ (replicate (length bytes) 0xFF ++ replicate rest 0xFF)) ≡ (front ++ done) ++ (bytes ++ replicate rest 0xFF)) at (program-behind (front ++ done) bytes (replicate rest 0xFF) are)
    ∙ join-bytes front done bytes (replicate rest 0xFF)

-- blank ones are there
pub blank-more : (front done bytes : List ℕ) (rest : ℕ) → is_blank bytes ≡ true → written_to front done (length bytes + rest) ≡ written_to front (done ++ bytes) rest
blank-more front done bytes rest blank =
    split-blank front done (length bytes) rest ∙ ap (λ (xs : List ℕ). (front ++ done) ++ (xs ++ replicate rest 0xFF)) (sym (blank-is bytes blank)) ∙ join-bytes front done bytes (replicate rest 0xFF)
