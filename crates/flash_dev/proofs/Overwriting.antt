-- A range that holds other bytes.
use Rattle.std.proofs.Common.{◌≡◌, ℕ, ◌+◌, ◌≤◌, List, ◌++◌, length, take, drop, replicate, refl, sym, ap, ◌∙◌, arith, length-append, length-drop, append_assoc}
use Rattle.std.proofs.lemmas.List.{length-take, length-replicate, drop-drop}
use Rattle.std.proofs.Math.Seq.{take-append_seam, drop-append_seam}
use borrow.Rule.Slice.PartMut.{put_mid}
use Rattle.flash_dev.specs.Flash.{overwritten, Torn}

-- as long as before
length-overwritten : (at : ℕ) (bytes flash : List ℕ) → at + length bytes ≤ length flash → length (overwritten at bytes flash) ≡ length flash
length-overwritten at bytes flash inside =
    omega (arith, inside, length-append (take at flash ++ bytes) (drop (at + length bytes) flash), length-append (take at flash) bytes, length-take at flash, length-drop (at + length bytes) flash)

-- the bytes before the range are kept
take-overwritten : (at : ℕ) (bytes flash : List ℕ) → at ≤ length flash → take at (overwritten at bytes flash) ≡ take at flash
take-overwritten at bytes flash inside =
    let e : length (take at flash) ≡ at = omega (arith, inside, length-take at flash) in
    let rest = bytes ++ drop (at + length bytes) flash in
    ap (take at) (append_assoc (take at flash) bytes (drop (at + length bytes) flash))
    ∙ ap (λ (n : ℕ). take n (take at flash ++ rest)) (sym e)
    ∙ take-append_seam (take at flash) rest

-- the bytes behind the range are kept
drop-overwritten : (at : ℕ) (bytes flash : List ℕ) → at ≤ length flash → drop (at + length bytes) (overwritten at bytes flash) ≡ drop (at + length bytes) flash
drop-overwritten at bytes flash inside =
    let e : length (take at flash ++ bytes) ≡ at + length bytes = omega (arith, inside, length-append (take at flash) bytes, length-take at flash) in
    ap (λ (n : ℕ). drop n (overwritten at bytes flash)) (sym e) ∙ drop-append_seam (take at flash ++ bytes) (drop (at + length bytes) flash)

-- nothing was changed
pub torn-same : (at size : ℕ) (flash : List ℕ) → Torn at size flash flash
torn-same at size flash = record { same_length = refl; before = refl; after = refl }

-- just the range was changed
pub torn-overwritten : (at size : ℕ) (bytes flash : List ℕ) → length bytes ≡ size → at + size ≤ length flash → Torn at size flash (overwritten at bytes flash)
torn-overwritten at size bytes flash e inside = record {
  same_length = length-overwritten at bytes flash (omega (arith, e, inside));
  before = take-overwritten at bytes flash (omega (arith, inside));
  after = rw (← e) (drop-overwritten at bytes flash (omega (arith, inside)));
}

-- what a write to a part of a slice makes
pub put_mid-overwritten : (at size : ℕ) (held bytes : List ℕ) → length bytes ≡ size → put_mid at size held bytes ≡ overwritten at bytes held
put_mid-overwritten at size held bytes e =
    ap (λ (rest : List ℕ). take at held ++ (bytes ++ rest)) (drop-drop size at held ∙ ap (λ (n : ℕ). drop (at + n) held) (sym e))
    ∙ sym (append_assoc (take at held) bytes (drop (at + length bytes) held))

-- what filling a part of a slice makes, for any length, so that no numeral unfolds
pub put_mid-filled : (at size size' count value : ℕ) (held bytes : List ℕ) → bytes ≡ replicate size' value → size' ≡ count → size ≡ count → put_mid at size held bytes ≡ overwritten at (replicate count value) held
put_mid-filled at size size' count value held bytes filled e f =
    let same : bytes ≡ replicate count value = filled ∙ ap (λ (n : ℕ). replicate n value) e in
    put_mid-overwritten at size held bytes (omega (arith, ap length same, length-replicate count value, f)) ∙ ap (λ (xs : List ℕ). overwritten at xs held) same

-- a write to a part of a slice changes just that part
pub torn-put_mid : (at size size' : ℕ) (held bytes : List ℕ) → length bytes ≡ size → size' ≡ size → at + size ≤ length held → Torn at size held (put_mid at size' held bytes)
torn-put_mid at size size' held bytes e f inside = rw (put_mid-overwritten at size' held bytes (omega (arith, e, f))) (torn-overwritten at size bytes held e inside)
