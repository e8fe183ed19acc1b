-- What is read as a request begins with its spelling.
use Rattle.std.proofs.Common.{◌≡◌, refl, sym, subst, ℕ, suc, ◌+◌, ◌*◌, ◌/◌, ◌%◌, ◌<◌, ◌≤◌, Bool, false, not, ◌||◌, ◌==◌, nat_lt, List, [], ◌∷◌, ◌++◌, length, take, drop, take-append-drop, Result, Ok, Err, arith}
use Rattle.std.specs.Prelude.{sum}
use Rattle.std.proofs.lemmas.List.{length-take}
use Rattle.ec_types.specs.LittleEndian.{AreBytes}
use Rattle.ec_model.specs.Packet.{RequestView, request_packet, framing, checksum_of}
use Rattle.ec_packet.specs.Read.{request_of}
use Rattle.ec_packet.proofs.Sums.{only_checksum, passes, equal_of, both_of}

abbrev refusal : ℕ → Result RequestView ℕ
refusal status = Err status

abbrev given : RequestView → Result RequestView ℕ
given view = Ok view

not-given : (status : ℕ) (view : RequestView) (test : Bool) → refusal status ≡ given view → test ≡ false
not-given status view test same = absurd cc

same-view : (a b : RequestView) → given a ≡ given b → a ≡ b
same-view a b same = cc

eight : (n : ℕ) → 8 + n ≡ suc (suc (suc (suc (suc (suc (suc (suc n)))))))
eight n = omega arith

-- the list begins with the spelling of the request
abbrev pub Begins : List ℕ → RequestView → Type 0
Begins bytes view = (rest : List ℕ) × (bytes ≡ request_packet view.command view.version view.body ++ rest)

sealed : (x0 x1 x2 x3 x4 x5 x6 x7 c0 c1 l0 l1 : ℕ) (body rest tail : List ℕ) → x0 ≡ 3 → x5 ≡ 0 → c0 ≡ x2 → c1 ≡ x3 → l0 ≡ x6 → l1 ≡ x7 → tail ≡ body ++ rest →
    checksum_of (x0 ∷ x2 ∷ x3 ∷ x4 ∷ x5 ∷ x6 ∷ x7 ∷ body) ≡ x1 →
    x0 ∷ x1 ∷ x2 ∷ x3 ∷ x4 ∷ x5 ∷ x6 ∷ x7 ∷ tail ≡ (3 ∷ checksum_of (3 ∷ c0 ∷ c1 ∷ x4 ∷ 0 ∷ l0 ∷ l1 ∷ body) ∷ c0 ∷ c1 ∷ x4 ∷ 0 ∷ l0 ∷ l1 ∷ body) ++ rest
sealed x0 x1 x2 x3 x4 x5 x6 x7 c0 c1 l0 l1 body rest tail e0 e5 f0 f1 f2 f3 parts check = rw (← check, f0, f1, f2, f3, e0, e5, parts) refl

zero_of : (n : ℕ) → not (n % 256 == 0) ≡ false → n % 256 ≡ 0
zero_of n same = equal_of _ 0 same

-- eight bytes and what follows them
begins_of : (x0 x1 x2 x3 x4 x5 x6 x7 : ℕ) (tail : List ℕ) (view : RequestView) → AreBytes (x0 ∷ x1 ∷ x2 ∷ x3 ∷ x4 ∷ x5 ∷ x6 ∷ x7 ∷ tail) →
    framing (x0 ∷ x1 ∷ x2 ∷ x3 ∷ x4 ∷ x5 ∷ x6 ∷ x7 ∷ tail) ≡ given view → Begins (x0 ∷ x1 ∷ x2 ∷ x3 ∷ x4 ∷ x5 ∷ x6 ∷ x7 ∷ tail) view
begins_of x0 x1 x2 x3 x4 x5 x6 x7 tail view fits read =
    let bytes = x0 ∷ x1 ∷ x2 ∷ x3 ∷ x4 ∷ x5 ∷ x6 ∷ x7 ∷ tail in
    let n = x6 + 256 * (x7 + 256 * 0) in
    let one = passes (nat_lt (length bytes) 8) (refusal 13) _ (given view) (not-given 13 view _) read in
    let two = passes (not (x0 == 3) || not (x5 == 0)) (refusal 12) _ (given view) (not-given 12 view _) one.1 in
    let three = passes (nat_lt (length bytes) (8 + n)) (refusal 13) _ (given view) (not-given 13 view _) two.1 in
    let four = passes (not (sum (take (8 + n) bytes) % 256 == 0)) (refusal 7) _ (given view) (not-given 7 view _) three.1 in
    let tests = both_of (not (x0 == 3)) (not (x5 == 0)) two.0 in
    let e0 : x0 ≡ 3 = equal_of x0 3 tests.0 in
    let e5 : x5 ≡ 0 = equal_of x5 0 tests.1 in
    let long : n ≤ length tail = long_of (length tail) n three.0 in
    let zero : sum (x0 ∷ x1 ∷ x2 ∷ x3 ∷ x4 ∷ x5 ∷ x6 ∷ x7 ∷ take n tail) % 256 ≡ 0 = rw (eight n) at (zero_of (sum (take (8 + n) bytes)) four.0) in
    let b1 : x1 < 256 = fits 1 in
    let b2 : x2 < 256 = fits 2 in
    let b3 : x3 < 256 = fits 3 in
    let b6 : x6 < 256 = fits 6 in
    let b7 : x7 < 256 = fits 7 in
    let size : length (take n tail) ≡ n = omega (arith, length-take n tail) in
    let c0 : (x2 + 256 * (x3 + 256 * 0)) % 256 ≡ x2 = omega arith in
    let c1 : (x2 + 256 * (x3 + 256 * 0)) / 256 % 256 ≡ x3 = omega arith in
    let l0 : length (take n tail) % 256 ≡ x6 = omega arith in
    let l1 : length (take n tail) / 256 % 256 ≡ x7 = omega arith in
    let check : checksum_of (x0 ∷ x2 ∷ x3 ∷ x4 ∷ x5 ∷ x6 ∷ x7 ∷ take n tail) ≡ x1 = only_checksum x0 x1 (x2 ∷ x3 ∷ x4 ∷ x5 ∷ x6 ∷ x7 ∷ take n tail) b1 zero in
    subst (Begins bytes) (same-view (request_of (x2 + 256 * (x3 + 256 * 0)) x4 (take n tail)) view four.1)
    (drop n tail, sealed x0 x1 x2 x3 x4 x5 x6 x7 _ _ _ _ (take n tail) (drop n tail) tail e0 e5 c0 c1 l0 l1 (sym (take-append-drop n tail)) check) where
      long_of : (m n : ℕ) → nat_lt (suc (suc (suc (suc (suc (suc (suc (suc m)))))))) (8 + n) ≡ false → n ≤ m
      long_of m n same = grind (arith)

-- what is read stands at the front, spelled
pub request-begins : (bytes : List ℕ) (view : RequestView) → AreBytes bytes → framing bytes ≡ given view → Begins bytes view
request-begins [] view fits read = absurd cc
request-begins (x0 ∷ []) view fits read = absurd cc
request-begins (x0 ∷ x1 ∷ []) view fits read = absurd cc
request-begins (x0 ∷ x1 ∷ x2 ∷ []) view fits read = absurd cc
request-begins (x0 ∷ x1 ∷ x2 ∷ x3 ∷ []) view fits read = absurd cc
request-begins (x0 ∷ x1 ∷ x2 ∷ x3 ∷ x4 ∷ []) view fits read = absurd cc
request-begins (x0 ∷ x1 ∷ x2 ∷ x3 ∷ x4 ∷ x5 ∷ []) view fits read = absurd cc
request-begins (x0 ∷ x1 ∷ x2 ∷ x3 ∷ x4 ∷ x5 ∷ x6 ∷ []) view fits read = absurd cc
request-begins (x0 ∷ x1 ∷ x2 ∷ x3 ∷ x4 ∷ x5 ∷ x6 ∷ x7 ∷ tail) view fits read = begins_of x0 x1 x2 x3 x4 x5 x6 x7 tail view fits read
