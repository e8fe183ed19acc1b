-- What is a response is spelled as one.
use Rattle.std.proofs.Common.{◌≡◌, refl, ap, ℕ, ◌+◌, ◌*◌, ◌/◌, ◌%◌, ◌<◌, Bool, true, false, not, ◌==◌, nat_lt, List, [], ◌∷◌, length, drop, None, arith}
use Rattle.std.specs.Prelude.{sum}
use Rattle.ec_types.specs.LittleEndian.{AreBytes, u16_at}
use Rattle.ec_model.specs.Packet.{response_packet, is_response, checksum_of}
use Rattle.ec_packet.specs.Read.{reply_fault}
use Rattle.ec_packet.proofs.Sums.{only_checksum, passes, equal_of}

no-response : false ≡ true → (test : Bool) → test ≡ false
no-response same test = absurd cc

-- eight bytes and a body
whole : (x0 x1 x2 x3 x4 x5 x6 x7 : ℕ) (body : List ℕ) → AreBytes (x0 ∷ x1 ∷ x2 ∷ x3 ∷ x4 ∷ x5 ∷ x6 ∷ x7 ∷ body) → is_response (x0 ∷ x1 ∷ x2 ∷ x3 ∷ x4 ∷ x5 ∷ x6 ∷ x7 ∷ body) ≡ true →
    x0 ∷ x1 ∷ x2 ∷ x3 ∷ x4 ∷ x5 ∷ x6 ∷ x7 ∷ body ≡ response_packet (u16_at 0 (x2 ∷ x3 ∷ [])) body
whole x0 x1 x2 x3 x4 x5 x6 x7 body fits is =
    let bytes = x0 ∷ x1 ∷ x2 ∷ x3 ∷ x4 ∷ x5 ∷ x6 ∷ x7 ∷ body in
    let one = passes (nat_lt (length bytes) 8) false _ true (λ same. no-response same _) is in
    let two = passes (not (x0 == 3)) false _ true (λ same. no-response same _) one.1 in
    let three = passes (not (u16_at 6 bytes == 0)) false _ true (λ same. no-response same _) two.1 in
    let four = passes (not (length bytes == 8 + u16_at 4 bytes)) false _ true (λ same. no-response same _) three.1 in
    let e0 : x0 ≡ 3 = equal_of x0 3 two.0 in
    let reserved : x6 + 256 * (x7 + 256 * 0) ≡ 0 = equal_of _ 0 three.0 in
    let size : length bytes ≡ 8 + (x4 + 256 * (x5 + 256 * 0)) = equal_of _ _ four.0 in
    let zero : sum bytes % 256 ≡ 0 = zero_of _ four.1 in
    let b1 : x1 < 256 = fits 1 in
    let b2 : x2 < 256 = fits 2 in
    let b3 : x3 < 256 = fits 3 in
    let b4 : x4 < 256 = fits 4 in
    let b5 : x5 < 256 = fits 5 in
    let e6 : x6 ≡ 0 = omega arith in
    let e7 : x7 ≡ 0 = omega arith in
    let s0 : (x2 + 256 * (x3 + 256 * 0)) % 256 ≡ x2 = omega arith in
    let s1 : (x2 + 256 * (x3 + 256 * 0)) / 256 % 256 ≡ x3 = omega arith in
    let l0 : length body % 256 ≡ x4 = omega arith in
    let l1 : length body / 256 % 256 ≡ x5 = omega arith in
    let check : checksum_of (x0 ∷ x2 ∷ x3 ∷ x4 ∷ x5 ∷ x6 ∷ x7 ∷ body) ≡ x1 = only_checksum x0 x1 (x2 ∷ x3 ∷ x4 ∷ x5 ∷ x6 ∷ x7 ∷ body) b1 zero in
    sealed x0 x1 x2 x3 x4 x5 x6 x7 _ _ _ _ body e0 e6 e7 s0 s1 l0 l1 check where
      zero_of : (n : ℕ) → (n % 256 == 0) ≡ true → n % 256 ≡ 0
      zero_of n same = equal_of _ 0 (ap (λ (b : Bool). not b) same)

      sealed : (x0 x1 x2 x3 x4 x5 x6 x7 s0 s1 l0 l1 : ℕ) (body : List ℕ) → x0 ≡ 3 → x6 ≡ 0 → x7 ≡ 0 → s0 ≡ x2 → s1 ≡ x3 → l0 ≡ x4 → l1 ≡ x5 →
          checksum_of (x0 ∷ x2 ∷ x3 ∷ x4 ∷ x5 ∷ x6 ∷ x7 ∷ body) ≡ x1 →
          x0 ∷ x1 ∷ x2 ∷ x3 ∷ x4 ∷ x5 ∷ x6 ∷ x7 ∷ body ≡ 3 ∷ checksum_of (3 ∷ s0 ∷ s1 ∷ l0 ∷ l1 ∷ 0 ∷ 0 ∷ body) ∷ s0 ∷ s1 ∷ l0 ∷ l1 ∷ 0 ∷ 0 ∷ body
      sealed x0 x1 x2 x3 x4 x5 x6 x7 s0 s1 l0 l1 body e0 e6 e7 f0 f1 f2 f3 check = rw (← check, f0, f1, f2, f3, e0, e6, e7) refl

-- where no test fails it is a response
pub response-whole : (bytes : List ℕ) → reply_fault bytes ≡ None → is_response bytes ≡ true
response-whole bytes none = grind arith

-- a response is its status and its body, spelled
pub response-spelled : (bytes : List ℕ) → AreBytes bytes → is_response bytes ≡ true → bytes ≡ response_packet (u16_at 2 bytes) (drop 8 bytes)
response-spelled [] fits is = absurd cc
response-spelled (x0 ∷ []) fits is = absurd cc
response-spelled (x0 ∷ x1 ∷ []) fits is = absurd cc
response-spelled (x0 ∷ x1 ∷ x2 ∷ []) fits is = absurd cc
response-spelled (x0 ∷ x1 ∷ x2 ∷ x3 ∷ []) fits is = absurd cc
response-spelled (x0 ∷ x1 ∷ x2 ∷ x3 ∷ x4 ∷ []) fits is = absurd cc
response-spelled (x0 ∷ x1 ∷ x2 ∷ x3 ∷ x4 ∷ x5 ∷ []) fits is = absurd cc
response-spelled (x0 ∷ x1 ∷ x2 ∷ x3 ∷ x4 ∷ x5 ∷ x6 ∷ []) fits is = absurd cc
response-spelled (x0 ∷ x1 ∷ x2 ∷ x3 ∷ x4 ∷ x5 ∷ x6 ∷ x7 ∷ body) fits is = whole x0 x1 x2 x3 x4 x5 x6 x7 body fits is
