-- A response's spelling is one, and its first bytes name the rest.
use Rattle.std.proofs.Common.{◌≡◌, refl, sym, ap, ◌∙◌, subst, ℕ, ◌+◌, ◌-◌, ◌%◌, ◌<◌, ◌≤◌, Bool, true, false, ◌&&◌, ◌==◌, nat_lt, nat_le, if◌then◌else◌, List, ◌∷◌, ◌++◌, length, take, drop, sum, get_or, arith}
use Rattle.std.proofs.lemmas.List.{take_at, get_or-take, get_or-drop}
use Rattle.std.proofs.lemmas.List.Sums.{sum_by-cons}
use Rattle.std.proofs.lemmas.Bool.Decides.{leb_tells, eqb_tells}
use Rattle.ec_model.specs.Packet.{response_packet, response_fields, response_length, is_response, sums_to_zero, checksum_of}
use Rattle.ec_model.specs.Bus.{low_status}
use Rattle.ec_model.specs.Heard.{Reply, is_all_read, reads_on, heard_with}
use Rattle.exchange_laws.proofs.Framed.{enough}

-- a response is its header and its body
pub length-response : (status : ℕ) (body : List ℕ) → length (response_packet status body) ≡ 8 + length body
length-response status body = omega arith

-- the header names the body's length
pub response-named : (status : ℕ) (body : List ℕ) → length body < 65536 → response_length (response_packet status body) ≡ length body
response-named status body short = omega (arith, short)

-- a checksum makes the sum 0 modulo 256
numbers : (first rest both check total : ℕ) → both ≡ first + rest → check ≡ (256 - both % 256) % 256 → total ≡ first + (check + rest) → total % 256 ≡ 0
numbers first rest both check total both_is check_is total_is = omega arith

-- the same of a list with its checksum behind the first byte
pub sums : (first : ℕ) (rest : List ℕ) → sum (first ∷ checksum_of (first ∷ rest) ∷ rest) % 256 ≡ 0
sums first rest =
    let check = checksum_of (first ∷ rest) in
    numbers first (sum rest) (sum (first ∷ rest)) check (sum (first ∷ check ∷ rest)) (sum_by-cons (λ x. x) first rest) refl
    (sum_by-cons (λ x. x) first (check ∷ rest) ∙ ap (λ (n : ℕ). first + n) (sum_by-cons (λ x. x) check rest))

-- two equal numbers
pub eq-true : (a b : ℕ) → a ≡ b → (a == b) ≡ true
eq-true a b same = grind (arith, eqb_tells)

-- the bytes of a response have the sum 0 modulo 256
pub response-sums : (status : ℕ) (body : List ℕ) → sums_to_zero (response_packet status body) ≡ true
response-sums status body = eq-true _ 0 (sums 3 (response_fields status body ++ body))

-- the spelling of a response is a response
pub response-is : (status : ℕ) (body : List ℕ) → length body < 65536 → is_response (response_packet status body) ≡ true
response-is status body short =
    let long : nat_lt (length (response_packet status body)) 8 ≡ false = enough _ _ (omega (arith, length-response status body)) in
    let size : (length (response_packet status body) == 8 + response_length (response_packet status body)) ≡ true = eq-true _ _ (length-response status body ∙ ap (λ (n : ℕ). 8 + n) (sym (response-named status body short))) in
    rw (long, size) (response-sums status body)

-- the first eight bytes name the length
pub named-take : (count : ℕ) (bytes : List ℕ) → 8 ≤ count → response_length (take count bytes) ≡ response_length bytes
named-take count bytes many =
    let low : get_or (drop 4 (take count bytes)) 0 0 ≡ get_or (drop 4 bytes) 0 0 = get_or-drop 4 (take count bytes) 0 0 ∙ get_or-take count bytes 4 0 (omega arith) ∙ sym (get_or-drop 4 bytes 0 0) in
    let high : get_or (drop 4 (take count bytes)) 1 0 ≡ get_or (drop 4 bytes) 1 0 = get_or-drop 4 (take count bytes) 1 0 ∙ get_or-take count bytes 5 0 (omega arith) ∙ sym (get_or-drop 4 bytes 1 0) in
    rw (low, high) refl

-- a response names its length whatever follows it
pub named-front : (status : ℕ) (body rest : List ℕ) → response_length (response_packet status body ++ rest) ≡ response_length (response_packet status body)
named-front status body rest = refl

-- the two parts of a test
and-parts : (a b : Bool) → (a && b) ≡ true → (a ≡ true) × (b ≡ true)
and-parts true b both = (refl, both)
and-parts false b both = (cc, cc)

-- what was read where the host reads on behind the header
pub whole_of : (on : Bool) (bytes : List ℕ) → on ≡ true → is_all_read on bytes ≡ true → length bytes ≡ 8 + response_length bytes
whole_of true bytes on all = let parts = and-parts (nat_le 8 (length bytes)) (length bytes == 8 + response_length bytes) all in eq-of (length bytes) (8 + response_length bytes) parts.1 where
  eq-of : (a b : ℕ) → (a == b) ≡ true → a ≡ b
  eq-of a b same = grind (arith, eqb_tells)
whole_of false bytes on all = cc

-- at least a header was read
pub many_of : (on : Bool) (bytes : List ℕ) → is_all_read on bytes ≡ true → 8 ≤ length bytes
many_of on bytes all = let parts = and-parts (nat_le 8 (length bytes)) (length bytes == (if on then 8 + response_length bytes else 8)) all in le-of (length bytes) parts.0 where
  le-of : (a : ℕ) → nat_le 8 a ≡ true → 8 ≤ a
  le-of a same = grind (arith, leb_tells)

-- a body for which the window has room
pub fits : (n : ℕ) → n ≤ 248 → nat_le n 248 ≡ true
fits n short = grind (arith, leb_tells)

-- bytes read from the front of a response, as many as its header names, are the response
pub read-whole : (limit status : ℕ) (body rest bytes : List ℕ) → length body ≤ 248 → bytes ≡ take (length bytes) (response_packet status body ++ rest) → is_all_read (reads_on 248 bytes) bytes ≡ true →
    (bytes ≡ response_packet status body) × (reads_on 248 bytes ≡ true)
read-whole limit status body rest bytes short front all =
    let many = many_of (reads_on 248 bytes) bytes all in
    let named : response_length bytes ≡ length body = ap (λ (xs : List ℕ). response_length xs) front ∙ named-take (length bytes) (response_packet status body ++ rest) many ∙ named-front status body rest ∙ response-named status body (omega (arith, short)) in
    let on : reads_on 248 bytes ≡ true = fits (response_length bytes) (subst (λ (n : ℕ). n ≤ 248) (sym named) short) in
    let size : length bytes ≡ length (response_packet status body) = whole_of (reads_on 248 bytes) bytes on all ∙ ap (λ (n : ℕ). 8 + n) named ∙ sym (length-response status body) in
    (front ∙ take_at (response_packet status body) rest (length bytes) (sym size), on)

-- a response behind its own result byte is heard
pub heard-response : (status : ℕ) (body : List ℕ) → length body < 65536 → heard_with (low_status (response_packet status body)) (response_packet status body) ≡ Reply (response_packet status body)
heard-response status body short =
    let same : (low_status (response_packet status body) == low_status (response_packet status body)) ≡ true = eq-true _ _ refl in
    rw (same, response-is status body short) refl
