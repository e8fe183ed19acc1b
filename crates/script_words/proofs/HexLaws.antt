-- Words of digits, and parts of them.
use Rattle.std.proofs.Common.{◌≡◌, ℕ, zero, suc, ◌+◌, ◌*◌, ◌/◌, ◌%◌, ◌≤◌, Bool, true, false, ◌&&◌, nat_le, is_some, if◌then◌else◌, List, [], ◌∷◌, length, take, drop, Option, Some, None, Result, Ok, Err, refl, sym, ap, ◌∙◌, arith, length-drop}
use Rattle.std.proofs.lemmas.List.{length-take}
use Rattle.std.proofs.lemmas.List.Sums.{AllPass-from_list_all, list_all-from_AllPass}
use Rattle.std.specs.Prelude.{MatchResult}
use Rattle.std.specs.List.{list_all}
use Rattle.std.specs.Char.{is_ascii_hexdigit}
use Rattle.std.proofs.lemmas.Bool.{leb-true}
use Rattle.std.specs.Result.{result_ok, result_unwrap_or}
use Rattle.hex.specs.Hex.{decode_of, decode_pairs, decode_sized, hex_digit_value, is_hex_digit, pair_value, value_at, digit_or_error, ◌>>=◌}
use Rattle.hex.specs.declared.error.FromHexError.{FromHexError}
use Rattle.hex.proofs.HexLemmas.{decode_of-digits, decode_of-even, decode_of-odd, decode_of-ok, decode_sized-twice}
use Rattle.hex.proofs.Pairs.{cons_byte, decode_pairs-ok_pair}
use Rattle.script_words.specs.Hexes.{hex_of, spelled, IsSpelling}

-- what a step that succeeded gives to the next
bind_ok : {A B : Type 0} (r : Result A FromHexError) (f : A → Result B FromHexError) (y : B) → (r >>= f) ≡ Ok y → (x : A) × (r ≡ Ok x) × (f x ≡ Ok y)
bind_ok (Ok x) f y h = (x, refl, h)
bind_ok (Err e) f y h = cc h

-- a digit that was read is read at each place
digit_moved : (c i j : ℕ) (o : Option ℕ) (v : ℕ) → digit_or_error c i o ≡ Ok v → digit_or_error c j o ≡ Ok v
digit_moved c i j (Some w) v h = h
digit_moved c i j None v h = cc h

-- two digits that were read are read at each place
pair_moved : (a b i j v : ℕ) → pair_value a b i ≡ Ok v → pair_value a b j ≡ Ok v
pair_moved a b i j v h =
    let high = bind_ok (value_at a i) _ v h in
    let low = bind_ok (value_at b (i + 1)) _ v high.2 in
    rw (digit_moved a i j (hex_digit_value a) high.0 high.1, digit_moved b (i + 1) (j + 1) (hex_digit_value b) low.0 low.1) low.2

-- the bytes of digits, wherever they stand: two digits are one byte
data Spells : List ℕ → List ℕ → Type 0 where
  Nothing : Spells [] []
  Pair : (a b byte : ℕ) (rest bytes : List ℕ) → ((j : ℕ) → pair_value a b j ≡ Ok byte) → Spells rest bytes → Spells (a ∷ b ∷ rest) (byte ∷ bytes)

-- what was decoded is spelled
spells : (i : ℕ) (digits bytes : List ℕ) → decode_pairs i digits ≡ Ok bytes → Spells digits bytes
unfolding decode_pairs
spells i [] bytes h =
    let same : [] ≡ bytes = ap (λ (r : Result (List ℕ) FromHexError). result_unwrap_or r []) h in
    rw (← same) Nothing
spells i (a ∷ []) bytes h = cc h
spells i (a ∷ b ∷ rest) bytes h =
    let pair = bind_ok (pair_value a b i) _ bytes h in
    let others = bind_ok (decode_pairs (i + 2) rest) _ bytes pair.2 in
    let same : pair.0 ∷ others.0 ≡ bytes = ap (λ (r : Result (List ℕ) FromHexError). result_unwrap_or r []) others.2 in
    rw (← same) (Pair a b pair.0 rest others.0 (λ j. pair_moved a b i j pair.0 pair.1) (spells (i + 2) rest others.0 others.1))

-- what is spelled is decoded
decodes : (i : ℕ) (digits bytes : List ℕ) → Spells digits bytes → decode_pairs i digits ≡ Ok bytes
unfolding decode_pairs
decodes i digits bytes Nothing = refl
decodes i digits bytes (Pair a b byte rest others first behind) =
    decode_pairs-ok_pair i a b byte rest (first i) ∙ ap (cons_byte byte) (decodes (i + 2) rest others behind)

-- twice a number, step by step
abbrev twice : ℕ → ℕ
twice zero = zero
twice (suc n) = suc (suc (twice n))

twice_is : (n : ℕ) → twice n ≡ 2 * n
twice_is zero = refl
twice_is (suc n) = let e = twice_is n in omega (arith, e)

-- bytes are left out by their digits
spells-drop : (n : ℕ) (digits bytes : List ℕ) → Spells digits bytes → Spells (drop (twice n) digits) (drop n bytes)
spells-drop zero digits bytes h = h
spells-drop (suc n) digits bytes Nothing = Nothing
spells-drop (suc n) digits bytes (Pair a b byte rest others first behind) = spells-drop n rest others behind

-- bytes are taken by their digits
spells-take : (n : ℕ) (digits bytes : List ℕ) → Spells digits bytes → Spells (take (twice n) digits) (take n bytes)
spells-take zero digits bytes h = Nothing
spells-take (suc n) digits bytes Nothing = Nothing
spells-take (suc n) digits bytes (Pair a b byte rest others first behind) =
    Pair a b byte (take (twice n) rest) (take n others) first (spells-take n rest others behind)

-- how many bytes digits spell
pub spelled-length : (digits : List ℕ) → IsSpelling digits → length digits ≡ 2 * length (spelled digits)
spelled-length digits h = (decode_of-ok digits (spelled digits) h).2

-- a part of the bytes is spelled by its digits
pub part_decoded : (digits : List ℕ) (from count : ℕ) → IsSpelling digits → from + count ≤ length (spelled digits)
    → decode_sized (take (2 * count) (drop (2 * from) digits)) count ≡ Ok (take count (drop from (spelled digits)))
part_decoded digits from count h within =
    let sized = spelled-length digits h in
    let even : length digits % 2 ≡ 0 = omega (arith, sized) in
    let whole = spells 0 digits (spelled digits) (sym (decode_of-even digits even) ∙ h) in
    let part = spells-take count _ _ (spells-drop from digits (spelled digits) whole) in
    let here = decodes 0 (take (2 * count) (drop (2 * from) digits)) (take count (drop from (spelled digits))) (rw (← twice_is count, ← twice_is from) part) in
    let len : length (take (2 * count) (drop (2 * from) digits)) ≡ 2 * count = omega (arith, length-take (2 * count) (drop (2 * from) digits), length-drop (2 * from) digits, sized, within) in
    decode_sized-twice (take (2 * count) (drop (2 * from) digits)) count len ∙ decode_of-even (take (2 * count) (drop (2 * from) digits)) (omega (arith, len)) ∙ here

-- what does not decode gives nothing
not_ok : (r : Result (List ℕ) FromHexError) → ((bytes : List ℕ) → r ≡ Ok bytes → ⊥) → result_ok r ≡ None
not_ok (Ok bytes) never = absurd (never bytes refl)
not_ok (Err e) never = refl

-- what a slice's decoding answers
pub written : (d : Result (List ℕ) FromHexError) (bytes out : List ℕ) (r : Result (Unit {0}) FromHexError) → d ≡ Ok bytes → MatchResult d (λ read. (r ≡ Ok tt) × (out ≡ read)) (λ e. r ≡ Err e) → (r ≡ Ok tt) × (out ≡ bytes)
written d bytes out r is h = rw is at h

-- a test that a byte is a digit is the one of these names
pub same_digit : (c : ℕ) → is_ascii_hexdigit c ≡ is_hex_digit c
same_digit c = grind (arith)

-- where each byte passes the test, each is a digit
all_digits : (word : List ℕ) → list_all is_ascii_hexdigit word ≡ list_all is_hex_digit word
all_digits [] = refl
all_digits (c ∷ word) = rw (same_digit c, all_digits word) refl

-- an odd number of digits decodes to nothing
pub odd_fails : (word : List ℕ) → length word % 2 ≡ 1 → false ≡ is_some (result_ok (decode_of word))
odd_fails word odd = rw (decode_of-odd word odd) refl

-- an even number of bytes decodes where each is a digit
pub pairs_decode : (word : List ℕ) → length word % 2 ≡ 0 → list_all is_ascii_hexdigit word ≡ is_some (result_ok (decode_of word))
pairs_decode word even = all_digits word ∙ tested (list_all is_hex_digit word) refl where
  tested : (b : Bool) → list_all is_hex_digit word ≡ b → b ≡ is_some (result_ok (decode_of word))
  tested true all = let read = decode_of-digits word even (AllPass-from_list_all is_hex_digit word all) in rw read.1 refl
  tested false other =
      let none = not_ok (decode_of word) (λ bytes h. cc (sym other ∙ list_all-from_AllPass is_hex_digit word (decode_of-ok word bytes h).1)) in
      rw none refl

-- what a word spells that spells bytes
pub record Spelling (limit : ℕ) (word : List ℕ) : Type 0 where
  pub is_spelling : IsSpelling word
  pub same : Some (spelled word) ≡ hex_of limit word
  pub least : 1 ≤ length (spelled word)
  pub most : length (spelled word) ≤ limit

-- where the test passed
pub spelled_so : (limit : ℕ) (word : List ℕ) → is_some (hex_of limit word) ≡ true → Spelling limit word
spelled_so limit word some = tested (nat_le 1 (length word / 2)) (nat_le (length word / 2) limit) (decode_of word) refl refl refl some where
  tested : (a b : Bool) (r : Result (List ℕ) FromHexError) → nat_le 1 (length word / 2) ≡ a → nat_le (length word / 2) limit ≡ b → decode_of word ≡ r → is_some (if a && b then result_ok r else None) ≡ true → Spelling limit word
  tested true true (Ok bytes) least most read h =
      let is : IsSpelling word = rw read refl in
      let twice = spelled-length word is in
      let one = leb-true 1 (length word / 2) least in
      let few = leb-true (length word / 2) limit most in
      record {
        is_spelling = is;
        same = rw (least, most, read) refl;
        least = omega (arith, twice, one);
        most = omega (arith, twice, few);
      }
  tested true true (Err e) least most read h = cc h
  tested true false r least most read h = cc h
  tested false b r least most read h = cc h

-- where it did not
pub none_spelled : (o : Option (List ℕ)) → is_some o ≡ false → None ≡ o
none_spelled None none = refl
none_spelled (Some bytes) none = cc none
