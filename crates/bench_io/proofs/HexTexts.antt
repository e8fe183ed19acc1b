-- Hexadecimal texts that grow at their end.
use Rattle.std.proofs.Common.{◌≡◌, sym, ap, ◌∙◌, refl, ℕ, ◌+◌, ◌/◌, ◌%◌, ◌<◌, List, [], ◌∷◌, ◌++◌, length, take, get_or}
use Rattle.std.specs.Prelude.{slice_index}
use Rattle.std.proofs.lemmas.List.{take_more, append_assoc, append-nil}
use Rattle.hex.specs.Hex.{encode_lower, encode_with, lower_digits}

-- the text of bytes, and of others behind them
encode-append : (digits front back : List ℕ) → encode_with digits (front ++ back) ≡ encode_with digits front ++ encode_with digits back
unfolding encode_with
encode-append digits [] back = refl
encode-append digits (byte ∷ front) back =
    ap (λ (rest : List ℕ). slice_index digits (byte / 16) ∷ slice_index digits (byte % 16) ∷ rest) (encode-append digits front back)

-- one byte more
pub encode-push : (bytes : List ℕ) (byte : ℕ) → encode_lower (bytes ++ byte ∷ []) ≡ encode_lower bytes ++ encode_lower (byte ∷ [])
encode-push bytes byte = encode-append lower_digits bytes (byte ∷ [])

-- the next byte behind the first ones, which stand behind a text
pub encode-more : (text bytes : List ℕ) (place : ℕ) → place < length bytes →
    (text ++ encode_lower (take place bytes)) ++ encode_lower (get_or bytes place 0 ∷ []) ≡ text ++ encode_lower (take (place + 1) bytes)
encode-more text bytes place inside =
    append_assoc text (encode_lower (take place bytes)) (encode_lower (get_or bytes place 0 ∷ []))
    ∙ ap (λ (rest : List ℕ). text ++ rest) (sym (ap encode_lower (take_more bytes place 0 inside) ∙ encode-push (take place bytes) (get_or bytes place 0)))

-- no byte yet
pub encode-none : (text : List ℕ) → text ≡ text ++ encode_lower []
unfolding encode_with
encode-none text = sym (append-nil text)
