-- What stands behind the first word of a line: how many words, and what each of them is, read from the left up to the
-- first fault.
use Rattle.std.specs.Prelude.{ℕ, List, [], ◌∷◌, Result, Ok, Err, nat_le, if◌then◌else◌}
use Rattle.std.specs.Option.{ok_or}
use Rattle.ec_types.specs.declared.why.Why.{Why}
use Rattle.ec_types.specs.declared.why.Why.TheVariants.{Count, Number, Hex}
use Rattle.script_words.specs.Numbers.{number_of}
use Rattle.script_words.specs.Hexes.{hex_of}

-- the second step, where the first one met no fault
infixl 10 ◌>>=◌
abbrev pub ◌>>=◌ : {A B : Type 0} → Result A Why → (A → Result B Why) → Result B Why
Ok value >>= next = next value
Err why >>= next = Err why

-- a word that is a number, at most so large
abbrev pub number_to : ℕ → List ℕ → Result ℕ Why
number_to most word = ok_or (number_of word) Number >>= λ number. if nat_le number most then Ok number else Err Number

-- the same, of at least one
abbrev pub count_to : ℕ → List ℕ → Result ℕ Why
count_to most word = number_to most word >>= λ number. if nat_le 1 number then Ok number else Err Number

-- a word that spells bytes, at most so many
abbrev pub hex_to : ℕ → List ℕ → Result (List ℕ) Why
hex_to limit word = ok_or (hex_of limit word) Hex

-- no word
abbrev pub no_words : List (List ℕ) → Result (Unit {0}) Why
no_words [] = Ok tt
no_words _ = Err Count

-- one word
abbrev pub one_word : List (List ℕ) → Result (List ℕ) Why
one_word (a ∷ []) = Ok a
one_word _ = Err Count

-- two words
abbrev pub two_words : List (List ℕ) → Result (List ℕ × List ℕ) Why
two_words (a ∷ b ∷ []) = Ok (a, b)
two_words _ = Err Count

-- three words
abbrev pub three_words : List (List ℕ) → Result (List ℕ × List ℕ × List ℕ) Why
three_words [] = Err Count
three_words (a ∷ words) = two_words words >>= λ others. Ok (a, others.0, others.1)

-- a first word that stands alone
abbrev pub alone : {T : Type 0} → T → List (List ℕ) → Result T Why
alone value words = no_words words >>= λ _. Ok value

-- a first word with one behind it
abbrev pub with_one : {A T : Type 0} → (List ℕ → Result A Why) → (A → T) → List (List ℕ) → Result T Why
with_one read value words = one_word words >>= λ word. read word >>= λ a. Ok (value a)

-- a first word with two behind it
abbrev pub with_two : {A B T : Type 0} → (List ℕ → Result A Why) → (List ℕ → Result B Why) → (A → B → T) → List (List ℕ) → Result T Why
with_two read_first read_second value words =
    two_words words >>= λ pair. read_first pair.0 >>= λ a. read_second pair.1 >>= λ b. Ok (value a b)

-- a first word with three behind it
abbrev pub with_three : {A B C T : Type 0} → (List ℕ → Result A Why) → (List ℕ → Result B Why) → (List ℕ → Result C Why) → (A → B → C → T) → List (List ℕ) → Result T Why
with_three read_first read_second read_third value words =
    three_words words >>= λ all. read_first all.0 >>= λ a. read_second all.1 >>= λ b. read_third all.2 >>= λ c. Ok (value a b c)
