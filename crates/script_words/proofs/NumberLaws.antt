-- Reading digits from the left.
use Rattle.std.proofs.Common.{◌≡◌, ℕ, ◌+◌, ◌*◌, ◌^◌, ◌<◌, ◌≤◌, Bool, true, false, ◌&&◌, eqb, nat_lt, List, length, get_or, take, None, Some, refl, arith, ap}
use Rattle.std.proofs.lemmas.Bool.{le-ltb, lt-ltb, eqb-false}
use Rattle.std.proofs.lemmas.List.{take_all}
use Rattle.std.proofs.lemmas.List.Folds.{list_all_more}
use Rattle.std.proofs.lemmas.Str.Parse.{digits_value-take-le}
use Rattle.std.proofs.lemmas.Int.Digits.{digits_value_more}
use Rattle.std.specs.Char.{digit_value, is_digit}
use Rattle.std.specs.List.{list_all}
use Rattle.std.specs.Str.Parse.{digits_value}
use Rattle.script_words.specs.Numbers.{number_in}

-- a test after which none passes
last_false : (b : Bool) → (b && false) ≡ false
last_false true = refl
last_false false = refl

-- past the bound it stays past it, whatever digits follow
too_large : (base : ℕ) (digits : List ℕ) (i : ℕ) → 1 ≤ base → 2 ^ 32 ≤ digits_value base (take i digits) → number_in base digits ≡ None
too_large base digits i one large =
    let grows = digits_value-take-le base digits i one in
    let past : nat_lt (digits_value base digits) (2 ^ 32) ≡ false = le-ltb (digits_value base digits) (2 ^ 32) (omega arith) in
    rw (past, last_false) refl

-- a digit that makes the number too large
pub digit_too_large : (base : ℕ) (digits : List ℕ) (i number digit : ℕ) → 1 ≤ base → i < length digits → number ≡ digits_value base (take i digits) → digit ≡ digit_value (get_or digits i 0) → 2 ^ 32 ≤ number * base + digit → number_in base digits ≡ None
digit_too_large base digits i number digit one lt is reads large = too_large base digits (i + 1) one (rw (digits_value_more base digits i lt, ← is, ← reads) large)

-- one digit more
pub digit_read : (base : ℕ) (digits : List ℕ) (i number digit : ℕ) → i < length digits → number ≡ digits_value base (take i digits) → digit ≡ digit_value (get_or digits i 0) → number * base + digit ≡ digits_value base (take (i + 1) digits)
digit_read base digits i number digit lt is reads = rw (digits_value_more base digits i lt, ← is, ← reads) refl

-- one digit more is still one of the base
pub digit_tested : (base : ℕ) (digits : List ℕ) (i : ℕ) → i < length digits → list_all (λ c. is_digit c base) (take i digits) ≡ true → digit_value (get_or digits i 0) < base → list_all (λ c. is_digit c base) (take (i + 1) digits) ≡ true
digit_tested base digits i lt before below =
    let here : is_digit (get_or digits i 0) base ≡ true = lt-ltb (digit_value (get_or digits i 0)) base below in
    rw (list_all_more (λ c. is_digit c base) digits i 0 lt, before, here) refl

-- all digits are read
pub digits_read : (base : ℕ) (digits : List ℕ) (i number : ℕ) → eqb (length digits) 0 ≡ false → length digits ≤ i → list_all (λ c. is_digit c base) (take i digits) ≡ true → number ≡ digits_value base (take i digits) → number < 2 ^ 32 → Some number ≡ number_in base digits
digits_read base digits i number some end all is fits =
    let whole = take_all i digits end in
    let apart = eqb-false (length digits) 0 some in
    let filled : nat_lt 0 (length digits) ≡ true = lt-ltb 0 (length digits) (omega arith) in
    let valued : number ≡ digits_value base digits = rw whole at is in
    let within : nat_lt (digits_value base digits) (2 ^ 32) ≡ true = lt-ltb (digits_value base digits) (2 ^ 32) (rw (← valued) fits) in
    rw (filled, rw whole at all, within) (ap Some valued)
