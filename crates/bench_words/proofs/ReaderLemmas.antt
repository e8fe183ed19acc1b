-- The reader reads each choice as it is spelled, and nothing else.
use Rattle.std.proofs.Common.{◌≡◌, ◌==◌, ◌≤◌, ◌-◌, length, take, drop, get_or, arith, ◌∙◌, ℕ, Bool, List, [], ◌∷◌}
use Rattle.std.proofs.Common.{◌++◌, Option, Some, None, true, false, refl, sym, ap, ap₂, subst, codes, cond}
use Rattle.std.proofs.Common.{option_map, true≢false}
use Rattle.std.specs.Prelude.{IsTrue, MatchOption, flat_map, unwrap_or}
use Rattle.std.specs.List.{All}
use Rattle.std.proofs.lemmas.List.Elements.{All-cons, All-nil}
use Rattle.std.proofs.lemmas.List.{nil_from_length}
use Rattle.std.proofs.lemmas.Bool.{eqb-true}
use Rattle.std.proofs.Math.Seq.{take-length}
use Rattle.std.specs.Borrow.{Bor}
use Rattle.std.proofs.lemmas.Str.{IsUtf8-from_is_utf8}
use Rattle.clap.proofs.WalkLemmas.{both}
use Rattle.std.specs.Char.{encode_utf8}
use Rattle.std.specs.Str.{IsUtf8, bytes_eq, chars, is_utf8}
use Rattle.std.proofs.lemmas.Slice.Eq.{bytes_eq-Decides}
use Rattle.ec_types.specs.declared.bus.BusKind.{BusKind}
use Rattle.ec_types.specs.declared.bus.BusKind.TheVariants.{Lpc, I2c, Spi}
use Rattle.bench_words.specs.declared.choice.Choice.{Choice}
use Rattle.bench_words.specs.declared.choice.Choice.TheVariants.{Bus, Pin}
use Rattle.bench_words.specs.Words.{InGrammar, SpellOnce, buses, is_positional, named_once, pins, spelled}
use Rattle.bench_words.specs.Reader.{SpellsFlash, after_name, apart_choice, are_of_two, are_options, bus_choice}
use Rattle.bench_words.specs.Reader.{choice_or, ends_after, ends_from, first_choice, joined_choice, pin_choice}
use Rattle.bench_words.proofs.Shapes.{by_shape, none≢some}

-- the choice that words begin with, and the words behind it
abbrev Begun : Type 0
Begun = Choice × List (List ℕ)

-- what is spelled is read
pub reads : (c : Choice) (rest : List (List ℕ)) → first_choice (spelled c ++ rest) ≡ Some (c, rest)
reads (Bus Lpc true) rest = refl
reads (Bus I2c true) rest = refl
reads (Bus Spi true) rest = refl
reads (Bus Lpc false) rest = refl
reads (Bus I2c false) rest = refl
reads (Bus Spi false) rest = refl
reads (Pin true true) rest = refl
reads (Pin false true) rest = refl
reads (Pin true false) rest = refl
reads (Pin false false) rest = refl

-- a chain of tests: the first that a text passes, or the rest of the chain
first_or : (text name : List ℕ) (c d : Choice) (other : Option Choice) (P : Type 0) → (text ≡ name → c ≡ d → P)
    → (other ≡ Some d → P)
    → cond (bytes_eq text name) (Some c) other ≡ Some d → P
first_or text name c d other P here there = go (bytes_eq text name) refl
  where
    go : (b : Bool) → bytes_eq text name ≡ b → cond b (Some c) other ≡ Some d → P
    go true e read = here ((bytes_eq-Decides text name).0 e) (ap (λ o. unwrap_or o c) read)
    go false e read = there read

-- a joined choice is spelled so
joined_is : (word : List ℕ) (d : Choice) → joined_choice word ≡ Some d → spelled d ≡ word ∷ []
joined_is word d =
    let yes = λ (c : Choice) (name : List ℕ) (same : spelled c ≡ name ∷ []) (e : word ≡ name) (is : c ≡ d).
    ap spelled (sym is) ∙ same ∙ ap (λ (w : List ℕ). w ∷ []) (sym e) in
    first_or word (codes "--bus=lpc") (Bus Lpc true) d _ _ (yes (Bus Lpc true) _ refl)
    (first_or word (codes "--bus=i2c") (Bus I2c true) d _ _ (yes (Bus I2c true) _ refl)
    (first_or word (codes "--bus=spi") (Bus Spi true) d _ _ (yes (Bus Spi true) _ refl)
    (first_or word (codes "--pin=on") (Pin true true) d _ _ (yes (Pin true true) _ refl)
    (first_or word (codes "--pin=off") (Pin false true) d _ _ (yes (Pin false true) _ refl)
    (λ none. absurd (none≢some d none))))))

-- a choice of the bus is spelled so
bus_is : (value : List ℕ) (d : Choice) → bus_choice value ≡ Some d → spelled d ≡ codes "--bus" ∷ value ∷ []
bus_is value d =
    let yes =
    λ (c : Choice) (name : List ℕ) (same : spelled c ≡ codes "--bus" ∷ name ∷ []) (e : value ≡ name) (is : c ≡ d).
    ap spelled (sym is) ∙ same ∙ ap (λ (v : List ℕ). codes "--bus" ∷ v ∷ []) (sym e) in
    first_or value (codes "lpc") (Bus Lpc false) d _ _ (yes (Bus Lpc false) _ refl)
    (first_or value (codes "i2c") (Bus I2c false) d _ _ (yes (Bus I2c false) _ refl)
    (first_or value (codes "spi") (Bus Spi false) d _ _ (yes (Bus Spi false) _ refl)
    (λ none. absurd (none≢some d none))))

-- a choice of the pin is spelled so
pin_is : (value : List ℕ) (d : Choice) → pin_choice value ≡ Some d → spelled d ≡ codes "--pin" ∷ value ∷ []
pin_is value d =
    let yes =
    λ (c : Choice) (name : List ℕ) (same : spelled c ≡ codes "--pin" ∷ name ∷ []) (e : value ≡ name) (is : c ≡ d).
    ap spelled (sym is) ∙ same ∙ ap (λ (v : List ℕ). codes "--pin" ∷ v ∷ []) (sym e) in
    first_or value (codes "on") (Pin true false) d _ _ (yes (Pin true false) _ refl)
    (first_or value (codes "off") (Pin false false) d _ _ (yes (Pin false false) _ refl)
    (λ none. absurd (none≢some d none)))

-- a choice in two words is spelled so
apart_is : (name value : List ℕ) (d : Choice) → apart_choice name value ≡ Some d → spelled d ≡ name ∷ value ∷ []
apart_is name value d = go (bytes_eq name (codes "--bus")) refl (bytes_eq name (codes "--pin")) refl
  where
    go : (b : Bool) → bytes_eq name (codes "--bus") ≡ b → (p : Bool) → bytes_eq name (codes "--pin") ≡ p
        → cond b (bus_choice value) (cond p (pin_choice value) None) ≡ Some d → spelled d ≡ name ∷ value ∷ []
    go true bus p pin is = bus_is value d is
        ∙ ap (λ (n : List ℕ). n ∷ value ∷ []) (sym ((bytes_eq-Decides name (codes "--bus")).0 bus))
    go false bus true pin is = pin_is value d is
        ∙ ap (λ (n : List ℕ). n ∷ value ∷ []) (sym ((bytes_eq-Decides name (codes "--pin")).0 pin))
    go false bus false pin is = absurd (none≢some d is)

some-same : {A : Type 0} (x y : A) → Some x ≡ Some y → x ≡ y
some-same x y e = ap (λ o. unwrap_or o x) e

-- what is read is spelled
pub read_is : (words : List (List ℕ)) (begun : Begun) → first_choice words ≡ Some begun
    → words ≡ spelled begun.0 ++ begun.1
read_is [] begun e = absurd (none≢some begun e)
read_is (word ∷ rest) begun e = one (joined_choice word) refl e
  where
    two : (rest : List (List ℕ)) (o : Option Choice) → (value : List ℕ) → apart_choice word value ≡ o
        → option_map (λ choice. (choice, rest)) o ≡ Some begun → word ∷ value ∷ rest ≡ spelled begun.0 ++ begun.1
    two rest None value is e = absurd (none≢some begun e)
    two rest (Some c) value is e =
        let same : (c, rest) ≡ begun = some-same _ _ e in
        sym (ap (λ (ws : List (List ℕ)). ws ++ rest) (apart_is word value c is))
        ∙ ap (λ (b : Begun). spelled b.0 ++ b.1) same

    after : (rest : List (List ℕ)) → after_name word rest ≡ Some begun → word ∷ rest ≡ spelled begun.0 ++ begun.1
    after [] e = absurd (none≢some begun e)
    after (value ∷ rest) e = two rest (apart_choice word value) value refl e

    one : (o : Option Choice) → joined_choice word ≡ o → choice_or o word rest ≡ Some begun
        → word ∷ rest ≡ spelled begun.0 ++ begun.1
    one (Some c) is e =
        let same : (c, rest) ≡ begun = some-same _ _ e in
        sym (ap (λ (ws : List (List ℕ)). ws ++ rest) (joined_is word c is))
        ∙ ap (λ (b : Begun). spelled b.0 ++ b.1) same
    one None is e = after rest e

-- choices are spelled in one way
pub choices-same : (xs ys : List Choice) → flat_map spelled xs ≡ flat_map spelled ys → xs ≡ ys
choices-same [] [] e = refl
choices-same [] (y ∷ ys) e =
    absurd (none≢some (y, flat_map spelled ys) (ap first_choice e ∙ reads y (flat_map spelled ys)))
choices-same (x ∷ xs) [] e =
    absurd (none≢some (x, flat_map spelled xs) (ap first_choice (sym e) ∙ reads x (flat_map spelled xs)))
choices-same (x ∷ xs) (y ∷ ys) e =
    let same : (x, flat_map spelled xs) ≡ (y, flat_map spelled ys) =
    some-same _ _ (sym (reads x (flat_map spelled xs)) ∙ ap first_choice e ∙ reads y (flat_map spelled ys)) in
    ap₂ (λ (c : Choice) (cs : List Choice). c ∷ cs) (ap (λ (b : Begun). b.0) same)
    (choices-same xs ys (ap (λ (b : Begun). b.1) same))

-- ---- the options

empty_is : {A : Type 0} (xs : List A) → (length xs == 0) ≡ true → xs ≡ []
empty_is xs e = nil_from_length xs (eqb-true (length xs) 0 e)

-- choices of the words, and what they name
abbrev pub Options : List (List ℕ) → Type 0
Options words = (choices : List Choice) × (bus : BusKind) × (pin : Bool) × (words ≡ flat_map spelled choices)
    × (named_once Lpc (flat_map buses choices) ≡ Some bus) × (named_once true (flat_map pins choices) ≡ Some pin)

no_options : Options []
no_options = ([], Lpc, true, refl, refl, refl)

one_option : (c : Choice) → Options (spelled c ++ [])
one_option (Bus kind joined) = (Bus kind joined ∷ [], kind, true, refl, refl, refl)
one_option (Pin on joined) = (Pin on joined ∷ [], Lpc, on, refl, refl, refl)

two_options : (c d : Choice) → are_of_two c d ≡ true → Options (spelled c ++ (spelled d ++ []))
two_options (Bus kind joined) (Bus other also) e = absurd (true≢false (sym e))
two_options (Bus kind joined) (Pin on also) e = (Bus kind joined ∷ Pin on also ∷ [], kind, on, refl, refl, refl)
two_options (Pin on joined) (Bus kind also) e = (Pin on joined ∷ Bus kind also ∷ [], kind, on, refl, refl, refl)
two_options (Pin on joined) (Pin other also) e = absurd (true≢false (sym e))

-- what passes is options
pub options_are : (words : List (List ℕ)) → are_options words ≡ true → Options words
options_are words = go (first_choice words) refl
  where
    second : (c : Choice) (rest : List (List ℕ)) (o : Option Begun) → first_choice rest ≡ o
        → ends_after c o rest ≡ true → Options (spelled c ++ rest)
    second c rest None is e = subst (λ ws. Options (spelled c ++ ws)) (sym (empty_is rest e)) (one_option c)
    second c rest (Some d) is e =
        let parts = both _ _ e in
        subst (λ ws. Options (spelled c ++ ws))
        (sym (read_is rest d is ∙ ap (λ ws. spelled d.0 ++ ws) (empty_is d.1 parts.0))) (two_options c d.0 parts.1)

    go : (o : Option Begun) → first_choice words ≡ o → ends_from o words ≡ true → Options words
    go None is e = subst Options (sym (empty_is words e)) no_options
    go (Some c) is e = subst Options (sym (read_is words c is)) (second c.0 c.1 (first_choice c.1) refl e)

-- options pass
pub options_pass : (choices : List Choice) (b : BusKind) (p : Bool) → named_once Lpc (flat_map buses choices) ≡ Some b
    → named_once true (flat_map pins choices) ≡ Some p → are_options (flat_map spelled choices) ≡ true
options_pass = by_shape (λ choices. are_options (flat_map spelled choices) ≡ true) refl
    (λ kind joined. one (Bus kind joined)) (λ on joined. one (Pin on joined))
    (λ kind joined on also. two (Bus kind joined) (Pin on also) refl)
    (λ on joined kind also. two (Pin on joined) (Bus kind also) refl)
  where
    one : (c : Choice) → are_options (spelled c ++ []) ≡ true
    one c = ap (λ o. ends_from o (spelled c ++ [])) (reads c [])

    two : (c d : Choice) → are_of_two c d ≡ true → are_options (spelled c ++ (spelled d ++ [])) ≡ true
    two c d e = ap (λ o. ends_from o (spelled c ++ (spelled d ++ []))) (reads c (spelled d ++ []))
        ∙ ap (λ o. ends_after c o (spelled d ++ [])) (reads d []) ∙ e

-- ---- the whole words

-- the first word, if there is one
abbrev head_or : List ℕ → List (List ℕ) → List ℕ
head_or other [] = other
head_or other (word ∷ rest) = word

-- the words behind the first one
abbrev tail_of : List (List ℕ) → List (List ℕ)
tail_of [] = []
tail_of (word ∷ rest) = rest

-- the word names a flash file
abbrev Names : List ℕ → Type 0
Names flash = IsTrue (is_positional flash) × IsUtf8 flash

-- FLASH of words of the grammar, by the first word's path
pub flash_is : (flash : List ℕ) (rest : List (List ℕ)) → are_options rest ≡ true → (r : Option (Bor (List ℕ)))
    → MatchOption r (¬ (IsTrue (is_positional flash) × IsUtf8 flash)) (λ path. IsTrue (is_positional flash)
    × IsUtf8 flash × (path.now ≡ flash))
    → MatchOption r (¬ (InGrammar (flash ∷ rest))) (λ path. SpellsFlash (flash ∷ rest) path.now)
flash_is flash rest e None refused =
    λ given. refused (subst Names (sym (ap (head_or flash) given.3.are)) (given.3.positional, given.3.text))
flash_is flash rest e (Some path) named =
    let options = options_are rest e in (
      options.1,
      options.2,
      record {
        choices = options.0;
        are = ap₂ (λ (f : List ℕ) (ws : List (List ℕ)). f ∷ ws) (sym named.2) options.3;
        positional = subst (λ f. IsTrue (is_positional f)) (sym named.2) named.0;
        text = subst IsUtf8 (sym named.2) named.1;
        one_bus = options.4;
        one_pin = options.5;
      },
    )

-- words behind FLASH that are no options
pub no_grammar : (flash : List ℕ) (rest : List (List ℕ)) → are_options rest ≡ false → ¬ (InGrammar (flash ∷ rest))
no_grammar flash rest e given =
    let s = given.3 in
    true≢false (sym (options_pass s.choices given.1 given.2 s.one_bus s.one_pin)
    ∙ ap are_options (sym (ap tail_of s.are)) ∙ e)

-- whether there is a word
abbrev has_word : List (List ℕ) → Bool
has_word [] = false
has_word (word ∷ rest) = true

-- no words are outside the grammar
pub empty_grammar : ¬ (InGrammar [])
empty_grammar given = true≢false (sym (ap has_word given.3.are))

-- words spell at most one reading
pub spell_once : (words : List (List ℕ)) → SpellOnce words
spell_once words f g b c p q s t =
    let same = sym s.are ∙ t.are in
    let choices = choices-same s.choices t.choices (ap tail_of same) in (
      ap (head_or f) same,
      some-same b c (sym s.one_bus ∙ ap (λ cs. named_once Lpc (flat_map buses cs)) choices ∙ t.one_bus),
      some-same p q (sym s.one_pin ∙ ap (λ cs. named_once true (flat_map pins cs)) choices ∙ t.one_pin),
    )

-- one more word that is text
is_text : (word : List ℕ) (rest : List (List ℕ)) → is_utf8 word ≡ true → All IsUtf8 rest → All IsUtf8 (word ∷ rest)
is_text word rest e all = All-cons IsUtf8 word rest (IsUtf8-from_is_utf8 word e) all

-- all words of the grammar are text
spelled_text : (c : Choice) (rest : List (List ℕ)) → All IsUtf8 rest → All IsUtf8 (spelled c ++ rest)
unfolding is_utf8 chars encode_utf8
spelled_text (Bus Lpc true) rest all = is_text (codes "--bus=lpc") rest refl all
spelled_text (Bus I2c true) rest all = is_text (codes "--bus=i2c") rest refl all
spelled_text (Bus Spi true) rest all = is_text (codes "--bus=spi") rest refl all
spelled_text (Bus Lpc false) rest all =
    is_text (codes "--bus") (codes "lpc" ∷ rest) refl (is_text (codes "lpc") rest refl all)
spelled_text (Bus I2c false) rest all =
    is_text (codes "--bus") (codes "i2c" ∷ rest) refl (is_text (codes "i2c") rest refl all)
spelled_text (Bus Spi false) rest all =
    is_text (codes "--bus") (codes "spi" ∷ rest) refl (is_text (codes "spi") rest refl all)
spelled_text (Pin true true) rest all = is_text (codes "--pin=on") rest refl all
spelled_text (Pin false true) rest all = is_text (codes "--pin=off") rest refl all
spelled_text (Pin true false) rest all =
    is_text (codes "--pin") (codes "on" ∷ rest) refl (is_text (codes "on") rest refl all)
spelled_text (Pin false false) rest all =
    is_text (codes "--pin") (codes "off" ∷ rest) refl (is_text (codes "off") rest refl all)

pub all_text : (words : List (List ℕ)) → InGrammar words → All IsUtf8 words
all_text words given =
    subst (All IsUtf8) (sym given.3.are) (All-cons IsUtf8 given.0 _ given.3.text (go given.3.choices))
  where
    go : (choices : List Choice) → All IsUtf8 (flat_map spelled choices)
    go [] = All-nil IsUtf8
    go (c ∷ rest) = spelled_text c (flat_map spelled rest) (go rest)

-- the words from their first and the others
pub words_are : (words : List (List ℕ)) (flash : List ℕ) → 1 ≤ length words → flash ≡ get_or words 0 flash
    → words ≡ flash ∷ take (length words - 1) (drop 1 words)
words_are [] flash some is = absurd (omega arith)
words_are (word ∷ rest) flash some is =
    let behind : length (word ∷ rest) - 1 ≡ length rest = omega arith in
    ap₂ (λ (f : List ℕ) (ws : List (List ℕ)). f ∷ ws) (sym is) (sym (take-length rest)
    ∙ ap (λ n. take n rest) (sym behind))

-- what an option's value is, where there is one
pub named_is : (r : Option (Bor (List ℕ))) (d : Bor (List ℕ)) (name : List ℕ) → option_map (λ s. s.now) r ≡ Some name
    → (unwrap_or r d).now ≡ name
named_is None d name e = absurd (none≢some name e)
named_is (Some s) d name e = some-same s.now name e
