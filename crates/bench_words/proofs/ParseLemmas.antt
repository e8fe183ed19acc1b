-- What clap makes of words of the grammar: it takes them, and reads what they choose.
use Rattle.std.proofs.Common.{◌≡◌, ◌∙◌, ℕ, Bool, List, [], ◌∷◌, ◌++◌, Some, None, true, false, refl, sym, ◌==◌, ap}
use Rattle.std.proofs.Common.{ap₂, codes, cond, ◌&&◌, ◌||◌, option_map, true≢false}
use Rattle.std.specs.List.{fold, list_all}
use Rattle.std.specs.Option.{option_map_or}
use Rattle.std.specs.Str.{bytes_eq}
use Rattle.std.specs.Prelude.{IsTrue, flat_map, is_some, not, option_and_then}
use Rattle.clap.specs.Matches.{found_of}
use Rattle.clap.specs.declared.parser.matches.ArgMatches.{ArgMatches}
use Rattle.clap.proofs.WalkLemmas.{both, first_value-rows}
use Rattle.clap.specs.Lexer.{strip_byte, long_of_rest, short_of_rest, long_of, short_of}
use Rattle.clap.specs.Walk.{Held, Text, Step, Walk, after_step, finished, idle, first_of, long_or_other, nothing_held}
use Rattle.clap.specs.Walk.{plain_word, reacted, rows_of, settled, short_or_plain, trailing, walk, walk_from, walked}
use Rattle.clap.specs.Walk.{word_met}
use Rattle.clap.specs.Simple.{Shape, built, entered, filled, matches_of}
use Rattle.clap.specs.Takes.{bundle_passes, default_passes, entered_passes, flag_word_passes, is_valid, react_passes}
use Rattle.clap.specs.Takes.{settle_passes, step_passes, takes, turn_passes, walk_passes, word_passes}
use Rattle.clap.proofs.OnLiterals.{clap_on_literals}
use Rattle.ec_types.specs.declared.bus.BusKind.{BusKind}
use Rattle.ec_types.specs.declared.bus.BusKind.TheVariants.{Lpc, I2c, Spi}
use Rattle.bench_words.specs.declared.choice.Choice.{Choice}
use Rattle.bench_words.specs.declared.choice.Choice.TheVariants.{Bus, Pin}
use Rattle.bench_words.specs.Words.{Spells, bus_name, buses, is_positional, named_once, pin_name, pins, spelled}
use Rattle.bench_words.specs.Parsed.{TellsOf, bench_app, bus_rule, pin_rule}
use Rattle.bench_words.proofs.Shapes.{by_shape}

-- the command as it is built
abbrev shape : Shape
shape = (built bench_app).top

-- the walk between two choices
abbrev at : Held → Walk
at h = record { held = h; waiting = idle; position = 2; is_trailing = false; stopped = None }

-- what is held after a choice
abbrev after : Choice → Held → Held
after (Bus kind true) h = reacted shape.rules (filled bus_rule) (bus_name kind ∷ []) h
after (Bus kind false) h = record (settled shape.rules h) { pending = Some (codes "bus", bus_name kind ∷ []) }
after (Pin on true) h = reacted shape.rules (filled pin_rule) (pin_name on ∷ []) h
after (Pin on false) h = record (settled shape.rules h) { pending = Some (codes "pin", pin_name on ∷ []) }

-- whether a choice passes
abbrev passes : Choice → Held → Bool
passes (Bus kind true) h = react_passes shape.rules false (filled bus_rule) (bus_name kind ∷ []) h
passes (Bus kind false) h = settle_passes shape.rules false h
passes (Pin on true) h = react_passes shape.rules false (filled pin_rule) (pin_name on ∷ []) h
passes (Pin on false) h = settle_passes shape.rules false h

-- the walk over a choice
one_walked : (c : Choice) (h : Held) (rest : List Text)
    → fold (walked shape.rules []) (at h) (spelled c ++ rest) ≡ fold (walked shape.rules []) (at (after c h)) rest
unfolding clap_on_literals
one_walked (Bus kind true) h rest = refl
one_walked (Bus Lpc false) h rest = refl
one_walked (Bus I2c false) h rest = refl
one_walked (Bus Spi false) h rest = refl
one_walked (Pin on true) h rest = refl
one_walked (Pin true false) h rest = refl
one_walked (Pin false false) h rest = refl

-- the walk over a choice passes where the choice does
one_passes : (c : Choice) (h : Held) (rest : List Text) → passes c h ≡ true
    → walk_passes shape [] (at (after c h)) rest ≡ true
    → walk_passes shape [] (at h) (spelled c ++ rest) ≡ true
unfolding clap_on_literals
one_passes (Bus kind true) h rest p q = ap₂ (λ (a b : Bool). (a && true) && b) p q
one_passes (Bus Lpc false) h rest p q = ap₂ (λ (a b : Bool). (a && true) && b) p q
one_passes (Bus I2c false) h rest p q = ap₂ (λ (a b : Bool). (a && true) && b) p q
one_passes (Bus Spi false) h rest p q = ap₂ (λ (a b : Bool). (a && true) && b) p q
one_passes (Pin on true) h rest p q = ap₂ (λ (a b : Bool). (a && true) && b) p q
one_passes (Pin true false) h rest p q = ap₂ (λ (a b : Bool). (a && true) && b) p q
one_passes (Pin false false) h rest p q = ap₂ (λ (a b : Bool). (a && true) && b) p q

-- what is held after choices
abbrev held_after : List Choice → Held → Held
held_after [] h = h
held_after (c ∷ rest) h = held_after rest (after c h)

-- whether choices pass
abbrev all_pass : List Choice → Held → Bool
all_pass [] h = true
all_pass (c ∷ rest) h = passes c h && all_pass rest (after c h)

-- the walk over choices
all_walked : (choices : List Choice) (h : Held)
    → fold (walked shape.rules []) (at h) (flat_map spelled choices) ≡ at (held_after choices h)
all_walked [] h = refl
all_walked (c ∷ rest) h = one_walked c h (flat_map spelled rest) ∙ all_walked rest (after c h)

-- the walk over choices passes where they do
walk_passed : (choices : List Choice) (h : Held) → all_pass choices h ≡ true
    → walk_passes shape [] (at h) (flat_map spelled choices) ≡ true
unfolding walk_passes
walk_passed [] h p = refl
walk_passed (c ∷ rest) h p =
    let parts = both (passes c h) (all_pass rest (after c h)) p in
    one_passes c h (flat_map spelled rest) parts.0 (walk_passed rest (after c h) parts.1)

-- whether a parse passes that comes to its end so, by whether its walk passed
abbrev ends_well : Walk → Bool → Bool
ends_well w passed = entered_passes (built bench_app) w.stopped && (passed && (settle_passes shape.rules false w.held
    && (list_all default_passes shape.rules
    && is_valid shape (finished shape.rules w.held) (is_some (entered (built bench_app) w.stopped)))))

-- FLASH, which does not begin with a hyphen: clap takes it for the positional, and reads on behind it
module _ (x : ℕ) (xs : List ℕ) (plain : (x == 45) ≡ false) where
  no_hyphen : strip_byte 45 (x ∷ xs) ≡ None
  no_hyphen = rw plain refl

  no_hyphens : bytes_eq (x ∷ xs) (45 ∷ 45 ∷ []) ≡ false
  no_hyphens = rw plain refl

  no_long : long_of (x ∷ xs) ≡ None
  no_long = ap (λ o. option_and_then long_of_rest (option_and_then (strip_byte 45) o)) no_hyphen

  no_short : short_of (x ∷ xs) ≡ None
  no_short = ap (option_and_then short_of_rest) no_hyphen

  is_value : word_met shape.rules [] false idle 1 (x ∷ xs) nothing_held
      ≡ plain_word shape.rules idle (x ∷ xs) nothing_held
  is_value =
      ap (λ b. cond b (nothing_held, trailing 1)
      (long_or_other shape.rules idle (x ∷ xs) (long_of (x ∷ xs)) nothing_held)) no_hyphens
      ∙ ap (λ o. long_or_other shape.rules idle (x ∷ xs) o nothing_held) no_long
      ∙ ap (λ o. short_or_plain shape.rules idle (x ∷ xs) o nothing_held) no_short

  value_passes : word_passes shape [] false idle (x ∷ xs) nothing_held ≡ true
  value_passes =
      ap₂ (λ b o. b || flag_word_passes shape.rules false o (x ∷ xs) nothing_held) no_hyphens no_long
      ∙ ap (λ o. option_map_or (λ flags. bundle_passes shape.rules false flags nothing_held) o true) no_short

  -- what is held after FLASH
  abbrev flash_held : Held
  flash_held = record { rows = []; pending = Some (codes "FLASH", (x ∷ xs) ∷ []); skip = 0 }

  flash_walked : walked shape.rules [] (walk_from nothing_held) (x ∷ xs) ≡ at flash_held
  unfolding walked
  flash_walked = ap (λ (p : Held × Step). after_step shape.rules (x ∷ xs) (walk_from nothing_held) p.0 p.1) is_value

  turn_passed : turn_passes shape [] (walk_from nothing_held) (x ∷ xs) ≡ true
  turn_passed = ap₂ (λ (b : Bool) (p : Held × Step). b && step_passes shape 1 p.0 p.1) value_passes is_value

  -- the facts of a list of choices by which clap reads FLASH and them
  abbrev IsRead : List Choice → Type 0
  IsRead choices = let end = held_after choices flash_held in
      (all_pass choices flash_held ≡ true) × (ends_well (at end) true ≡ true)
      × (first_of (codes "bus") (finished shape.rules end)
      ≡ option_map bus_name (named_once Lpc (flat_map buses choices)))
      × (first_of (codes "pin") (finished shape.rules end)
      ≡ option_map pin_name (named_once true (flat_map pins choices)))

  bus_read : (kind : BusKind) (joined : Bool) → IsRead (Bus kind joined ∷ [])
  bus_read kind true = (refl, refl, refl, refl)
  bus_read kind false = (refl, refl, refl, refl)

  pin_read : (on : Bool) (joined : Bool) → IsRead (Pin on joined ∷ [])
  pin_read on true = (refl, refl, refl, refl)
  pin_read on false = (refl, refl, refl, refl)

  bus_pin_read : (kind : BusKind) (joined : Bool) (on : Bool) (also : Bool)
      → IsRead (Bus kind joined ∷ Pin on also ∷ [])
  bus_pin_read kind true on true = (refl, refl, refl, refl)
  bus_pin_read kind true on false = (refl, refl, refl, refl)
  bus_pin_read kind false on true = (refl, refl, refl, refl)
  bus_pin_read kind false on false = (refl, refl, refl, refl)

  pin_bus_read : (on : Bool) (joined : Bool) (kind : BusKind) (also : Bool)
      → IsRead (Pin on joined ∷ Bus kind also ∷ [])
  pin_bus_read on true kind true = (refl, refl, refl, refl)
  pin_bus_read on true kind false = (refl, refl, refl, refl)
  pin_bus_read on false kind true = (refl, refl, refl, refl)
  pin_bus_read on false kind false = (refl, refl, refl, refl)

  walk_is : (choices : List Choice)
      → walk shape.rules [] nothing_held ((x ∷ xs) ∷ flat_map spelled choices) ≡ at (held_after choices flash_held)
  walk_is choices = ap (λ w. fold (walked shape.rules []) w (flat_map spelled choices)) flash_walked
      ∙ all_walked choices flash_held

  all_passed : (choices : List Choice) → all_pass choices flash_held ≡ true
      → walk_passes shape [] (walk_from nothing_held) ((x ∷ xs) ∷ flat_map spelled choices) ≡ true
  unfolding walk_passes
  all_passed choices p =
      ap₂ (λ (b : Bool) (w : Walk). b && walk_passes shape [] w (flat_map spelled choices)) turn_passed flash_walked
      ∙ walk_passed choices flash_held p

  -- clap takes FLASH and choices, and reads them
  module _ (choices : List Choice) (b : BusKind) (p : Bool) (one_bus : named_once Lpc (flat_map buses choices) ≡ Some b)
      (one_pin : named_once true (flat_map pins choices) ≡ Some p) where
    read : IsRead choices
    read =
        by_shape IsRead (refl, refl, refl, refl) bus_read pin_read bus_pin_read pin_bus_read choices b p one_bus one_pin

    pub taken : takes bench_app ((x ∷ xs) ∷ flat_map spelled choices) ≡ true
    taken = ap₂ ends_well (walk_is choices) (all_passed choices read.0) ∙ read.1

    pub told_bus : first_of (codes "bus") (matches_of bench_app ((x ∷ xs) ∷ flat_map spelled choices))
        ≡ Some (bus_name b)
    told_bus = ap (λ (w : Walk). first_of (codes "bus") (finished shape.rules w.held)) (walk_is choices) ∙ read.2
        ∙ ap (option_map bus_name) one_bus

    pub told_pin : first_of (codes "pin") (matches_of bench_app ((x ∷ xs) ∷ flat_map spelled choices))
        ≡ Some (pin_name p)
    told_pin = ap (λ (w : Walk). first_of (codes "pin") (finished shape.rules w.held)) (walk_is choices) ∙ read.3
        ∙ ap (option_map pin_name) one_pin

not_true : (b : Bool) → IsTrue (not b) → b ≡ false
not_true false p = refl
not_true true p = absurd (true≢false (sym p))

-- clap takes words of the grammar, and its matches tell what they spell
module _ (words : List Text) (flash : List ℕ) (b : BusKind) (p : Bool) (spells : Spells words flash b p) where
  pub spells_taken : takes bench_app words ≡ true
  spells_taken = ap (takes bench_app) spells.are ∙ go flash spells.positional
    where
      go : (f : List ℕ) → IsTrue (is_positional f) → takes bench_app (f ∷ flat_map spelled spells.choices) ≡ true
      go [] positional = absurd (true≢false (sym positional))
      go (x ∷ xs) positional =
          taken x xs (not_true (x == 45) positional) spells.choices b p spells.one_bus spells.one_pin

  pub spells_told : (matches : ArgMatches) → rows_of (found_of matches) ≡ matches_of bench_app words
      → TellsOf b p matches
  spells_told matches rows = (
    first_value-rows (found_of matches) (codes "bus")
        ∙ ap (first_of (codes "bus")) (rows ∙ ap (matches_of bench_app) spells.are) ∙ (told flash spells.positional).0,
    first_value-rows (found_of matches) (codes "pin")
        ∙ ap (first_of (codes "pin")) (rows ∙ ap (matches_of bench_app) spells.are) ∙ (told flash spells.positional).1,
  )
    where
      told : (f : List ℕ) → IsTrue (is_positional f)
          → (first_of (codes "bus") (matches_of bench_app (f ∷ flat_map spelled spells.choices)) ≡ Some (bus_name b))
          × (first_of (codes "pin") (matches_of bench_app (f ∷ flat_map spelled spells.choices)) ≡ Some (pin_name p))
      told [] positional = absurd (true≢false (sym positional))
      told (x ∷ xs) positional = (
        told_bus x xs (not_true (x == 45) positional) spells.choices b p spells.one_bus spells.one_pin,
        told_pin x xs (not_true (x == 45) positional) spells.choices b p spells.one_bus spells.one_pin,
      )
