-- The words of the command line as the reader goes through them, which the contracts of private functions cite.
use Rattle.std.specs.Prelude.{ℕ, Bool, true, false, List, [], ◌∷◌, Option, Some, None, if◌then◌else◌, codes}
use Rattle.std.specs.Prelude.{option_map, length, ◌==◌, ◌&&◌}
use Rattle.std.specs.Str.{bytes_eq}
use Rattle.ec_types.specs.declared.bus.BusKind.{BusKind}
use Rattle.ec_types.specs.declared.bus.BusKind.TheVariants.{Lpc, I2c, Spi}
use Rattle.bench_words.specs.declared.choice.Choice.{Choice}
use Rattle.bench_words.specs.declared.choice.Choice.TheVariants.{Bus, Pin}
use Rattle.bench_words.specs.Words.{Spells}

-- the choice that one word spells
abbrev pub joined_choice : List ℕ → Option Choice
joined_choice word = if bytes_eq word (codes "--bus=lpc") then Some (Bus Lpc true)
    else (if bytes_eq word (codes "--bus=i2c") then Some (Bus I2c true)
    else (if bytes_eq word (codes "--bus=spi") then Some (Bus Spi true)
    else (if bytes_eq word (codes "--pin=on") then Some (Pin true true)
    else (if bytes_eq word (codes "--pin=off") then Some (Pin false true)
    else None))))

-- the choice of a bus by its name
abbrev pub bus_choice : List ℕ → Option Choice
bus_choice value = if bytes_eq value (codes "lpc") then Some (Bus Lpc false)
    else (if bytes_eq value (codes "i2c") then Some (Bus I2c false)
    else (if bytes_eq value (codes "spi") then Some (Bus Spi false)
    else None))

-- the choice of a state of the pin by its name
abbrev pub pin_choice : List ℕ → Option Choice
pin_choice value = if bytes_eq value (codes "on") then Some (Pin true false)
    else (if bytes_eq value (codes "off") then Some (Pin false false)
    else None)

-- the choice that two words spell
abbrev pub apart_choice : List ℕ → List ℕ → Option Choice
apart_choice name value = if bytes_eq name (codes "--bus") then bus_choice value
    else (if bytes_eq name (codes "--pin") then pin_choice value
    else None)

-- the choice that the words behind this one begin with, where it spells none alone
abbrev pub after_name : List ℕ → List (List ℕ) → Option (Choice × List (List ℕ))
after_name name [] = None
after_name name (value ∷ rest) = option_map (λ choice. (choice, rest)) (apart_choice name value)

-- the choice that this word spells, and the words behind it
abbrev pub choice_or : Option Choice → List ℕ → List (List ℕ) → Option (Choice × List (List ℕ))
choice_or (Some choice) word rest = Some (choice, rest)
choice_or None word rest = after_name word rest

-- the choice that words begin with, and the words behind it
abbrev pub first_choice : List (List ℕ) → Option (Choice × List (List ℕ))
first_choice [] = None
first_choice (word ∷ rest) = choice_or (joined_choice word) word rest

-- whether two choices are of two options
abbrev pub are_of_two : Choice → Choice → Bool
are_of_two (Bus kind joined) (Bus other also) = false
are_of_two (Bus kind joined) (Pin on also) = true
are_of_two (Pin on joined) (Bus kind also) = true
are_of_two (Pin on joined) (Pin other also) = false

-- whether what stands behind a choice is nothing, or one choice of the other option
abbrev pub ends_after : Choice → Option (Choice × List (List ℕ)) → List (List ℕ) → Bool
ends_after first None rest = length rest == 0
ends_after first (Some begun) rest = length begun.1 == 0 && are_of_two first begun.0

-- whether words are what they begin with, and then nothing, or one choice of the other option
abbrev pub ends_from : Option (Choice × List (List ℕ)) → List (List ℕ) → Bool
ends_from None words = length words == 0
ends_from (Some begun) words = ends_after begun.0 (first_choice begun.1) begun.1

-- whether words are choices, of which at most one is of the bus, and at most one of the pin
abbrev pub are_options : List (List ℕ) → Bool
are_options words = ends_from (first_choice words) words

-- the words are of the grammar, with this FLASH
abbrev pub SpellsFlash : List (List ℕ) → List ℕ → Type 0
SpellsFlash words flash = (bus : BusKind) × (pin : Bool) × Spells words flash bus pin
