-- The words of the command line: FLASH, and behind it options, each at most once and in any order.
use Rattle.std.specs.Prelude.{◌≡◌, ℕ, Bool, true, false, not, ◌==◌, List, [], ◌∷◌, ◌++◌, Option, Some, None}
use Rattle.std.specs.Prelude.{IsTrue, codes, flat_map}
use Rattle.std.specs.Str.{IsUtf8}
use Rattle.ec_types.specs.declared.bus.BusKind.{BusKind}
use Rattle.ec_types.specs.declared.bus.BusKind.TheVariants.{Lpc, I2c, Spi}
use Rattle.bench_words.specs.declared.choice.Choice.{Choice}
use Rattle.bench_words.specs.declared.choice.Choice.TheVariants.{Bus, Pin}

-- the value that names a bus
abbrev pub bus_name : BusKind → List ℕ
bus_name Lpc = codes "lpc"
bus_name I2c = codes "i2c"
bus_name Spi = codes "spi"

-- the value that names a state of the pin
abbrev pub pin_name : Bool → List ℕ
pin_name true = codes "on"
pin_name false = codes "off"

-- an option and its value: one word, where an equals sign (61) joins them, or else two
abbrev pub option : Bool → List ℕ → List ℕ → List (List ℕ)
option true name value = (name ++ 61 ∷ value) ∷ []
option false name value = name ∷ value ∷ []

-- the words of a choice
abbrev pub spelled : Choice → List (List ℕ)
spelled (Bus kind joined) = option joined (codes "--bus") (bus_name kind)
spelled (Pin on joined) = option joined (codes "--pin") (pin_name on)

-- the bus that a choice names, if any
abbrev pub buses : Choice → List BusKind
buses (Bus kind joined) = kind ∷ []
buses (Pin on joined) = []

-- the state of the pin that a choice names, if any
abbrev pub pins : Choice → List Bool
pins (Bus kind joined) = []
pins (Pin on joined) = on ∷ []

-- the one that was named, or the default where none was; nothing where more than one was
abbrev pub named_once : {A : Type 0} → A → List A → Option A
named_once default [] = Some default
named_once default (named ∷ []) = Some named
named_once default (first ∷ second ∷ rest) = None

-- whether a word is neither empty nor an option, which begins with a hyphen (45)
abbrev pub is_positional : List ℕ → Bool
is_positional [] = false
is_positional (first ∷ rest) = not (first == 45)

-- the words are FLASH and then choices, of which at most one is of the bus, and at most one of the pin
pub record Spells (words : List (List ℕ)) (flash : List ℕ) (bus : BusKind) (pin : Bool) : Type 0 where
  pub choices : List Choice
  pub are : words ≡ flash ∷ flat_map spelled choices
  pub positional : IsTrue (is_positional flash)
  pub text : IsUtf8 flash
  pub one_bus : named_once Lpc (flat_map buses choices) ≡ Some bus
  pub one_pin : named_once true (flat_map pins choices) ≡ Some pin

-- the words are of the grammar
abbrev pub InGrammar : List (List ℕ) → Type 0
InGrammar words = (flash : List ℕ) × (bus : BusKind) × (pin : Bool) × Spells words flash bus pin

-- words spell at most one reading
abbrev pub SpellOnce : List (List ℕ) → Type 0
SpellOnce words = (flash other_flash : List ℕ) (bus other_bus : BusKind) (pin other_pin : Bool)
    → Spells words flash bus pin → Spells words other_flash other_bus other_pin
    → (flash ≡ other_flash) × (bus ≡ other_bus) × (pin ≡ other_pin)
