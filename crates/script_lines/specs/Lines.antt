-- The lines of a script that are no tool lines.
use Rattle.std.specs.Prelude.{ℕ, ◌+◌, ◌≤◌, ◌==◌, ◌&&◌, not, Bool, true, false, List, [], ◌∷◌, length, codes, Option, Some, None, Result, Ok, Err, nat_le, if◌then◌else◌}
use Rattle.std.specs.List.{list_any}
use Rattle.std.specs.Option.{ok_or}
use Rattle.std.specs.Str.{bytes_eq}
use Rattle.ec_types.specs.declared.why.Why.{Why}
use Rattle.ec_types.specs.declared.why.Why.TheVariants.{Word, Count, Number, Hex}
use Rattle.ec_model.specs.declared.event.WorldEvent.{WorldEvent}
use Rattle.ec_model.specs.declared.event.WorldEvent.TheVariants as world
use Rattle.ec_model.specs.declared.event.WorldReset.{WorldReset}
use Rattle.ec_model.specs.declared.event.WorldReset.TheVariants.{Pin as PinReset, Watchdog}
use Rattle.script_words.specs.Words.{words_of}
use Rattle.script_words.specs.Lines.{checked, does_nothing}
use Rattle.script_words.specs.Forms.{◌>>=◌, no_words, one_word, two_words, three_words, alone, with_one, with_two, number_to, count_to, hex_to}
use Rattle.script_lines.specs.declared.line.Line.{Line}
use Rattle.script_lines.specs.declared.line.Line.TheVariants.{Nothing, Tool, Pin, Power, Reset, Cut, At, Sync, Drill, Trace, Bus}
use Rattle.script_lines.specs.declared.line.BusLine.{BusLine}
use Rattle.script_lines.specs.declared.line.BusLine.TheVariants.{Tick, PortsOut, PortsIn, I2cWrite, I2cRead, SpiSelect, SpiDeselect, SpiBytes}

-- whether a word says on or off
abbrev pub switch_named : List ℕ → Option Bool
switch_named word = if bytes_eq word (codes "on") then Some true else if bytes_eq word (codes "off") then Some false else None

-- a word that says on or off
abbrev pub switch_to : List ℕ → Result Bool Why
switch_to word = ok_or (switch_named word) Word

-- one word, which says on or off
abbrev pub switch_by : List (List ℕ) → Result Bool Why
switch_by words = one_word words >>= switch_to

-- the cause of a reset that a word names
abbrev pub cause_named : List ℕ → Option WorldReset
cause_named word =
    if bytes_eq word (codes "pin") then Some PinReset else
    if bytes_eq word (codes "watchdog") then Some Watchdog else
    None

-- a word that names the cause of a reset
abbrev pub cause_to : List ℕ → Result WorldReset Why
cause_to word = ok_or (cause_named word) Word

-- bytes for ports in a row, the last of which is at most 65,535
abbrev pub ports_out : ℕ → List ℕ → Result BusLine Why
ports_out port bytes = if nat_le (port + length bytes) 65536 then Ok (PortsOut port bytes) else Err Number

-- a first port and bytes; that there are as many ports is tested last
abbrev pub out_by : List (List ℕ) → Result BusLine Why
out_by words =
    two_words words >>= λ pair. number_to 65535 pair.0 >>= λ port. hex_to 8192 pair.1 >>= λ bytes. ports_out port bytes

-- so many ports in a row, the last of which is at most 65,535
abbrev pub ports_in : ℕ → ℕ → Result BusLine Why
ports_in port count = if nat_le (port + count) 65536 then Ok (PortsIn port count) else Err Number

-- a first port and how many are read
abbrev pub in_by : List (List ℕ) → Result BusLine Why
in_by words =
    two_words words >>= λ pair. number_to 65535 pair.0 >>= λ port. count_to 4096 pair.1 >>= λ count. ports_in port count

-- what a word behind `spi` says: select, deselect, or bytes
abbrev pub spi_to : List ℕ → Result BusLine Why
spi_to word =
    if bytes_eq word (codes "select") then Ok SpiSelect else
    if bytes_eq word (codes "deselect") then Ok SpiDeselect else
    (hex_to 8192 word >>= λ bytes. Ok (SpiBytes bytes))

-- one word behind `spi`
abbrev pub spi_by : List (List ℕ) → Result BusLine Why
spi_by words = one_word words >>= spi_to

-- a cut behind the word of its operation: no bytes, or at most 4,096
abbrev pub cut_behind : List ℕ → List (List ℕ) → Result Line Why
cut_behind operation [] = number_to 0xFFFFFFFF operation >>= λ number. Ok (Cut number [])
cut_behind operation (bytes ∷ words) =
    no_words words >>= λ _. number_to 0xFFFFFFFF operation >>= λ number. hex_to 4096 bytes >>= λ torn. Ok (Cut number torn)

-- a cut, by one word or two
abbrev pub cut_by : List (List ℕ) → Result Line Why
cut_by [] = Err Count
cut_by (operation ∷ words) = cut_behind operation words

-- an event of the world, by its name and what more it says
abbrev pub event_to : List ℕ → List ℕ → Result WorldEvent Why
event_to kind detail =
    if bytes_eq kind (codes "pin") then (switch_to detail >>= λ on. Ok (world.Pin on)) else
    if bytes_eq kind (codes "power") then (switch_to detail >>= λ on. Ok (world.Power on)) else
    if bytes_eq kind (codes "reset") then (cause_to detail >>= λ cause. Ok (world.Reset cause)) else
    if bytes_eq kind (codes "byte") then (number_to 255 detail >>= λ byte. Ok (world.Byte byte)) else
    Err Word

-- an event that is armed: before which call, and which it is
abbrev pub at_by : List (List ℕ) → Result Line Why
at_by words =
    three_words words >>= λ all. count_to 0xFFFFFFFF all.0 >>= λ call. event_to all.1 all.2 >>= λ event. Ok (At call event)

-- whether a word is a name: it has at most 255 bytes, none of which is `/`
abbrev pub is_name : List ℕ → Bool
is_name word = nat_le (length word) 255 && not (list_any (λ byte. byte == 47) word)

-- a word that is a name
abbrev pub name_to : List ℕ → Result (List ℕ) Why
name_to word = if is_name word then Ok word else Err Hex

-- a line by its words: the first one, how many stand behind it, and what each of these is
abbrev pub line_by : List (List ℕ) → Result Line Why
line_by [] = Ok Tool
line_by (first ∷ words) =
    if bytes_eq first (codes "pin") then (switch_by words >>= λ on. Ok (Pin on)) else
    if bytes_eq first (codes "power") then (switch_by words >>= λ on. Ok (Power on)) else
    if bytes_eq first (codes "reset") then with_one cause_to Reset words else
    if bytes_eq first (codes "tick") then (with_one (count_to 100000) Tick words >>= λ calls. Ok (Bus calls)) else
    if bytes_eq first (codes "cut") then cut_by words else
    if bytes_eq first (codes "at") then at_by words else
    if bytes_eq first (codes "out") then (out_by words >>= λ calls. Ok (Bus calls)) else
    if bytes_eq first (codes "in") then (in_by words >>= λ calls. Ok (Bus calls)) else
    if bytes_eq first (codes "i2cw") then (with_one (hex_to 8192) I2cWrite words >>= λ calls. Ok (Bus calls)) else
    if bytes_eq first (codes "i2cr") then (with_one (count_to 4096) I2cRead words >>= λ calls. Ok (Bus calls)) else
    if bytes_eq first (codes "spi") then (spi_by words >>= λ calls. Ok (Bus calls)) else
    if bytes_eq first (codes "sync") then with_one name_to Sync words else
    if bytes_eq first (codes "drill") then with_two (number_to 0xFFFFFFFF) (count_to 64) Drill words else
    if bytes_eq first (codes "trace") then alone Trace words else
    Ok Tool

-- a line, or its first fault
abbrev pub line_of : List ℕ → Result Line Why
line_of line = if does_nothing line then Ok Nothing else checked line >>= λ _. line_by (words_of line)

-- the numbers and bytes that a line may have which calls the bus: each port is at most 65,535
abbrev pub IsInRange : BusLine → Type 0
IsInRange (Tick count) = (1 ≤ count) × (count ≤ 100000)
IsInRange (PortsOut port bytes) = (1 ≤ length bytes) × (length bytes ≤ 8192) × (port + length bytes ≤ 65536)
IsInRange (PortsIn port count) = (1 ≤ count) × (count ≤ 4096) × (port + count ≤ 65536)
IsInRange (I2cWrite bytes) = (1 ≤ length bytes) × (length bytes ≤ 8192)
IsInRange (I2cRead count) = (1 ≤ count) × (count ≤ 4096)
IsInRange (SpiBytes bytes) = (1 ≤ length bytes) × (length bytes ≤ 8192)
IsInRange other = Unit {0}

-- the same of any line
abbrev pub IsLineInRange : Line → Type 0
IsLineInRange (Bus calls) = IsInRange calls
IsLineInRange (Cut operation torn) = length torn ≤ 4096
IsLineInRange (At call event) = 1 ≤ call
IsLineInRange (Drill x rounds) = (1 ≤ rounds) × (rounds ≤ 64)
IsLineInRange other = Unit {0}
