-- What clap tells of the words: the command that it parses them by, and what its matches say of the options.
use Rattle.std.specs.Prelude.{◌≡◌, Bool, true, [], ◌∷◌, Some, codes}
use Rattle.clap.specs.Words.{App, Rule, first_value, found_of, new_app, new_rule, with_rule}
use Rattle.clap.specs.declared.builder.action.ArgAction.TheVariants.{Set}
use Rattle.clap.specs.declared.parser.matches.ArgMatches.{ArgMatches}
use Rattle.ec_types.specs.declared.bus.BusKind.{BusKind}
use Rattle.bench_words.specs.Words.{bus_name, pin_name}

-- the positional FLASH
abbrev pub flash_rule : Rule
flash_rule = record (new_rule (codes "FLASH")) { required = true; action = Some Set }

-- the option --bus
abbrev pub bus_rule : Rule
bus_rule = record (new_rule (codes "bus")) {
  long = Some (codes "bus");
  action = Some Set;
  defaults = codes "lpc" ∷ [];
}

-- the option --pin
abbrev pub pin_rule : Rule
pin_rule = record (new_rule (codes "pin")) {
  long = Some (codes "pin");
  action = Some Set;
  defaults = codes "on" ∷ [];
}

-- a command with no arguments, no name of a program before its words, no help and no version
abbrev pub bare_app : App
bare_app = record (new_app (codes "ecbench")) {
  top = record (new_app (codes "ecbench")).top { no_binary_name = true; disable_help_flag = true };
}

-- the command
abbrev pub bench_app : App
bench_app = with_rule (with_rule (with_rule bare_app flash_rule) bus_rule) pin_rule

-- the matches have the names of this bus and this state of the pin
abbrev pub TellsOf : BusKind → Bool → ArgMatches → Type 0
TellsOf bus pin matches = (first_value (found_of matches) (codes "bus") ≡ Some (bus_name bus))
    × (first_value (found_of matches) (codes "pin") ≡ Some (pin_name pin))
