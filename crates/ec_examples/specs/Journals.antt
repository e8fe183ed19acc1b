-- A journal of two lines, and a bus behind some accesses.
use Rattle.std.specs.Prelude.{true, List, [], ◌∷◌}
use Rattle.ec_model.specs.declared.event.Access.{Access}
use Rattle.ec_model.specs.declared.event.Access.TheVariants.{PortIn}
use Rattle.ec_model.specs.declared.event.Event.TheVariants.{Access as AccessEvent, Reset, Power}
use Rattle.ec_model.specs.declared.event.WorldReset.TheVariants.{Pin}
use Rattle.ec_model.specs.declared.event.Entry.{Entry}
use Rattle.ec_model.specs.declared.event.Entry.TheVariants.{Mark}
use Rattle.ec_model.specs.Bus.{BusState, bus_step}
use Rattle.ec_examples.specs.Entries.{plain, waited}

-- the power comes on, line 3 reads a port and waits, and line 5 has a reset before its wait
abbrev pub two_lines : List Entry
two_lines =
    plain (Power true) 0 ∷ Mark 3 ∷ plain (AccessEvent (PortIn 0x800)) 0 ∷ waited ∷ Mark 5 ∷ plain (Reset Pin) 0 ∷ waited ∷ []

-- a bus behind these accesses
abbrev pub bus_behind : BusState → List Access → BusState
bus_behind bus [] = bus
bus_behind bus (access ∷ accesses) = bus_behind (bus_step bus access).state accesses
