-- Entries of journals, and whole exchanges on LPC as the host sees them.
use Rattle.std.specs.Prelude.{ℕ, ◌+◌, List, [], ◌∷◌, ◌++◌, slice_index}
use Rattle.ec_model.specs.declared.event.Access.TheVariants.{PortOut, PortIn}
use Rattle.ec_model.specs.declared.event.Event.{Event}
use Rattle.ec_model.specs.declared.event.Event.TheVariants.{Access, Tick}
use Rattle.ec_model.specs.declared.event.Entry.{Entry}
use Rattle.ec_model.specs.declared.event.Entry.TheVariants.{Step}
use Rattle.flash_dev.specs.declared.hurt.Hurt.TheVariants.{Whole}
use Rattle.ec_model.specs.Table.{Table}
use Rattle.ec_model.specs.WholeStep.{stepped}
use Rattle.ec_model.specs.Upset.{event_byte}

-- an event that is answered so, where nothing fails and no byte is changed
abbrev pub plain : Event → ℕ → Entry
plain event answer = Step event answer (event_byte event) answer Whole

-- the entries of events that nothing disturbs
abbrev pub entries_of : Table → List Event → List Entry
entries_of table [] = []
entries_of table (event ∷ events) = plain event (stepped table event).answer ∷ entries_of (stepped table event).table events

-- bytes that are written to ports in a row
abbrev pub written_ports : ℕ → List ℕ → List Entry
written_ports port [] = []
written_ports port (byte ∷ bytes) = plain (Access (PortOut port byte)) 0 ∷ written_ports (port + 1) bytes

-- bytes that are read from ports in a row
abbrev pub read_ports : ℕ → List ℕ → List Entry
read_ports port [] = []
read_ports port (byte ∷ bytes) = plain (Access (PortIn port)) byte ∷ read_ports (port + 1) bytes

-- a wait
abbrev pub waited : Entry
waited = plain Tick 0

-- a packet that is sent on an idle LPC
abbrev pub lpc_asked : List ℕ → List Entry
lpc_asked request = read_ports 0x204 (0 ∷ []) ++ written_ports 0x800 request ++ written_ports 0x204 (0xDA ∷ [])

-- a packet that is sent on LPC, and its response
abbrev pub lpc_exchange : (request response : List ℕ) → List Entry
lpc_exchange request response =
    lpc_asked request ++ waited ∷ plain (Access (PortIn 0x204)) 1 ∷ plain (Access (PortIn 0x200)) (slice_index response 2) ∷ read_ports 0x800 response
