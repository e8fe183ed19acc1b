-- Runs: one step after another, along a journal.
use Rattle.std.specs.Prelude.{◌≡◌, ◌==◌, ℕ, Bool, List, [], ◌∷◌, if◌then◌else◌}
use Rattle.ec_types.specs.declared.bus.BusKind.{BusKind}
use Rattle.ec_model.specs.declared.event.Entry.{Entry}
use Rattle.ec_model.specs.declared.event.Entry.TheVariants.{Step, Mark}
use Rattle.ec_model.specs.Table.{Table, off_table}
use Rattle.ec_model.specs.Step.{IsStep}

-- the entries lead from one table to the other
abbrev pub IsRun : Table → List Entry → Table → Type 0
IsRun old [] new = new ≡ old
IsRun old (entry ∷ entries) new = (middle : Table) × IsStep old entry middle × IsRun middle entries new

-- the state before a script: off, with the pin and the bus of the command line
abbrev pub opening : List ℕ → Bool → BusKind → Table
opening flash pin kind = off_table flash pin kind

-- the entries up to the next mark
abbrev pub before_mark : List Entry → List Entry
before_mark [] = []
before_mark (Mark line ∷ entries) = []
before_mark (Step event answer meant seen hurt ∷ entries) = Step event answer meant seen hurt ∷ before_mark entries

-- the entries of a line, from its mark to the next one
abbrev pub segment : ℕ → List Entry → List Entry
segment line [] = []
segment line (Mark other ∷ entries) = if other == line then Mark other ∷ before_mark entries else segment line entries
segment line (Step event answer meant seen hurt ∷ entries) = segment line entries
