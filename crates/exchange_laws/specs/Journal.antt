-- The lines that a journal marks.
use Rattle.std.specs.Prelude.{◌≡◌, ℕ, ◌==◌, List, [], ◌∷◌, ◌++◌}
use Rattle.std.specs.List.{IsDistinct}
use Rattle.ec_model.specs.declared.event.Entry.{Entry}
use Rattle.ec_model.specs.declared.event.Entry.TheVariants.{Step, Mark}
use Rattle.ec_model.specs.Run.{IsRun, segment}
use Rattle.ec_model.specs.Table.{Table}

-- the lines of a journal's marks, in order
abbrev pub marked : List Entry → List ℕ
marked [] = []
marked (Mark line ∷ entries) = line ∷ marked entries
marked (Step event answer meant seen hurt ∷ entries) = marked entries

-- no line is marked twice
abbrev pub MarksOnce : List Entry → Type 0
MarksOnce entries = IsDistinct (λ one other. one == other) (marked entries)

-- the entries of a line stand in one piece in a run, and are a run themselves
pub record RunsLine (line : ℕ) (old : Table) (entries : List Entry) (new : Table) : Type 0 where
  pub before : List Entry
  pub after : List Entry
  pub first : Table
  pub last : Table
  pub parts : entries ≡ before ++ segment line entries ++ after
  pub leads : IsRun old before first
  pub own : IsRun first (segment line entries) last
  pub goes_on : IsRun last after new
