-- How a journal parts into its lines.
use Rattle.std.proofs.Common.{◌≡◌, refl, sym, ap, ◌∙◌, subst, ℕ, Bool, true, false, ◌==◌, if◌then◌else◌, List, [], ◌∷◌, ◌++◌, arith}
use Rattle.std.specs.Prelude.{flat_map}
use Rattle.std.specs.List.{AllByRecursion}
use Rattle.std.proofs.lemmas.Bool.Decides.{eqb_tells}
use Rattle.std.proofs.lemmas.Map.Keys.{IsDistinct-head, IsDistinct-tail}
use Rattle.ec_model.specs.declared.event.Entry.{Entry}
use Rattle.ec_model.specs.declared.event.Entry.TheVariants.{Step, Mark}
use Rattle.ec_model.specs.Run.{IsRun, before_mark, segment}
use Rattle.ec_model.specs.Table.{Table}
use Rattle.ec_model.proofs.RunLaws.{run-split}
use Rattle.exchange_laws.specs.Journal.{marked, MarksOnce, RunsLine}

-- a number is itself
self : (n : ℕ) → (n == n) ≡ true
self n = grind (arith, eqb_tells)

-- the mark of another line is passed
passed : (other line : ℕ) (entries : List Entry) → (other == line) ≡ false → segment line (Mark other ∷ entries) ≡ segment line entries
passed other line entries differs = rw differs refl

-- so it is by each of the lines
others : (other : ℕ) (entries : List Entry) (lines : List ℕ) → AllByRecursion (λ line. (other == line) ≡ false) lines →
    flat_map (λ line. segment line (Mark other ∷ entries)) lines ≡ flat_map (λ line. segment line entries) lines
others other entries [] all = refl
others other entries (line ∷ lines) all =
    ap (λ (own : List Entry). own ++ flat_map (λ line. segment line (Mark other ∷ entries)) lines) (passed other line entries all.0)
    ∙ ap (λ (rest : List Entry). segment line entries ++ rest) (others other entries lines all.1)

-- the entries of a line begin with its mark
begins : (line : ℕ) (entries : List Entry) → segment line (Mark line ∷ entries) ≡ Mark line ∷ before_mark entries
begins line entries = let same = self line in rw same refl

-- a journal is what comes before its first mark, and its lines
pub whole-lines : (entries : List Entry) → MarksOnce entries → entries ≡ before_mark entries ++ flat_map (λ line. segment line entries) (marked entries)
whole-lines [] once = refl
whole-lines (Step event answer meant seen hurt ∷ entries) once = ap (λ (rest : List Entry). Step event answer meant seen hurt ∷ rest) (whole-lines entries once)
whole-lines (Mark line ∷ entries) once =
    ap (λ (rest : List Entry). Mark line ∷ rest) (whole-lines entries (IsDistinct-tail (λ one other. one == other) line (marked entries) once))
    ∙ ap (λ (rest : List Entry). (Mark line ∷ before_mark entries) ++ rest) (sym (others line entries (marked entries) (IsDistinct-head (λ one other. one == other) line (marked entries) once)))
    ∙ ap (λ (own : List Entry). own ++ flat_map (λ other. segment other (Mark line ∷ entries)) (marked entries)) (sym (begins line entries))

-- a list stands in another in one piece
record IsPiece (own entries : List Entry) : Type 0 where
  pub before : List Entry
  pub after : List Entry
  pub parts : entries ≡ before ++ own ++ after

-- the entries before a mark stand at the front
record IsFront (own entries : List Entry) : Type 0 where
  pub after : List Entry
  pub parts : entries ≡ own ++ after

front : (entries : List Entry) → IsFront (before_mark entries) entries
front [] = record { after = []; parts = refl }
front (Mark line ∷ entries) = record { after = Mark line ∷ entries; parts = refl }
front (Step event answer meant seen hurt ∷ entries) =
    let more = front entries in
    record { after = more.after; parts = ap (λ (rest : List Entry). Step event answer meant seen hurt ∷ rest) more.parts }

-- a piece of a list is one of a longer one
longer : (own entries : List Entry) (entry : Entry) → IsPiece own entries → IsPiece own (entry ∷ entries)
longer own entries entry piece = record { before = entry ∷ piece.before; after = piece.after; parts = ap (λ (rest : List Entry). entry ∷ rest) piece.parts }

-- the entries of a line stand in one piece
piece : (line : ℕ) (entries : List Entry) → IsPiece (segment line entries) entries
piece line [] = record { before = []; after = []; parts = refl }
piece line (Step event answer meant seen hurt ∷ entries) = longer (segment line entries) entries (Step event answer meant seen hurt) (piece line entries)
piece line (Mark other ∷ entries) = by-line (other == line) (piece line entries)
  where
    by-line : (same : Bool) → IsPiece (segment line entries) entries → IsPiece (if same then Mark other ∷ before_mark entries else segment line entries) (Mark other ∷ entries)
    by-line true later = let own = front entries in record { before = []; after = own.after; parts = ap (λ (rest : List Entry). Mark other ∷ rest) own.parts }
    by-line false later = longer (segment line entries) entries (Mark other) later

-- the entries of a line are a run
pub runs-line : (old : Table) (entries : List Entry) (new : Table) (line : ℕ) → IsRun old entries new → RunsLine line old entries new
runs-line old entries new line run =
    let own = piece line entries in
    let later = run-split old new (own.before ++ segment line entries) own.after (subst (λ (xs : List Entry). IsRun old xs new) own.parts run) in
    let first = run-split old later.0 own.before (segment line entries) later.1 in
    record { before = own.before; after = own.after; first = first.0; last = later.0; parts = own.parts; leads = first.1; own = first.2; goes_on = later.2 }
