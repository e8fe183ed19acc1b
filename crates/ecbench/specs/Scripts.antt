-- A script that was carried out, as far as it was.
use Rattle.std.specs.Prelude.{◌≡◌, ℕ, ◌+◌, ◌≤◌, List, [], ◌∷◌, ◌++◌, length, sum_by, Option, IfSome, Ok}
use Rattle.ec_model.specs.declared.event.Entry.{Entry}
use Rattle.ec_wire.specs.Calls.{WireView}
use Rattle.line_reader.specs.Lines.{most_bytes, lines_of, ended_lines, script_lines}
use Rattle.line_reader.specs.Taking.{Takes}
use Rattle.ectool_lines.specs.Running.{Appends, AppendsFront}
use Rattle.ecbench.specs.declared.run.Exit.{Exit}
use Rattle.ecbench.specs.declared.run.Exit.TheVariants.{Done, BadLine, SourceFault, SinkFault, ShelfFault, NoMemory, ScriptTooLong}
use Rattle.ecbench.specs.Lines.{Around, Syncs, deed_of, AreDone, DoesLine, MarksLine, IsLeft, IsFaulty}
use Rattle.ecbench.specs.Cutting.{CutsAlong, cuts_in}
use Rattle.ecbench.specs.Playing.{PlaysLines}

-- the script is all that a source had, where it tells that, and begins with what was taken from it
pub record IsScript (script taken : List ℕ) (left rest : Option (List ℕ)) : Type 0 where
  pub takes : Takes taken left rest
  pub more : List ℕ
  pub begins : script ≡ taken ++ more
  pub whole : IfSome left (λ all. script ≡ all)

-- the script was taken from the source to its end
pub record IsWhole (script : List ℕ) (left rest : Option (List ℕ)) : Type 0 where
  pub takes : Takes script left rest
  pub end : IfSome rest (λ bytes. bytes ≡ [])
  pub fits : length script ≤ most_bytes

-- one byte more was taken than a script has, and no more
pub record IsLong (script : List ℕ) (left rest : Option (List ℕ)) : Type 0 where
  pub taken : List ℕ
  pub is_script : IsScript script taken left rest
  pub long : length taken ≡ most_bytes + 1

-- these lines were done, and what they print was printed; how often power was lost in them; and the calls that they are were played
pub record Plays (around : Around) (last : List Entry) (lines : List (List ℕ)) (old new : WireView) (before after : Option (List ℕ)) : Type 0 where
  pub text : List ℕ
  pub own : List Entry
  pub done : AreDone around 1 last lines text old new own
  pub printed : Appends text before after
  pub cuts : CutsAlong (sum_by cuts_in lines) old new
  pub played : PlaysLines lines old new

-- in the front of what was taken just these lines end, and at most 4,097 bytes are behind it: the one that ends the next line,
-- and 4,096 that wait
pub record ReadsNoFurther (lines : List (List ℕ)) (taken : List ℕ) : Type 0 where
  pub front : List ℕ
  pub behind : List ℕ
  pub taken_is : taken ≡ front ++ behind
  pub before : ended_lines front ≡ lines
  pub soon : length behind ≤ 4097

-- a line of a script, with the lines before it, and it was read no further
pub record IsLine (script taken : List ℕ) (lines : List (List ℕ)) (line : List ℕ) : Type 0 where
  pub more : List (List ℕ)
  pub lines_are : script_lines script ≡ lines ++ line ∷ more
  pub soon : ReadsNoFurther lines taken

-- the first line that is outside the grammar: those before it were done
pub record StopsAtFault (around : Around) (last : List Entry) (number : ℕ) (script taken line : List ℕ) (lines : List (List ℕ)) (old new : WireView) (before after : Option (List ℕ)) : Type 0 where
  pub is_line : IsLine script taken lines line
  pub number_is : number ≡ length lines + 1
  pub plays : Plays around last lines old new before after

-- the sink failed: the lines before this one were done, it was carried out, and a front of its text was printed
pub record StopsInText (around : Around) (last : List Entry) (lines : List (List ℕ)) (line : List ℕ) (old new : WireView) (before after : Option (List ℕ)) : Type 0 where
  pub middle : WireView
  pub between : Option (List ℕ)
  pub text : List ℕ
  pub plays : Plays around last lines old middle before between
  pub does : DoesLine around (length lines + 1) plays.own line text middle new
  pub printed : AppendsFront text between after
  pub cuts : CutsAlong (sum_by cuts_in (lines ++ line ∷ [])) old new
  pub played : PlaysLines (lines ++ line ∷ []) old new

-- the shelf failed for this line, which wants an image of it: the lines before it were done, and it was marked
pub record StopsAtShelf (around : Around) (last : List Entry) (lines : List (List ℕ)) (line : List ℕ) (old new : WireView) (before after : Option (List ℕ)) : Type 0 where
  pub middle : WireView
  pub name : List ℕ
  pub wants : deed_of line ≡ Ok (Syncs name)
  pub plays : Plays around last lines old middle before after
  pub marks : MarksLine (length lines + 1) middle new

-- memory was refused for this line: the lines before it were done, and of it there is at most its mark, or a part of its drill
pub record StopsBefore (around : Around) (last : List Entry) (lines : List (List ℕ)) (line : List ℕ) (old new : WireView) (before after : Option (List ℕ)) : Type 0 where
  pub middle : WireView
  pub plays : Plays around last lines old middle before after
  pub left : IsLeft around (length lines + 1) line middle new

-- what was done on a bench with the script of a source, by how that ended; `last` are the entries before it
abbrev pub PlaysUpTo : Around → (last : List Entry) → Exit → (old new : WireView) → (left rest before after : Option (List ℕ)) → Type 0
PlaysUpTo around last Done old new left rest before after =
    (script : List ℕ) × IsWhole script left rest × Plays around last (lines_of script) old new before after
PlaysUpTo around last (BadLine number reason) old new left rest before after =
    (script taken line : List ℕ) × (lines : List (List ℕ)) × IsScript script taken left rest × IsFaulty line reason
    × StopsAtFault around last number script taken line lines old new before after
PlaysUpTo around last SourceFault old new left rest before after =
    (taken : List ℕ) × Takes taken left rest × (length taken ≤ most_bytes) × Plays around last (ended_lines taken) old new before after
PlaysUpTo around last SinkFault old new left rest before after =
    (script taken line : List ℕ) × (lines : List (List ℕ)) × IsScript script taken left rest × IsLine script taken lines line
    × StopsInText around last lines line old new before after
PlaysUpTo around last ShelfFault old new left rest before after =
    (script taken line : List ℕ) × (lines : List (List ℕ)) × IsScript script taken left rest × IsLine script taken lines line
    × StopsAtShelf around last lines line old new before after
PlaysUpTo around last NoMemory old new left rest before after =
    (script taken line : List ℕ) × (lines : List (List ℕ)) × IsScript script taken left rest × IsLine script taken lines line
    × StopsBefore around last lines line old new before after
PlaysUpTo around last ScriptTooLong old new left rest before after =
    (script : List ℕ) × IsLong script left rest × Plays around last (script_lines script) old new before after
PlaysUpTo around last other old new left rest before after = ⊥
