-- What the parts of a run do, seen on the wire.
use Rattle.std.specs.Prelude.{◌≡◌, ◌⊎◌, ℕ, List, [], codes, Option, Some, None, Result, Ok, Err}
use Rattle.ec_types.specs.declared.why.Why.TheVariants as why
use Rattle.ec_model.specs.declared.event.WorldEvent.{WorldEvent}
use Rattle.ec_model.specs.declared.event.Entry.{Entry}
use Rattle.ec_wire.specs.Calls.{WireView, with_spare}
use Rattle.bench_wire.specs.Adding.{Extends}
use Rattle.bench_wire.specs.declared.arms.ArmsFull.{ArmsFull}
use Rattle.bench_io.specs.declared.printing.PrintErr.{PrintErr}
use Rattle.bench_io.specs.declared.printing.PrintErr.TheVariants as print_err
use Rattle.ectool_lines.specs.Texts.{printed}
use Rattle.ectool_lines.specs.Running.{Appends, AppendsFront}
use Rattle.script_lines.specs.declared.line.BusLine.{BusLine}
use Rattle.sync_lines.specs.declared.line.SyncLineErr.{SyncLineErr}
use Rattle.sync_lines.specs.declared.line.SyncLineErr.TheVariants as sync_err
use Rattle.line_reader.specs.Finding.{ReaderView}
use Rattle.line_reader.specs.declared.reader.Next.{Next}
use Rattle.line_reader.specs.declared.reader.Next.TheVariants.{Line, Last, End, TooLong, Full}
use Rattle.ecbench.specs.declared.run.Exit.{Exit}
use Rattle.ecbench.specs.declared.run.Exit.TheVariants.{Done, BadLine, SinkFault, ShelfFault, NoMemory, ScriptTooLong}
use Rattle.ecbench.specs.Lines.{Around, Syncs, deed_of, IsFaulty, MarksLine, HappensLine, MakesLine, ArmsLine, CutsLine, SyncsLine, DrillsLine, DrillsLineInPart, IsLeft, DoesLine, PassesOver, armed_text}
use Rattle.ecbench.specs.Tracing.{trace_text}
use Rattle.ecbench.specs.Scripts.{PlaysUpTo}
use Rattle.ecbench.specs.Endings.{PowersOn}

-- a reader that has read nothing yet
abbrev pub fresh_reader : ReaderView
fresh_reader = record { ahead = []; given = 0; line = [] }

-- a line was marked; or memory was refused, and nothing happened
abbrev pub BeginsLine : Result (Unit {0}) Exit → ℕ → WireView → WireView → Type 0
BeginsLine (Ok done) number old new = MarksLine number old new
BeginsLine (Err exit) number old new = (exit ≡ NoMemory) × (new ≡ old)

-- a line was done, and printed
pub record PrintsLine (around : Around) (number : ℕ) (last : List Entry) (line : List ℕ) (old new : WireView) (before after : Option (List ℕ)) : Type 0 where
  pub text : List ℕ
  pub does : DoesLine around number last line text old new
  pub printed : Appends text before after

-- what was done with a line: carried out and printed, or passed over; refused; carried out and printed in part; marked, since
-- the shelf failed; or marked at most, or a part of its drill carried out, since memory was refused
abbrev pub ServesLine : Around → Result (Unit {0}) Exit → ℕ → List Entry → List ℕ → WireView → WireView → (before after : Option (List ℕ)) → Type 0
ServesLine around (Ok done) number last line old new before after =
    (PassesOver line [] old new × Appends [] before after) ⊎ PrintsLine around number last line old new before after
ServesLine around (Err (BadLine at reason)) number last line old new before after =
    (at ≡ number) × IsFaulty line reason × (new ≡ old) × Appends [] before after
ServesLine around (Err SinkFault) number last line old new before after =
    (text : List ℕ) × DoesLine around number last line text old new × AppendsFront text before after
ServesLine around (Err ShelfFault) number last line old new before after =
    (name : List ℕ) × (deed_of line ≡ Ok (Syncs name)) × MarksLine number old new × Appends [] before after
ServesLine around (Err NoMemory) number last line old new before after =
    IsLeft around number line old new × Appends [] before after
ServesLine around (Err other) number last line old new before after = ⊥

-- the exit that ends a script before a line of it, if there is one
abbrev pub exit_at : Next → ℕ → Option Exit
exit_at Line number = None
exit_at Last number = None
exit_at End number = Some Done
exit_at TooLong number = Some (BadLine number why.TooLong)
exit_at Full number = Some ScriptTooLong

-- the exit that ends a script where a line's text was not printed whole
abbrev pub exit_of : PrintErr → Exit
exit_of print_err.Sink = SinkFault
exit_of print_err.NoMemory = NoMemory

-- what was done with an event of the world: it happened, and `ok` was printed, whole or in part; or memory was refused
abbrev pub ServesEvent : Result (Unit {0}) Exit → ℕ → WorldEvent → WireView → WireView → (before after : Option (List ℕ)) → Type 0
ServesEvent (Ok done) number happened old new before after =
    HappensLine number happened old new × Appends (printed (codes "ok")) before after
ServesEvent (Err SinkFault) number happened old new before after =
    HappensLine number happened old new × AppendsFront (printed (codes "ok")) before after
ServesEvent (Err NoMemory) number happened old new before after = (new ≡ old) × Appends [] before after
ServesEvent (Err other) number happened old new before after = ⊥

-- what was done with calls of the host: they were made, and their text was printed, whole or in part; or memory was refused,
-- and the line was marked at most
abbrev pub ServesCalls : Result (Unit {0}) Exit → ℕ → BusLine → WireView → WireView → (before after : Option (List ℕ)) → Type 0
ServesCalls (Ok done) number calls old new before after =
    (words : List ℕ) × MakesLine number calls words old new × Appends (printed words) before after
ServesCalls (Err SinkFault) number calls old new before after =
    (words : List ℕ) × MakesLine number calls words old new × AppendsFront (printed words) before after
ServesCalls (Err NoMemory) number calls old new before after =
    ((new ≡ old) ⊎ MarksLine number old new) × Appends [] before after
ServesCalls (Err other) number calls old new before after = ⊥

-- what was done with an event that is to be armed: it was armed or refused, and that was printed, whole or in part; or memory
-- was refused
abbrev pub ServesArm : Result (Unit {0}) Exit → (number call : ℕ) → WorldEvent → WireView → WireView → (before after : Option (List ℕ)) → Type 0
ServesArm (Ok done) number call event old new before after =
    (armed : Result (Unit {0}) ArmsFull) × ArmsLine number call event armed old new × Appends (printed (armed_text armed)) before after
ServesArm (Err SinkFault) number call event old new before after =
    (armed : Result (Unit {0}) ArmsFull) × ArmsLine number call event armed old new × AppendsFront (printed (armed_text armed)) before after
ServesArm (Err NoMemory) number call event old new before after = (new ≡ old) × Appends [] before after
ServesArm (Err other) number call event old new before after = ⊥

-- what was done with a cut that is to be armed
abbrev pub ServesCut : Result (Unit {0}) Exit → (number operation : ℕ) → List ℕ → WireView → WireView → (before after : Option (List ℕ)) → Type 0
ServesCut (Ok done) number operation torn old new before after =
    CutsLine number operation torn old new × Appends (printed (codes "ok")) before after
ServesCut (Err SinkFault) number operation torn old new before after =
    CutsLine number operation torn old new × AppendsFront (printed (codes "ok")) before after
ServesCut (Err NoMemory) number operation torn old new before after = (new ≡ old) × Appends [] before after
ServesCut (Err other) number operation torn old new before after = ⊥

-- what was done with an image that is to be synced: it was, and its text was printed, whole or in part; or the shelf failed, and
-- the line was marked; or memory was refused, and it was marked at most
abbrev pub ServesSync : Result (Unit {0}) Exit → Around → (number : ℕ) → (name : List ℕ) → WireView → WireView → (before after : Option (List ℕ)) → Type 0
ServesSync (Ok done) around number name old new before after =
    (words : List ℕ) × SyncsLine around number name words old new × Appends (printed words) before after
ServesSync (Err SinkFault) around number name old new before after =
    (words : List ℕ) × SyncsLine around number name words old new × AppendsFront (printed words) before after
ServesSync (Err ShelfFault) around number name old new before after = MarksLine number old new × Appends [] before after
ServesSync (Err NoMemory) around number name old new before after =
    ((new ≡ old) ⊎ MarksLine number old new) × Appends [] before after
ServesSync (Err other) around number name old new before after = ⊥

-- what was done with a drill: it was carried out, and its text was printed, whole or in part; or memory was refused, behind a part
-- of it
abbrev pub ServesDrill : Result (Unit {0}) Exit → (size number x rounds : ℕ) → WireView → WireView → (before after : Option (List ℕ)) → Type 0
ServesDrill (Ok done) size number x rounds old new before after =
    (words : List ℕ) × DrillsLine size number x rounds words old new × Appends (printed words) before after
ServesDrill (Err SinkFault) size number x rounds old new before after =
    (words : List ℕ) × DrillsLine size number x rounds words old new × AppendsFront (printed words) before after
ServesDrill (Err NoMemory) size number x rounds old new before after =
    ((new ≡ old) ⊎ DrillsLineInPart size number x rounds old new) × Appends [] before after
ServesDrill (Err other) size number x rounds old new before after = ⊥

-- the exit that ends a script where a line was not synced and printed whole
abbrev pub exit_of_sync : SyncLineErr → Exit
exit_of_sync sync_err.Shelf = ShelfFault
exit_of_sync sync_err.Sink = SinkFault
exit_of_sync sync_err.NoMemory = NoMemory

-- what was done with entries that are to be counted
abbrev pub ServesTrace : Result (Unit {0}) Exit → (number : ℕ) → (last : List Entry) → WireView → WireView → (before after : Option (List ℕ)) → Type 0
ServesTrace (Ok done) number last old new before after =
    MarksLine number old new × Appends (printed (trace_text last)) before after
ServesTrace (Err SinkFault) number last old new before after =
    MarksLine number old new × AppendsFront (printed (trace_text last)) before after
ServesTrace (Err NoMemory) number last old new before after = (new ≡ old) × Appends [] before after
ServesTrace (Err other) number last old new before after = ⊥

-- a script was served as far as the exit says
pub record Serves (around : Around) (exit : Exit) (old new : WireView) (left rest before after : Option (List ℕ)) : Type 0 where
  pub own : List Entry
  pub extends : Extends own old new
  pub plays : PlaysUpTo around old.entries exit old new left rest before after

-- nothing was done
pub record DoesNothing (old new : WireView) (left rest before after : Option (List ℕ)) : Type 0 where
  pub same : new ≡ old
  pub unread : rest ≡ left
  pub unprinted : Appends [] before after

-- room was made, power came, and a script was served
pub record PowersAndServes (around : Around) (exit : Exit) (old new : WireView) (left rest before after : Option (List ℕ)) : Type 0 where
  pub spare : ℕ
  pub powered : WireView
  pub powers : PowersOn (with_spare spare old) powered
  pub serves : Serves around exit powered new left rest before after

-- the whole of it, or nothing, since memory was refused
abbrev pub Drives : Around → Exit → WireView → WireView → (left rest before after : Option (List ℕ)) → Type 0
Drives around NoMemory old new left rest before after =
    DoesNothing old new left rest before after ⊎ PowersAndServes around NoMemory old new left rest before after
Drives around exit old new left rest before after = PowersAndServes around exit old new left rest before after
