-- Lines of a script that are done on a bench.
--
-- Where a script stands is told by what the bench shows its host (`WireView`): the journal so far, the room in it, whether the
-- controller is on, what is armed, and, where the flash tells its bytes, the controller's state. Each line leads from one such view
-- to the next.
use Rattle.std.specs.Prelude.{◌≡◌, ℕ, ◌+◌, List, [], ◌∷◌, ◌++◌, codes, Option, Result, Ok, Err}
use Rattle.ec_types.specs.Tables.{packet_limit}
use Rattle.ec_types.specs.declared.why.Why.{Why}
use Rattle.flash_dev.specs.Told.{Changes}
use Rattle.ec_model.specs.declared.event.WorldEvent.{WorldEvent}
use Rattle.ec_model.specs.declared.event.WorldEvent.TheVariants as world
use Rattle.ec_model.specs.declared.event.Entry.{Entry}
use Rattle.ec_model.specs.Bench.{cut_at}
use Rattle.ec_model.specs.Table.{Table}
use Rattle.ec_wire.specs.Calls.{WireView, with_spare}
use Rattle.bench_wire.specs.Adding.{IsMarked, Happens as HappensNow}
use Rattle.bench_wire.specs.Arming.{IsArmed}
use Rattle.bench_wire.specs.declared.arms.ArmsFull.{ArmsFull}
use Rattle.script_words.specs.Forms.{◌>>=◌}
use Rattle.script_lines.specs.declared.line.Line.{Line}
use Rattle.script_lines.specs.declared.line.Line.TheVariants as line
use Rattle.script_lines.specs.declared.line.BusLine.{BusLine}
use Rattle.script_lines.specs.Lines.{line_of}
use Rattle.bus_lines.specs.Making.{MakesBusLine}
use Rattle.ectool_lines.specs.declared.tool.Tool.{Tool}
use Rattle.ectool_lines.specs.Tools.{tool_of, IsInRange}
use Rattle.ectool_lines.specs.Requests.{Asked, commands_of}
use Rattle.ectool_lines.specs.Texts.{LineEnd, printed}
use Rattle.ectool_lines.specs.Asking.{AsksEach}
use Rattle.ectool_lines.specs.Following.{stands, Follows}
use Rattle.ectool_lines.specs.Running.{Carries}
use Rattle.bench_shelf.specs.Shelves.{File}
use Rattle.sync_lines.specs.Syncing.{SyncsName}
use Rattle.drill_lines.specs.Drilling.{Drills as IsDrill, DrillsInPart}
use Rattle.ecbench.specs.Tracing.{trace_text}

-- what is around the lines of a script: the size of the controller's flash, and the shelf's files, where they are told
pub record Around : Type 0 where
  pub size : ℕ
  pub files : Option (List File)

-- what a line wants: nothing, that commands are sent, that an event of the world happens, that the host makes calls of its
-- own, that an event of the world is armed for a call to come, that a cut is armed for a flash operation to come, that an image
-- of the shelf is synced, that a drill is carried out, or that entries are counted
pub data Deed : Type 0 where
  Nothing : Deed
  Asks : Tool → Deed
  Happens : WorldEvent → Deed
  Makes : BusLine → Deed
  Arms : (call : ℕ) → WorldEvent → Deed
  Cuts : (operation : ℕ) → (torn : List ℕ) → Deed
  Syncs : (name : List ℕ) → Deed
  Drills : (x rounds : ℕ) → Deed
  Traces : Deed

-- what a line wants that was read so far
abbrev pub deed_by : List ℕ → Line → Result Deed Why
deed_by text line.Nothing = Ok Nothing
deed_by text line.Tool = tool_of text >>= λ tool. Ok (Asks tool)
deed_by text (line.Pin on) = Ok (Happens (world.Pin on))
deed_by text (line.Power on) = Ok (Happens (world.Power on))
deed_by text (line.Reset cause) = Ok (Happens (world.Reset cause))
deed_by text (line.Bus calls) = Ok (Makes calls)
deed_by text (line.At call event) = Ok (Arms call event)
deed_by text (line.Cut operation torn) = Ok (Cuts operation torn)
deed_by text (line.Sync name) = Ok (Syncs name)
deed_by text (line.Drill x rounds) = Ok (Drills x rounds)
deed_by text line.Trace = Ok Traces

-- what a line wants, or its first fault
abbrev pub deed_of : List ℕ → Result Deed Why
deed_of text = line_of text >>= λ read. deed_by text read

-- a line is outside the grammar, and this is its first fault
abbrev pub IsFaulty : List ℕ → Why → Type 0
IsFaulty text reason = deed_of text ≡ Err reason

-- room was made, and a line marked
pub record MarksLine (number : ℕ) (old new : WireView) : Type 0 where
  pub spare : ℕ
  pub marked : IsMarked number (with_spare spare old) new

-- where the flash tells its bytes, each command goes as the definitions say from the state that it finds, where nothing
-- disturbed it; and where it is not answered, something did
abbrev pub FollowsEach : List Asked → List Entry → LineEnd → (room left : ℕ) → Option Table → Option Table → Type 0
FollowsEach commands entries end room left = Changes (λ old new. AsksEach Follows (stands old room) commands entries end (stands new left))

-- a line was marked, and its commands were sent in their order; this is its text, by how they ended
pub record CarriesLine (number : ℕ) (text said : List ℕ) (old new : WireView) : Type 0 where
  pub tool : Tool
  pub wants : deed_of text ≡ Ok (Asks tool)
  pub within : IsInRange tool
  pub marked : WireView
  pub marks : MarksLine number old marked
  pub carries : Carries tool said marked new
  pub follows : FollowsEach (commands_of (packet_limit marked.bus) tool) carries.carried.added carries.carried.end carries.spare new.spare marked.table new.table

-- a line was marked, and its event happened
pub record HappensLine (number : ℕ) (happened : WorldEvent) (old new : WireView) : Type 0 where
  pub marked : WireView
  pub marks : MarksLine number old marked
  pub happens : HappensNow happened marked new

-- a line was marked, and these calls of the host were made; these are its words
pub record MakesLine (number : ℕ) (calls : BusLine) (words : List ℕ) (old new : WireView) : Type 0 where
  pub marked : WireView
  pub marks : MarksLine number old marked
  pub makes : MakesBusLine calls words marked new

-- what is printed of an event that was to be armed
abbrev pub armed_text : Result (Unit {0}) ArmsFull → List ℕ
armed_text (Ok done) = codes "ok"
armed_text (Err full) = codes "too many armed events"

-- a line was marked, and an event of the world was armed behind the others, or refused where 64 are armed
pub record ArmsLine (number call : ℕ) (event : WorldEvent) (result : Result (Unit {0}) ArmsFull) (old new : WireView) : Type 0 where
  pub marked : WireView
  pub marks : MarksLine number old marked
  pub armed : IsArmed call event result marked new

-- a line was marked, and a cut was armed in place of another one
pub record CutsLine (number operation : ℕ) (torn : List ℕ) (old new : WireView) : Type 0 where
  pub marked : WireView
  pub marks : MarksLine number old marked
  pub armed : new ≡ record marked { cut = cut_at operation torn }

-- a line was marked, and the image of this name was synced; these are its words
pub record SyncsLine (around : Around) (number : ℕ) (name words : List ℕ) (old new : WireView) : Type 0 where
  pub marked : WireView
  pub marks : MarksLine number old marked
  pub synced : SyncsName around.files around.size name words marked new

-- a line was marked, and a drill was carried out; these are its words
pub record DrillsLine (size number x rounds : ℕ) (words : List ℕ) (old new : WireView) : Type 0 where
  pub marked : WireView
  pub marks : MarksLine number old marked
  pub drill : IsDrill size x rounds words marked new

-- a line was marked, and a part of a drill was carried out
pub record DrillsLineInPart (size number x rounds : ℕ) (old new : WireView) : Type 0 where
  pub marked : WireView
  pub marks : MarksLine number old marked
  pub part : DrillsInPart size x rounds marked new

-- what there is of a line for which memory was refused
pub data IsLeft (around : Around) (number : ℕ) (text : List ℕ) (old new : WireView) : Type 0 where
  Unmarked : new ≡ old → IsLeft around number text old new
  JustMarked : MarksLine number old new → IsLeft around number text old new
  DrilledInPart : (x rounds : ℕ) → deed_of text ≡ Ok (Drills x rounds) → DrillsLineInPart around.size number x rounds old new → IsLeft around number text old new

-- a line that wants something was done, and this is its text; `last` are the entries of the last line before that did something
pub data DoesLine (around : Around) (number : ℕ) (last : List Entry) (text said : List ℕ) (old new : WireView) : Type 0 where
  Carried : CarriesLine number text said old new → DoesLine around number last text said old new
  Happened : (happened : WorldEvent) → deed_of text ≡ Ok (Happens happened) → HappensLine number happened old new → said ≡ printed (codes "ok") → DoesLine around number last text said old new
  Made : (calls : BusLine) (words : List ℕ) → deed_of text ≡ Ok (Makes calls) → MakesLine number calls words old new → said ≡ printed words → DoesLine around number last text said old new
  HasArmed : (call : ℕ) (event : WorldEvent) (result : Result (Unit {0}) ArmsFull) → deed_of text ≡ Ok (Arms call event) → ArmsLine number call event result old new → said ≡ printed (armed_text result) → DoesLine around number last text said old new
  HasCut : (operation : ℕ) (torn : List ℕ) → deed_of text ≡ Ok (Cuts operation torn) → CutsLine number operation torn old new → said ≡ printed (codes "ok") → DoesLine around number last text said old new
  Synced : (name words : List ℕ) → deed_of text ≡ Ok (Syncs name) → SyncsLine around number name words old new → said ≡ printed words → DoesLine around number last text said old new
  Drilled : (x rounds : ℕ) (words : List ℕ) → deed_of text ≡ Ok (Drills x rounds) → DrillsLine around.size number x rounds words old new → said ≡ printed words → DoesLine around number last text said old new
  Traced : deed_of text ≡ Ok Traces → MarksLine number old new → said ≡ printed (trace_text last) → DoesLine around number last text said old new

-- a line that wants nothing was passed over
pub record PassesOver (text said : List ℕ) (old new : WireView) : Type 0 where
  pub wants : deed_of text ≡ Ok Nothing
  pub unsaid : said ≡ []
  pub same : new ≡ old

-- a line was passed over, or done; `own` are the entries of the last line that did something then
pub data IsDone (around : Around) (number : ℕ) (last : List Entry) (text said : List ℕ) (old new : WireView) (own : List Entry) : Type 0 where
  WasPassed : PassesOver text said old new → own ≡ last → IsDone around number last text said old new own
  WasDone : DoesLine around number last text said old new → new.entries ≡ old.entries ++ own → IsDone around number last text said old new own

-- lines were done one after the other, the first of which has this number; `own` are the entries of the last one that did
-- something then
abbrev pub AreDone : Around → ℕ → (last : List Entry) → List (List ℕ) → (said : List ℕ) → (old new : WireView) → (own : List Entry) → Type 0
AreDone around number last [] said old new own = (said ≡ []) × (new ≡ old) × (own ≡ last)
AreDone around number last (text ∷ texts) said old new own =
    (words more : List ℕ) × (middle : WireView) × (here : List Entry) × (said ≡ words ++ more)
    × IsDone around number last text words old middle here × AreDone around (number + 1) here texts more middle new own
