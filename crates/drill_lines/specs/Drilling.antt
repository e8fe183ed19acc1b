-- A drill: rounds of an image that is synced while power is cut, and then synced again.
use Rattle.std.specs.Prelude.{◌≡◌, ◌<◌, ℕ, zero, suc, ◌+◌, Bool, true, false, not, cond, List, [], ◌++◌, codes, decimal, None, Option, Result, Ok, Err}
use Rattle.ec_model.specs.Bench.{cut_at}
use Rattle.ec_model.specs.declared.event.WorldEvent.TheVariants.{Power}
use Rattle.ec_wire.specs.Calls.{WireView, with_spare}
use Rattle.bench_wire.specs.Adding.{Happens}
use Rattle.bench_io.specs.Texts.{printed}
use Rattle.bench_io.specs.Printing.{Appends, AppendsFront}
use Rattle.bench_io.specs.declared.printing.PrintErr.{PrintErr}
use Rattle.bench_io.specs.declared.printing.PrintErr.TheVariants.{Sink, NoMemory}
use Rattle.drill_draws.specs.Rounds.{drill_image, drill_operation, drill_torn, behind_round}
use Rattle.sync_rules.specs.declared.ending.SyncEnd.{SyncEnd}
use Rattle.sync_rules.specs.declared.ending.SyncEnd.TheVariants.{Done, NoMemory as EndNoMemory}
use Rattle.sync_engine.specs.OnWire.{SyncsInRoom}
use Rattle.drill_lines.specs.declared.drill.Counts.{Counts}
use Rattle.drill_lines.specs.declared.rounds.Round.{Round}

-- whether a sync is done
abbrev pub is_done : SyncEnd → Bool
is_done (Done wrote) = true
is_done other = false

-- a cut was armed, in place of another one
abbrev pub armed : (operation : ℕ) → (torn : List ℕ) → WireView → WireView
armed operation torn view = record view { cut = cut_at operation torn }

-- no cut is armed any more
abbrev pub disarmed : WireView → WireView
disarmed view = record view { cut = None }

-- power came, where it was gone
abbrev pub PowersBack : Bool → WireView → WireView → Type 0
PowersBack true old new = new ≡ old
PowersBack false old new = (spare : ℕ) × Happens (Power true) (with_spare spare old) new

-- the first half of a round: a cut was armed, and the image synced
pub record IsUpset (image : List ℕ) (operation : ℕ) (torn : List ℕ) (old synced : WireView) : Type 0 where
  pub end : SyncEnd
  pub ended : ¬ (end ≡ EndNoMemory)
  pub syncs : SyncsInRoom image end (armed operation torn old) synced

-- a round: behind the first half the cut was disarmed, and power came, where it was gone; and the image was synced once more.
-- `lost` says whether power was gone, and `done` whether the last sync is done
pub record DrillsRound (image : List ℕ) (operation : ℕ) (torn : List ℕ) (old new : WireView) (lost done : Bool) : Type 0 where
  pub synced : WireView
  pub powered : WireView
  pub end : SyncEnd
  pub upset : IsUpset image operation torn old synced
  pub powers : PowersBack synced.on (disarmed synced) powered
  pub ended : ¬ (end ≡ EndNoMemory)
  pub again : SyncsInRoom image end powered new
  pub lost_is : lost ≡ not synced.on
  pub done_is : done ≡ is_done end

-- a part of a round behind which memory was refused: for the first sync, for the power that is to come, or for the second sync
pub data DrillsInRound (image : List ℕ) (operation : ℕ) (torn : List ℕ) (old new : WireView) : Type 0 where
  AtFirst : new ≡ armed operation torn old → DrillsInRound image operation torn old new
  AtPower : (synced : WireView) → IsUpset image operation torn old synced → new ≡ disarmed synced → DrillsInRound image operation torn old new
  AtSecond : (synced : WireView) → IsUpset image operation torn old synced → PowersBack synced.on (disarmed synced) new → DrillsInRound image operation torn old new

-- the number of a generator behind so many rounds
abbrev pub behind_rounds : ℕ → ℕ → ℕ
behind_rounds zero x = x
behind_rounds (suc rounds) x = behind_round (behind_rounds rounds x)

-- so many rounds, on a flash of this size, drawn from this number: in how many power was lost, and how many ended with a sync
-- that is done
abbrev pub DrillsRounds : (size x rounds : ℕ) → (old new : WireView) → (cuts done : ℕ) → Type 0
DrillsRounds size x zero old new cuts done = (new ≡ old) × (cuts ≡ 0) × (done ≡ 0)
DrillsRounds size x (suc rounds) old new cuts done =
    let y = behind_rounds rounds x in
    (middle : WireView) × (earlier_cuts earlier_done : ℕ) × (lost finished : Bool) × DrillsRounds size x rounds old middle earlier_cuts earlier_done
    × DrillsRound (drill_image (rounds + 1) size y) (drill_operation y) (drill_torn y) middle new lost finished
    × (cuts ≡ earlier_cuts + cond lost 1 0) × (done ≡ earlier_done + cond finished 1 0)

-- some rounds of a drill, and a part of the next one, behind which memory was refused
pub record DrillsInPart (size x rounds : ℕ) (old new : WireView) : Type 0 where
  pub whole : ℕ
  pub fewer : whole < rounds
  pub cuts : ℕ
  pub done : ℕ
  pub middle : WireView
  pub drilled : DrillsRounds size x whole old middle cuts done
  pub part : let y = behind_rounds whole x in DrillsInRound (drill_image (whole + 1) size y) (drill_operation y) (drill_torn y) middle new

-- what a drill prints, without the line feed
abbrev pub drill_text : (rounds cuts done : ℕ) → List ℕ
drill_text rounds cuts done =
    codes "drill: " ++ decimal rounds ++ codes " rounds, " ++ decimal cuts ++ codes " cuts, " ++ decimal done ++ codes " done"

-- a whole drill, and its text without the line feed
pub record Drills (size x rounds : ℕ) (text : List ℕ) (old new : WireView) : Type 0 where
  pub cuts : ℕ
  pub done : ℕ
  pub drilled : DrillsRounds size x rounds old new cuts done
  pub text_is : text ≡ drill_text rounds cuts done

-- the drill was carried out and its text printed, all of it or at a fault of the sink a front of it; or memory was refused, behind
-- a part of it, and nothing was printed
abbrev pub RunsDrill : Result (Unit {0}) PrintErr → (size x rounds : ℕ) → WireView → WireView → (before after : Option (List ℕ)) → Type 0
RunsDrill (Ok done) size x rounds old new before after =
    (text : List ℕ) × Drills size x rounds text old new × Appends (printed text) before after
RunsDrill (Err Sink) size x rounds old new before after =
    (text : List ℕ) × Drills size x rounds text old new × AppendsFront (printed text) before after
RunsDrill (Err NoMemory) size x rounds old new before after = DrillsInPart size x rounds old new × Appends [] before after

-- what was done of a drill whose text is still to be printed: all of it; or a part, behind which memory was refused
abbrev pub TriesDrill : Result (Unit {0}) PrintErr → (size x rounds : ℕ) → (text : List ℕ) → WireView → WireView → Type 0
TriesDrill (Ok done) size x rounds text old new = Drills size x rounds text old new
TriesDrill (Err NoMemory) size x rounds text old new = DrillsInPart size x rounds old new
TriesDrill (Err Sink) size x rounds text old new = ⊥

-- what was done of rounds
abbrev pub PlaysRounds : Result Counts PrintErr → (size x rounds : ℕ) → WireView → WireView → Type 0
PlaysRounds (Ok counts) size x rounds old new = DrillsRounds size x rounds old new counts.cuts counts.done
PlaysRounds (Err NoMemory) size x rounds old new = DrillsInPart size x rounds old new
PlaysRounds (Err Sink) size x rounds old new = ⊥

-- what was done of a round
abbrev pub PlaysRound : Result Round PrintErr → (image : List ℕ) → (operation : ℕ) → (torn : List ℕ) → WireView → WireView → Type 0
PlaysRound (Ok round) image operation torn old new = DrillsRound image operation torn old new round.lost round.done
PlaysRound (Err NoMemory) image operation torn old new = DrillsInRound image operation torn old new
PlaysRound (Err Sink) image operation torn old new = ⊥

-- what was done of its first half
abbrev pub PlaysHalf : Result (Unit {0}) PrintErr → (image : List ℕ) → (operation : ℕ) → (torn : List ℕ) → WireView → WireView → Type 0
PlaysHalf (Ok done) image operation torn old new = IsUpset image operation torn old new
PlaysHalf (Err NoMemory) image operation torn old new = new ≡ armed operation torn old
PlaysHalf (Err Sink) image operation torn old new = ⊥

-- power came, where it was gone, or memory for its entry was refused
abbrev pub ComesBack : Result (Unit {0}) PrintErr → Bool → WireView → WireView → Type 0
ComesBack (Ok done) on old new = PowersBack on old new
ComesBack (Err NoMemory) on old new = new ≡ old
ComesBack (Err Sink) on old new = ⊥

-- what was done of a sync behind it, and whether that is done
abbrev pub SyncsAgain : Result Bool PrintErr → (image : List ℕ) → WireView → WireView → Type 0
SyncsAgain (Ok done) image old new = (end : SyncEnd) × (¬ (end ≡ EndNoMemory)) × SyncsInRoom image end old new × (done ≡ is_done end)
SyncsAgain (Err NoMemory) image old new = new ≡ old
SyncsAgain (Err Sink) image old new = ⊥
