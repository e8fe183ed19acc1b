-- Rounds behind rounds, and those for which memory was refused.
use Rattle.std.proofs.Common.{◌≡◌, refl, sym, ap, ◌∙◌, subst, ℕ, suc, ◌+◌, ◌≤◌, ◌<◌, Bool, true, false, not, cond, List, Result, Ok, Err, arith}
use Rattle.std.specs.Prelude.{IsErr, IsErrAnd}
use Rattle.ec_wire.specs.Calls.{WireView}
use Rattle.bench_io.specs.declared.printing.PrintErr.{PrintErr}
use Rattle.bench_io.specs.declared.printing.PrintErr.TheVariants.{Sink, NoMemory}
use Rattle.drill_draws.specs.Rounds.{drill_image, drill_operation, drill_torn, behind_round}
use Rattle.drill_lines.specs.declared.drill.Counts.{Counts}
use Rattle.drill_lines.specs.declared.rounds.Round.{Round}
use Rattle.drill_lines.specs.Drilling.{disarmed, PowersBack, IsUpset, ComesBack, SyncsAgain, AtPower, AtSecond, DrillsRound, DrillsInRound, DrillsRounds, DrillsInPart, PlaysRound, PlaysRounds, behind_rounds}

-- what was drawn for the round behind so many
pub record IsDrawn (size x played : ℕ) (image : List ℕ) (operation : ℕ) (torn : List ℕ) : Type 0 where
  pub image_is : image ≡ drill_image (played + 1) size (behind_rounds played x)
  pub operation_is : operation ≡ drill_operation (behind_rounds played x)
  pub torn_is : torn ≡ drill_torn (behind_rounds played x)

-- one round more
pub round-more : (size x played : ℕ) (old now new : WireView) (cuts done : ℕ) (image : List ℕ) (operation : ℕ) (torn : List ℕ) (lost finished : Bool) → DrillsRounds size x played old now cuts done → IsDrawn size x played image operation torn → DrillsRound image operation torn now new lost finished →
    DrillsRounds size x (played + 1) old new (cuts + cond lost 1 0) (done + cond finished 1 0)
round-more size x played old now new cuts done image operation torn lost finished earlier drawn round =
    let y = behind_rounds played x in
    let at : DrillsRound (drill_image (played + 1) size y) (drill_operation y) (drill_torn y) now new lost finished =
    subst (λ (bytes : List ℕ). DrillsRound (drill_image (played + 1) size y) (drill_operation y) bytes now new lost finished) drawn.torn_is
    (subst (λ (n : ℕ). DrillsRound (drill_image (played + 1) size y) n torn now new lost finished) drawn.operation_is
    (subst (λ (bytes : List ℕ). DrillsRound bytes operation torn now new lost finished) drawn.image_is round)) in
    let count : suc played ≡ played + 1 = omega arith in
    subst (λ (n : ℕ). DrillsRounds size x n old new (cuts + cond lost 1 0) (done + cond finished 1 0)) count
    (now, cuts, done, lost, finished, earlier, at, refl, refl)

-- memory was refused in the round behind so many
in-part : (size x rounds played : ℕ) (old now new : WireView) (cuts done : ℕ) (image : List ℕ) (operation : ℕ) (torn : List ℕ) → played < rounds → DrillsRounds size x played old now cuts done → IsDrawn size x played image operation torn → DrillsInRound image operation torn now new →
    DrillsInPart size x rounds old new
in-part size x rounds played old now new cuts done image operation torn fewer earlier drawn part =
    let y = behind_rounds played x in
    record {
      whole = played;
      fewer = fewer;
      cuts = cuts;
      done = done;
      middle = now;
      drilled = earlier;
      part = subst (λ (bytes : List ℕ). DrillsInRound (drill_image (played + 1) size y) (drill_operation y) bytes now new) drawn.torn_is
          (subst (λ (n : ℕ). DrillsInRound (drill_image (played + 1) size y) n torn now new) drawn.operation_is
          (subst (λ (bytes : List ℕ). DrillsInRound bytes operation torn now new) drawn.image_is part));
    }

pub rounds-stopped : (result : Result Counts PrintErr) (error : PrintErr) (size x rounds played : ℕ) (old now new : WireView) (cuts done : ℕ) (image : List ℕ) (operation : ℕ) (torn : List ℕ) → played < rounds → IsErr result × IsErrAnd result (λ e. e ≡ error) →
    DrillsRounds size x played old now cuts done → IsDrawn size x played image operation torn → PlaysRound (Err error) image operation torn now new → PlaysRounds result size x rounds old new
rounds-stopped (Ok counts) error size x rounds played old now new cuts done image operation torn fewer (never, same) earlier drawn plays = cc
rounds-stopped (Err e) Sink size x rounds played old now new cuts done image operation torn fewer (is, same) earlier drawn plays = absurd plays
rounds-stopped (Err e) NoMemory size x rounds played old now new cuts done image operation torn fewer (is, same) earlier drawn plays =
    subst (λ (cause : PrintErr). PlaysRounds (Err cause) size x rounds old new) (sym same)
    (in-part size x rounds played old now new cuts done image operation torn fewer earlier drawn plays)

-- memory was refused for the power that is to come
pub at-power : (result : Result Round PrintErr) (error : PrintErr) (on : Bool) (image : List ℕ) (operation : ℕ) (torn : List ℕ) (old synced mid new : WireView) → IsErr result × IsErrAnd result (λ e. e ≡ error) → IsUpset image operation torn old synced → mid ≡ disarmed synced → ComesBack (Err error) on mid new →
    PlaysRound result image operation torn old new
at-power (Ok round) error on image operation torn old synced mid new (never, same) upset mid_is comes = cc
at-power (Err e) Sink on image operation torn old synced mid new (is, same) upset mid_is comes = absurd comes
at-power (Err e) NoMemory on image operation torn old synced mid new (is, same) upset mid_is comes =
    subst (λ (cause : PrintErr). PlaysRound (Err cause) image operation torn old new) (sym same) (AtPower synced upset (comes ∙ mid_is))

-- power came back behind the first half
comes-back : (on : Bool) (synced mid powered : WireView) → on ≡ synced.on → mid ≡ disarmed synced → PowersBack on mid powered → PowersBack synced.on (disarmed synced) powered
comes-back on synced mid powered on_is mid_is powers =
    subst (λ (b : Bool). PowersBack b (disarmed synced) powered) on_is (subst (λ (view : WireView). PowersBack on view powered) mid_is powers)

-- memory was refused for the second sync
pub at-second : (result : Result Round PrintErr) (error : PrintErr) (on : Bool) (image : List ℕ) (operation : ℕ) (torn : List ℕ) (old synced mid powered new : WireView) → IsErr result × IsErrAnd result (λ e. e ≡ error) → IsUpset image operation torn old synced → on ≡ synced.on → mid ≡ disarmed synced → PowersBack on mid powered →
    SyncsAgain (Err error) image powered new → PlaysRound result image operation torn old new
at-second (Ok round) error on image operation torn old synced mid powered new (never, same) upset on_is mid_is powers again = cc
at-second (Err e) Sink on image operation torn old synced mid powered new (is, same) upset on_is mid_is powers again = absurd again
at-second (Err e) NoMemory on image operation torn old synced mid powered new (is, same) upset on_is mid_is powers still =
    let came = comes-back on synced mid powered on_is mid_is powers in
    subst (λ (cause : PrintErr). PlaysRound (Err cause) image operation torn old new) (sym same)
    (AtSecond synced upset (subst (λ (view : WireView). PowersBack synced.on (disarmed synced) view) (sym still) came))

-- a whole round
pub round-played : (on : Bool) (image : List ℕ) (operation : ℕ) (torn : List ℕ) (old synced mid powered new : WireView) (done : Bool) → IsUpset image operation torn old synced → on ≡ synced.on → mid ≡ disarmed synced → PowersBack on mid powered → SyncsAgain (Ok done) image powered new →
    DrillsRound image operation torn old new (not on) done
round-played on image operation torn old synced mid powered new done upset on_is mid_is powers (end, ended, again, done_is) =
    record {
      synced = synced;
      powered = powered;
      end = end;
      upset = upset;
      powers = comes-back on synced mid powered on_is mid_is powers;
      ended = ended;
      again = again;
      lost_is = ap not on_is;
      done_is = done_is;
    }

-- the counts behind one round more are as its definition says
pub round-counted : (size x played : ℕ) (old now new : WireView) (cuts done one two : ℕ) (image : List ℕ) (operation : ℕ) (torn : List ℕ) (lost finished : Bool) → one ≡ cond lost 1 0 → two ≡ cond finished 1 0 → DrillsRounds size x played old now cuts done → IsDrawn size x played image operation torn →
    DrillsRound image operation torn now new lost finished → DrillsRounds size x (played + 1) old new (cuts + one) (done + two)
round-counted size x played old now new cuts done one two image operation torn lost finished one_is two_is earlier drawn round =
    rw (one_is, two_is) (round-more size x played old now new cuts done image operation torn lost finished earlier drawn round)

-- a count is at most one more
pub count-few : (so : Bool) (n : ℕ) → n ≡ cond so 1 0 → n ≤ 1
count-few true n is = omega (arith, is)
count-few false n is = omega (arith, is)

-- the number of a generator behind one round more
pub behind-more : (played x y : ℕ) → y ≡ behind_round (behind_rounds played x) → y ≡ behind_rounds (played + 1) x
behind-more played x y is =
    let count : suc played ≡ played + 1 = omega arith in
    is ∙ ap (λ (n : ℕ). behind_rounds n x) count
