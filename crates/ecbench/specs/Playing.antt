-- The calls on a bench that the lines of a script are, and that they are played.
use Rattle.std.specs.Prelude.{◌≡◌, ◌⊎◌, ℕ, zero, suc, ◌+◌, Bool, true, List, [], ◌∷◌, ◌++◌, IsTrue, Ok}
use Rattle.std.specs.List.{list_all}
use Rattle.flash_dev.specs.Told.{Changes}
use Rattle.ec_model.specs.declared.event.Entry.{Entry}
use Rattle.ec_model.specs.Bench.{BenchCall, Happens as HappensNow, Marks, Arms as ArmsEvent, ArmsCut}
use Rattle.ec_model.specs.Played.{PlayedAll}
use Rattle.ec_wire.specs.Calls.{WireView, bench_of, is_host_call}
use Rattle.ec_model.specs.declared.event.WorldEvent.TheVariants.{Power}
use Rattle.drill_draws.specs.Rounds.{drill_operation, drill_torn}
use Rattle.drill_lines.specs.Drilling.{behind_rounds}
use Rattle.ecbench.specs.Lines.{Deed, Nothing, Asks, Happens, Makes, Arms, Cuts, Syncs, Drills, Traces, deed_of}

-- the calls that a round of a drill is: a cut is armed, the host syncs, the cut is disarmed, power comes where it was gone, and the
-- host syncs again
pub record AreRoundCalls (operation : ℕ) (torn : List ℕ) (calls : List BenchCall) : Type 0 where
  pub first : List BenchCall
  pub powers : List BenchCall
  pub second : List BenchCall
  pub first_are : IsTrue (list_all is_host_call first)
  pub powers_are : (powers ≡ []) ⊎ (powers ≡ HappensNow (Power true) ∷ [])
  pub second_are : IsTrue (list_all is_host_call second)
  pub calls_are : calls ≡ ArmsCut operation torn ∷ first ++ (ArmsCut 0 [] ∷ powers ++ second)

-- the calls that so many rounds are, which are drawn from this number
abbrev pub AreDrillCalls : (x rounds : ℕ) → List BenchCall → Type 0
AreDrillCalls x zero calls = calls ≡ []
AreDrillCalls x (suc rounds) calls =
    let y = behind_rounds rounds x in
    (earlier round : List BenchCall) × (calls ≡ earlier ++ round) × AreDrillCalls x rounds earlier
    × AreRoundCalls (drill_operation y) (drill_torn y) round

-- the calls that a line is behind its mark: those of the host, whatever they are; its event; or what it arms, taken or refused
abbrev pub AreOwn : Deed → List BenchCall → Type 0
AreOwn Nothing calls = ⊥
AreOwn (Asks tool) calls = IsTrue (list_all is_host_call calls)
AreOwn (Syncs name) calls = IsTrue (list_all is_host_call calls)
AreOwn (Drills x rounds) calls = AreDrillCalls x rounds calls
AreOwn (Makes line) calls = IsTrue (list_all is_host_call calls)
AreOwn (Happens happened) calls = calls ≡ HappensNow happened ∷ []
AreOwn (Arms call event) calls = (taken : Bool) × (calls ≡ ArmsEvent call event taken ∷ [])
AreOwn (Cuts operation torn) calls = calls ≡ ArmsCut operation torn ∷ []
AreOwn Traces calls = calls ≡ []

-- the calls that a line is which wants something: its mark, and its own
pub record IsMarkedCalls (number : ℕ) (text : List ℕ) (calls : List BenchCall) : Type 0 where
  pub deed : Deed
  pub own : List BenchCall
  pub wants : deed_of text ≡ Ok deed
  pub calls_are : calls ≡ Marks number ∷ own
  pub own_are : AreOwn deed own

-- the calls that a line is: none where it wants nothing
abbrev pub IsCalled : ℕ → List ℕ → List BenchCall → Type 0
IsCalled number text calls = ((deed_of text ≡ Ok Nothing) × (calls ≡ [])) ⊎ IsMarkedCalls number text calls

-- the calls that lines are, the first of which has this number
abbrev pub AreCalled : ℕ → List (List ℕ) → List BenchCall → Type 0
AreCalled number [] calls = calls ≡ []
AreCalled number (text ∷ texts) calls =
    (first rest : List BenchCall) × (calls ≡ first ++ rest) × IsCalled number text first × AreCalled (number + 1) texts rest

-- where the flash tells its bytes, the calls added these entries to the bench
abbrev pub PlaysOn : List BenchCall → List Entry → WireView → WireView → Type 0
PlaysOn calls added old new = Changes (λ before after. PlayedAll (bench_of old before) calls added (bench_of new after)) old.table new.table

-- from one view to another: the calls that these lines are were played, and added all that was added
pub record PlaysLines (lines : List (List ℕ)) (old new : WireView) : Type 0 where
  pub calls : List BenchCall
  pub called : AreCalled 1 lines calls
  pub added : List Entry
  pub entries : new.entries ≡ old.entries ++ added
  pub played : PlaysOn calls added old new
