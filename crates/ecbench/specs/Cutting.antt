-- How often power was lost, and by what.
use Rattle.std.specs.Prelude.{◌≡◌, ℕ, ◌+◌, ◌≤◌, min, List, ◌++◌, count_by, Option, Some, None, IfSome, Result, Ok}
use Rattle.ec_types.specs.declared.why.Why.{Why}
use Rattle.flash_dev.specs.Counts.{last_count}
use Rattle.flash_dev.specs.Cuts.{ArmedCut}
use Rattle.ec_model.specs.declared.event.Entry.{Entry}
use Rattle.ec_model.specs.Upset.{is_cut_entry}
use Rattle.ec_wire.specs.Calls.{WireView}
use Rattle.ecbench.specs.Lines.{Deed, Cuts, Drills, deed_of}

-- how many cuts a line arms: one, or one in each round of a drill
abbrev pub cuts_of : Result Deed Why → ℕ
cuts_of (Ok (Cuts operation torn)) = 1
cuts_of (Ok (Drills x rounds)) = rounds
cuts_of other = 0

abbrev pub cuts_in : List ℕ → ℕ
cuts_in text = cuts_of (deed_of text)

-- how many cuts are armed: one at most
abbrev pub armed_cuts : Option ArmedCut → ℕ
armed_cuts None = 0
armed_cuts (Some cut) = 1

-- So many entries lost power, while so many cuts were armed: each of them raised the count of the flash's own cuts, or used up
-- a cut that was armed then or before; and what is still armed was not used up.
pub record CutsBy (armings lost : ℕ) (old : Option ArmedCut) (before : ℕ) (new : Option ArmedCut) (now : ℕ) : Type 0 where
  pub later : before ≤ now
  pub armed : armed_cuts new ≤ armed_cuts old + armings
  pub few : min (before + (lost + armed_cuts new)) last_count ≤ now + (armed_cuts old + armings)

-- from one view to another, while lines armed so many cuts: where the flash tells its bytes, what was added lost power so often
pub record CutsAlong (armings : ℕ) (old new : WireView) : Type 0 where
  pub added : List Entry
  pub entries : new.entries ≡ old.entries ++ added
  pub counted : IfSome old.table (λ table. CutsBy armings (count_by is_cut_entry added) old.cut old.own_cuts new.cut new.own_cuts)
