-- The calls of an object in memory, some of which are to fail.
use Rattle.std.specs.Prelude.{ℕ, Bool, List, ◌==◌, if◌then◌else◌}
use Rattle.std.specs.List.{list_any}
use Rattle.flash_dev.specs.Counts.{raised_by}

-- the numbers of the calls that are to fail, how many calls there were, and how many faults
pub record Calls : Type 0 where
  pub failing : List ℕ
  pub made : ℕ
  pub faults : ℕ

-- whether the next call is one that is to fail: the first has the number 1
abbrev pub is_next_failing : Calls → Bool
is_next_failing calls = list_any (λ number. number == raised_by 1 calls.made) calls.failing

-- the calls after one more, which failed or did not
abbrev pub after_call : Bool → Calls → Calls
after_call failed calls = record {
  failing = calls.failing;
  made = raised_by 1 calls.made;
  faults = if failed then raised_by 1 calls.faults else calls.faults;
}

-- no call was made yet
abbrev pub no_calls : List ℕ → Calls
no_calls failing = record { failing = failing; made = 0; faults = 0 }
