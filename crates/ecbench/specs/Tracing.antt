-- What `trace` counts among entries, and prints.
use Rattle.std.specs.Prelude.{◌≡◌, ℕ, Bool, true, false, List, ◌++◌, codes, count_by}
use Rattle.std.specs.Fmt.{decimal}
use Rattle.ec_model.specs.declared.event.Event.TheVariants.{Access, Tick}
use Rattle.ec_model.specs.declared.event.Entry.{Entry}
use Rattle.ec_model.specs.declared.event.Entry.TheVariants.{Step}
use Rattle.ec_model.specs.Upset.{is_world}
use Rattle.ecbench.specs.declared.tracing.Counts.{Counts}

-- whether an entry is an access of the host
abbrev pub is_access : Entry → Bool
is_access (Step (Access access) answer meant seen hurt) = true
is_access other = false

-- whether an entry is a tick
abbrev pub is_tick : Entry → Bool
is_tick (Step Tick answer meant seen hurt) = true
is_tick other = false

-- so many of the entries are accesses, ticks, and events of the world
pub record AreCounted (counts : Counts) (entries : List Entry) : Type 0 where
  pub accesses : counts.accesses ≡ count_by is_access entries
  pub ticks : counts.ticks ≡ count_by is_tick entries
  pub world : counts.world_events ≡ count_by is_world entries

-- the text of `trace`, by how many there are of each kind
abbrev pub counts_text : (accesses ticks world_events : ℕ) → List ℕ
counts_text accesses ticks world_events =
    (codes "trace: " ++ decimal accesses) ++ (codes " accesses, " ++ decimal ticks) ++ (codes " ticks, " ++ decimal world_events)
    ++ codes " world events"

-- the text of `trace`, by the entries that it counts
abbrev pub trace_text : List Entry → List ℕ
trace_text entries = counts_text (count_by is_access entries) (count_by is_tick entries) (count_by is_world entries)
