-- What a contract sees of a journal.
use Rattle.std.specs.Prelude.{ℕ, List}
use Rattle.ec_model.specs.declared.event.Entry.{Entry}

-- the entries so far, and for how many there is room
pub record JournalView : Type 0 where
  pub entries : List Entry
  pub spare : ℕ
