-- How a command goes on a controller whose flash tells its bytes, whatever befalls it.
use Rattle.std.specs.Prelude.{◌≡◌, ℕ, List, ⊤, IsTrue}
use Rattle.std.specs.List.{list_any}
use Rattle.ec_model.specs.declared.event.Entry.{Entry}
use Rattle.ec_model.specs.HostCalls.{HostView}
use Rattle.ec_model.specs.Table.{Table, is_on}
use Rattle.ec_model.specs.Run.{IsRun}
use Rattle.ec_model.specs.Tries.{Said, Answered, SaidNoPower, SaidUpset, SaidShort}
use Rattle.ec_model.specs.Upset.{is_upset, IsUndisturbed}
use Rattle.ectool_lines.specs.Requests.{Asked}
use Rattle.ectool_lines.specs.Asking.{Hears}
use Rattle.ectool_lines.specs.Answering.{Answers}

-- a controller, and the room that its host has
pub record Stand : Type 0 where
  pub table : Table
  pub spare : ℕ

abbrev pub stands : Table → ℕ → Stand
stands table spare = record { table = table; spare = spare }

-- what the host can ask of it
abbrev pub host_of : Stand → HostView
host_of stand = record { on = is_on stand.table.power; spare = stand.spare }

-- a command that was not answered though there is power and room has an upset among its own entries
abbrev pub IsCaused : Said → List Entry → Type 0
IsCaused SaidUpset entries = IsTrue (list_any is_upset entries)
IsCaused SaidShort entries = ⊤
IsCaused (Answered status body) entries = ⊤
IsCaused SaidNoPower entries = ⊤

-- A command, asked of a controller in this state: its entries lead from one state to the next. Where nothing disturbed them and
-- there was room, it was answered as the definitions say, whatever befell the controller before; and where it was not answered,
-- something did.
pub record Follows (old : Stand) (asked : Asked) (entries : List Entry) (said : Said) (new : Stand) : Type 0 where
  pub hears : Hears old.table.kind (host_of old) asked entries said (host_of new)
  pub run : IsRun old.table entries new.table
  pub answers : IsUndisturbed entries → ¬ (said ≡ SaidShort) → Answers old.table asked entries said new.table
  pub caused : IsCaused said entries
