-- A part of a sync that nothing disturbs, seen on the controller without its bus.
use Rattle.std.specs.Prelude.{◌≡◌, ◌≤◌, ℕ, List, length, Result}
use Rattle.ec_types.specs.declared.bus.BusKind.{BusKind}
use Rattle.ec_model.specs.declared.event.Entry.{Entry}
use Rattle.ec_model.specs.Asks.{Setting}
use Rattle.ec_model.specs.HostCalls.{HostView, calls_of}
use Rattle.ec_model.specs.Run.{IsRun}
use Rattle.ec_model.specs.Table.{Table, Core}
use Rattle.command_laws.specs.Standing.{IsQuiet, IsOpen, IsAt, HasRoom}
use Rattle.sync_rules.specs.declared.ending.Stop.{Stop}

-- it gave this, left the controller so, and took at most so many calls
pub record IsReached {A : Type 0} (bus : BusKind) (after : Core) (room : ℕ) (entries : List Entry) (told given : Result A Stop) (last : Table) : Type 0 where
  pub told_is : told ≡ given
  pub at : IsAt bus after last
  pub takes : length (calls_of entries) ≤ room

-- from such a table, and with this room, the part always does so
abbrev pub ReachesFrom : {A : Type 0} → (from : Table → Type 0) → Setting → (HostView → List Entry → Result A Stop → Type 0) → Result A Stop → (after : Core) → ℕ → Type 0
ReachesFrom {A} from setting part given after room =
    (view : HostView) (table : Table) (entries : List Entry) (told : Result A Stop) (last : Table) → from table →
    HasRoom setting view room → IsQuiet entries → IsRun table entries last → part view entries told →
    IsReached setting.bus after room entries told given last

-- from this controller, on which no request waits
abbrev pub Reaches : {A : Type 0} → Setting → (HostView → List Entry → Result A Stop → Type 0) → (core : Core) → Result A Stop → (after : Core) → ℕ → Type 0
Reaches setting part core given after room = ReachesFrom (IsAt setting.bus core) setting part given after room

-- from this controller, whatever bus and request it is found with
abbrev pub Opens : {A : Type 0} → Setting → (HostView → List Entry → Result A Stop → Type 0) → (core : Core) → Result A Stop → (after : Core) → ℕ → Type 0
Opens setting part core given after room = ReachesFrom (IsOpen setting.bus core) setting part given after room
