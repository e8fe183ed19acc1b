-- A controller as a command finds it and leaves it, and the room that the host has.
use Rattle.std.specs.Prelude.{◌≡◌, ◌≤◌, ◌+◌, ℕ, true, List}
use Rattle.std.specs.List.{list_all}
use Rattle.ec_types.specs.declared.bus.BusKind.{BusKind}
use Rattle.ec_model.specs.declared.event.Entry.{Entry}
use Rattle.ec_model.specs.Asks.{Setting, send_room as least_room}
use Rattle.ec_model.specs.HostCalls.{HostView}
use Rattle.ec_model.specs.Syncable.{settled}
use Rattle.ec_model.specs.Table.{Table, Awake, On, Core, Valid, core_of}
use Rattle.ec_model.specs.Upset.{IsUndisturbed}
use Rattle.ec_wire.specs.Calls.{is_wire_step}
use Rattle.exchange_laws.specs.Served.{LeavesCore}

-- entries of a wire's calls that nothing disturbs
pub record IsQuiet (entries : List Entry) : Type 0 where
  pub calm : IsUndisturbed entries
  pub steps : list_all is_wire_step entries ≡ true

-- a controller on this bus that is on; this is its core, once the request that waits was served
pub record IsOpen (kind : BusKind) (core : Core) (table : Table) : Type 0 where
  pub valid : Valid table
  pub kind_is : table.kind ≡ kind
  pub awake : Awake
  pub on : (settled table).power ≡ On awake
  pub core_is : core_of (settled table) awake ≡ core

-- the same, and no request waits
pub record IsAt (kind : BusKind) (core : Core) (table : Table) : Type 0 where
  pub valid : Valid table
  pub kind_is : table.kind ≡ kind
  pub leaves : LeavesCore core table

-- there is power, and room for some more
pub record HasRoom (setting : Setting) (view : HostView) (room : ℕ) : Type 0 where
  pub on : view.on ≡ true
  pub enough : setting.floor + least_room + room ≤ view.spare
