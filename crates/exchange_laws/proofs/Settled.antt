-- Valid tables on any bus: what they say of their bus and their core, and that they are valid once settled.
use Rattle.std.proofs.Common.{◌≡◌, refl, Bool, true, false, if◌then◌else◌}
use Rattle.ec_model.specs.declared.event.Event.{Event}
use Rattle.ec_model.specs.declared.event.Event.TheVariants.{Tick}
use Rattle.ec_model.specs.declared.event.Entry.TheVariants.{Step}
use Rattle.flash_dev.specs.declared.hurt.Hurt.TheVariants.{Whole}
use Rattle.ec_model.specs.Bus.{kind_of}
use Rattle.ec_model.specs.Table.{Table, Awake, Power, Off, On, Valid, IsBusValid, core_of, table_of}
use Rattle.ec_model.specs.WholeStep.{stepped, stepped_by}
use Rattle.ec_model.specs.Step.{EventLeavesBy}
use Rattle.ec_model.specs.Syncable.{waits_on_lpc, settled_by, settled}
use Rattle.ec_model.proofs.ValidRows.{IsCoreValid}
use Rattle.ec_model.proofs.ValidEvents.{step-valid}

-- a table that is on is its core with its bus
pub as-table : (table : Table) (awake : Awake) → table.power ≡ On awake → kind_of awake.bus ≡ table.kind → table ≡ table_of (core_of table awake) awake.bus
as-table table awake on kind = rw (kind, ← on) refl

-- what a valid table that is on says of its bus
pub record BusFacts (table : Table) (awake : Awake) : Type 0 where
  pub kind : kind_of awake.bus ≡ table.kind
  pub valid : IsBusValid awake.bus
  pub core : IsCoreValid (core_of table awake)

-- a valid table that is on has a valid bus and a valid core
pub bus-facts : (table : Table) (awake : Awake) → Valid table → table.power ≡ On awake → BusFacts table awake
bus-facts table awake valid on =
    let awake_valid = rw on at valid.power in
    record { kind = awake_valid.bus_kind; valid = awake_valid.bus; core = record { size = valid.size; all_with_ro = awake_valid.all_with_ro; jumped = awake_valid.jumped; erase = awake_valid.erase; hash = awake_valid.hash; saved = awake_valid.saved } }

-- what an event leaves where nothing fails
pub whole-leaves : (table : Table) (event : Event) (power : Power) → EventLeavesBy Whole table event power (stepped_by table event power)
whole-leaves table event Off = refl
whole-leaves table event (On awake) = refl

-- a table is valid behind a tick, and without one
tick-valid : (table : Table) (waits : Bool) → Valid table → Valid (if waits then (stepped table Tick).table else table)
tick-valid table true valid = step-valid table (Step Tick (stepped table Tick).answer 0 0 Whole) (stepped table Tick).table valid (whole-leaves table Tick table.power)
tick-valid table false valid = valid

-- a settled table is valid
pub settled-valid : (table : Table) → Valid table → Valid (settled table)
settled-valid table valid = settled-valid-by table table.power refl valid
  where
    settled-valid-by : (table : Table) (power : Power) → table.power ≡ power → Valid table → Valid (settled_by table power)
    settled-valid-by table Off same valid = valid
    settled-valid-by table (On awake) same valid = tick-valid table (waits_on_lpc awake.bus) valid
