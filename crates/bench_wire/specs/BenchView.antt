-- What a contract sees of a bench.
use Rattle.std.specs.Prelude.{ℕ, ◌≤◌, List, IfSome}
use Rattle.ec_types.specs.declared.bus.BusKind.{BusKind}
use Rattle.ec_model.specs.declared.event.Entry.{Entry}
use Rattle.ec_model.specs.Bench.{Armed}
use Rattle.ec_core.specs.View.{EcView}
use Rattle.ec_wire.specs.Calls.{WireView, Agrees}
use Rattle.ec_wire.specs.Journals.{JournalView}
use Rattle.bench_wire.specs.Arming.{room_for}

-- what happened so far, for how many more entries there is room besides those of the armed events, what is armed, and the
-- controller
pub record BenchView : Type 0 where
  pub entries : List Entry
  pub spare : ℕ
  pub armed : List Armed
  pub controller : EcView

-- what a controller tells agrees with its table, and the journal has room for what is armed
pub record IsBench (bus : BusKind) (controller : EcView) (journal : JournalView) (armed : List Armed) : Type 0 where
  pub agrees : IfSome controller.table (Agrees bus controller.on)
  pub room : room_for armed ≤ journal.spare

-- a bench as its host sees it: a cut is where its flash says so
abbrev pub wire_view : BusKind → BenchView → WireView
wire_view bus bench =
    record {
      entries = bench.entries;
      spare = bench.spare;
      on = bench.controller.on;
      bus = bus;
      table = bench.controller.table;
      armed = bench.armed;
      cut = bench.controller.device.armed;
      faults = bench.controller.device.faults;
      cuts = bench.controller.device.cuts;
      own_cuts = bench.controller.device.own_cuts;
    }
