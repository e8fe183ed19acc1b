-- One event of the controller: what it may leave and answer, also where a flash call fails or power is lost inside it.
use Rattle.std.specs.Prelude.{◌≡◌, ◌⊎◌, ℕ, suc, Bool, true, false, ◌||◌, List, [], take, IsTrue, None}
use Rattle.ec_types.specs.Tables.{packet_limit}
use Rattle.ec_types.specs.declared.reset.ResetCause.TheVariants.{PowerOn, Cold}
use Rattle.ec_model.specs.declared.event.Event.{Event}
use Rattle.ec_model.specs.declared.event.Entry.{Entry}
use Rattle.ec_model.specs.declared.event.Entry.TheVariants.{Step, Mark}
use Rattle.flash_dev.specs.declared.hurt.Hurt.{Hurt}
use Rattle.flash_dev.specs.declared.hurt.Hurt.TheVariants.{Whole, Failed, Cut}
use Rattle.ec_model.specs.Packet.{response_packet}
use Rattle.ec_model.specs.Bus.{BusState, BusAnswer, replied, kind_of}
use Rattle.ec_model.specs.Table.{Table, Power, Off, On, Core, core_of, table_of, off_table}
use Rattle.ec_model.specs.Hash.{without_hash}
use Rattle.ec_model.specs.Boot.{booted_table}
use Rattle.ec_model.specs.Operations.{Operation, StopsAt, touched_by}
use Rattle.ec_model.specs.Answer.{Outcome, Answered, Restarts, is_restart}
use Rattle.ec_model.specs.Handle.{handled, handled_reads}
use Rattle.ec_model.specs.Work.{After, Work, Serve, HashNext, Boot, is_power_on, bus_after, work_on, work_off, lost_answer, work_operations}
use Rattle.ec_model.specs.Erasing.{with_job}
use Rattle.ec_model.specs.WholeStep.{worked, worked_off}

-- the bus with the reply that a flash call failed
abbrev pub error_replied : BusState → BusState
error_replied bus = replied (response_packet 2 []) bus

-- the table and the answer once a request was told that a read failed; a restart boots without the stored bits
abbrev pub after_unread : Core → BusAnswer → ℕ → Outcome → After
after_unread core bus lost (Answered after status body) =
    record { table = table_of core (error_replied bus.state); answer = bus.answer }
after_unread core bus lost Restarts =
    record { table = booted_table core.flash core.pin (kind_of bus.state) Cold true; answer = lost }

-- whether some work reads the flash: a request does where its row does or where it restarts the controller
abbrev pub work_reads : Core → ℕ → Work → Bool
work_reads core limit (Serve request) = handled_reads core limit request || is_restart (handled core limit request)
work_reads core limit HashNext = true
work_reads core limit (Boot cause) = true
work_reads core limit other = false

-- what a read that failed leaves of some work
abbrev pub unread : Core → BusAnswer → ℕ → Work → After
unread core bus lost (Serve request) = after_unread core bus lost (handled core (packet_limit (kind_of bus.state)) request)
unread core bus lost HashNext = record { table = table_of (without_hash core) bus.state; answer = bus.answer }
unread core bus lost (Boot cause) =
    record { table = booted_table core.flash core.pin (kind_of bus.state) cause true; answer = bus.answer }
unread core bus lost other = record { table = table_of core bus.state; answer = bus.answer }

-- The core after operation k failed: the flash is given, and each range up to that one is touched.
abbrev pub failed_core : Core → List ℕ → List Operation → ℕ → Core
failed_core core flash operations k = record (touched_by (take (suc k) operations) core) { flash = flash }

-- what an operation that failed leaves of some work: a request is told so, and an erase ends
abbrev pub unfinished : Core → BusAnswer → Work → After
unfinished core bus (Serve request) = record { table = table_of core (error_replied bus.state); answer = bus.answer }
unfinished core bus other = record { table = table_of (with_job None 2 core) bus.state; answer = bus.answer }

-- a read failed inside the work
pub record IsUnread (core : Core) (bus : BusAnswer) (lost : ℕ) (work : Work) (after : After) : Type 0 where
  pub reads : IsTrue (work_reads core (packet_limit (kind_of bus.state)) work)
  pub leaves : after ≡ unread core bus lost work

-- an operation failed inside the work
pub record IsUnfinished (core : Core) (bus : BusAnswer) (work : Work) (after : After) : Type 0 where
  pub place : ℕ
  pub flash : List ℕ
  pub stops : StopsAt place (work_operations core work) core.flash flash
  pub leaves : after ≡ unfinished (failed_core core flash (work_operations core work) place) bus work

-- power was lost inside an operation of the work
pub record IsCutOff (core : Core) (bus : BusAnswer) (lost : ℕ) (work : Work) (after : After) : Type 0 where
  pub place : ℕ
  pub flash : List ℕ
  pub stops : StopsAt place (work_operations core work) core.flash flash
  pub leaves : after ≡ record { table = off_table flash core.pin (kind_of bus.state); answer = lost }

-- what the work may leave, where the controller is on, by what one flash call did
abbrev pub WorkLeaves : Hurt → Core → BusAnswer → ℕ → Work → After → Type 0
WorkLeaves Whole core bus lost work after = after ≡ worked core bus lost work
WorkLeaves Failed core bus lost work after = IsUnread core bus lost work after ⊎ IsUnfinished core bus work after
WorkLeaves Cut core bus lost work after = IsCutOff core bus lost work after

-- what an event may leave, where the controller is off: a boot may not be able to read the stored bits
abbrev pub OffLeaves : Hurt → Table → Event → After → Type 0
OffLeaves Whole table event after = after ≡ worked_off table event (work_off event)
OffLeaves Failed table event after =
    IsTrue (is_power_on event)
    × (after ≡ record { table = booted_table table.flash table.pin table.kind PowerOn true; answer = 0 })
OffLeaves Cut table event after = ⊥

-- what an event may leave, by whether the controller is on
abbrev pub EventLeavesBy : Hurt → Table → Event → Power → After → Type 0
EventLeavesBy hurt table event Off after = OffLeaves hurt table event after
EventLeavesBy hurt table event (On awake) after =
    WorkLeaves hurt (core_of table awake) (bus_after awake.bus event) (lost_answer event) (work_on awake event) after

-- what an event may leave of a table, and answer
abbrev pub EventLeaves : Hurt → Table → Event → After → Type 0
EventLeaves hurt table event after = EventLeavesBy hurt table event table.power after

-- an entry of a journal leads from one table to the next
abbrev pub IsStep : Table → Entry → Table → Type 0
IsStep old (Step event answer meant seen hurt) new = EventLeaves hurt old event (record { table = new; answer = answer })
IsStep old (Mark line) new = new ≡ old
