-- What an event makes of the table and what it answers, where nothing fails.
use Rattle.std.specs.Prelude.{ℕ, false}
use Rattle.ec_types.specs.Tables.{packet_limit}
use Rattle.ec_types.specs.declared.reset.ResetCause.TheVariants.{Cold}
use Rattle.ec_model.specs.declared.event.Event.{Event}
use Rattle.ec_model.specs.Packet.{response_packet}
use Rattle.ec_model.specs.Bus.{BusAnswer, replied, kind_of}
use Rattle.ec_model.specs.Table.{Table, Power, Off, On, Core, core_of, table_of, off_table}
use Rattle.ec_model.specs.Hash.{hash_ticked}
use Rattle.ec_model.specs.Erasing.{block_erased}
use Rattle.ec_model.specs.Boot.{booted_table}
use Rattle.ec_model.specs.Answer.{Outcome, Answered, Restarts}
use Rattle.ec_model.specs.Handle.{handled}
use Rattle.ec_model.specs.Work.{After, Work, Rest, Serve, EraseNext, HashNext, Boot, Stop, SetPin, bus_after, work_on, work_off, lost_answer}

-- the table and the answer once a request has its outcome
abbrev pub after_outcome : Core → BusAnswer → ℕ → Outcome → After
after_outcome core bus lost (Answered after status body) =
    record { table = table_of after (replied (response_packet status body) bus.state); answer = bus.answer }
after_outcome core bus lost Restarts =
    record { table = booted_table core.flash core.pin (kind_of bus.state) Cold false; answer = lost }

-- the work is done whole, where the controller is on
abbrev pub worked : Core → BusAnswer → ℕ → Work → After
worked core bus lost Rest = record { table = table_of core bus.state; answer = bus.answer }
worked core bus lost (Serve request) = after_outcome core bus lost (handled core (packet_limit (kind_of bus.state)) request)
worked core bus lost (EraseNext job) = record { table = table_of (block_erased job core) bus.state; answer = bus.answer }
worked core bus lost HashNext = record { table = table_of (hash_ticked core.live.hash core) bus.state; answer = bus.answer }
worked core bus lost (Boot cause) =
    record { table = booted_table core.flash core.pin (kind_of bus.state) cause false; answer = bus.answer }
worked core bus lost Stop = record { table = off_table core.flash core.pin (kind_of bus.state); answer = bus.answer }
worked core bus lost (SetPin on) = record { table = table_of (record core { pin = on }) bus.state; answer = bus.answer }

-- the work is done whole, where the controller is off
abbrev pub worked_off : Table → Event → Work → After
worked_off table event (Boot cause) = record { table = booted_table table.flash table.pin table.kind cause false; answer = 0 }
worked_off table event (SetPin on) = record { table = off_table table.flash on table.kind; answer = 0 }
worked_off table event other = record { table = table; answer = lost_answer event }

-- what an event makes of a table, by whether the controller is on
abbrev pub stepped_by : Table → Event → Power → After
stepped_by table event Off = worked_off table event (work_off event)
stepped_by table event (On awake) = worked (core_of table awake) (bus_after awake.bus event) (lost_answer event) (work_on awake event)

-- what an event makes of a table, and what it answers, where nothing fails
abbrev pub stepped : Table → Event → After
stepped table event = stepped_by table event table.power
