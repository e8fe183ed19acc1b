-- The parts of a send, each with the calls that it made.
use Rattle.std.specs.Prelude.{◌≡◌, ℕ, Bool, true, false, List, ◌∷◌, ◌++◌, length, IsTrue, Some}
use Rattle.ec_types.specs.declared.bus.BusKind.{BusKind}
use Rattle.ec_model.specs.declared.event.Access.TheVariants.{PortIn}
use Rattle.ec_model.specs.declared.event.Entry.{Entry}
use Rattle.ec_model.specs.Bus.{is_busy}
use Rattle.ec_model.specs.HostCalls.{HostCall, Did}
use Rattle.ec_model.specs.Heard.{Heard, poll_end, waited_reads, spaced_reads, port_reads, port_writes, is_all_read, reads_on, heard_if, heard_with}
use Rattle.ec_model.specs.SendLpc.{status_in, LpcAsked, LpcBlocked}
use Rattle.ec_model.specs.Send.{Send, Quiet}
use Rattle.ec_wire.specs.Calls.{WireView, Grows, Made}

-- a poll of at most four waits and reads
pub record PollsWaited (ready : Bool) (old new : WireView) : Type 0 where
  pub statuses : List ℕ
  pub polled : poll_end is_busy 4 statuses ≡ Some ready
  pub made : Made (waited_reads status_in statuses) old new

-- a poll of at most five reads
pub record PollsSpaced (ready : Bool) (old new : WireView) : Type 0 where
  pub statuses : List ℕ
  pub polled : poll_end is_busy 5 statuses ≡ Some ready
  pub made : Made (spaced_reads status_in statuses) old new

-- these bytes were written to the window
pub record WritesWindow (bytes : List ℕ) (old new : WireView) : Type 0 where
  pub gots : List ℕ
  pub each : length gots ≡ length bytes
  pub made : Made (port_writes 0x800 bytes gots) old new

-- so many bytes were read from the ports on, and appended
pub record ReadsWindow (port count : ℕ) (before after : List ℕ) (old new : WireView) : Type 0 where
  pub bytes : List ℕ
  pub each : length bytes ≡ count
  pub appended : after ≡ before ++ bytes
  pub made : Made (port_reads port bytes) old new

-- the calls of the first two steps, by whether the request was written
abbrev pub LpcAskedBy : List ℕ → Bool → List HostCall → Type 0
LpcAskedBy packet true calls = LpcAsked packet calls
LpcAskedBy packet false calls = LpcBlocked calls

-- the first two steps of a send
pub record LpcAsks (packet : List ℕ) (written : Bool) (old new : WireView) : Type 0 where
  pub calls : List HostCall
  pub asked : LpcAskedBy packet written calls
  pub made : Made calls old new

-- the last two steps of a send
pub record LpcHears (heard : Heard) (old new : WireView) : Type 0 where
  pub outcome : ℕ
  pub bytes : List ℕ
  pub whole : IsTrue (is_all_read (reads_on 248 bytes) bytes)
  pub heard_is : heard ≡ heard_if (reads_on 248 bytes) (heard_with outcome bytes)
  pub made : Made (Did (PortIn 0x200) outcome ∷ port_reads 0x800 bytes) old new

-- the entries that were added bring the bus to rest
pub record Quiets (bus : BusKind) (old new : WireView) : Type 0 where
  pub added : List Entry
  pub grows : Grows added old new
  pub quiet : Quiet bus added

-- the entries that were added are a send of the packet that heard this
pub record Sends (bus : BusKind) (packet : List ℕ) (heard : Heard) (old new : WireView) : Type 0 where
  pub added : List Entry
  pub grows : Grows added old new
  pub sent : Send bus added packet heard
