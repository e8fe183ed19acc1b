-- One send on LPC.
use Rattle.std.specs.Prelude.{◌≡◌, ℕ, true, false, List, [], ◌∷◌, ◌++◌, length, IsTrue, Some}
use Rattle.ec_model.specs.declared.event.Access.{Access}
use Rattle.ec_model.specs.declared.event.Access.TheVariants.{PortOut, PortIn}
use Rattle.ec_model.specs.Bus.{is_busy}
use Rattle.ec_model.specs.HostCalls.{HostCall, Did}
use Rattle.ec_model.specs.Heard.{Heard, Silent, poll_end, waited_reads, spaced_reads, port_reads, port_writes, heard_with, reads_on, is_all_read, heard_if}

-- the status port's read
abbrev pub status_in : Access
status_in = PortIn 0x204

-- the host's first two steps on LPC: the bus was idle, and the packet was written with its command byte
pub record LpcAsked (packet : List ℕ) (calls : List HostCall) : Type 0 where
  pub statuses : List ℕ
  pub gots : List ℕ
  pub got : ℕ
  pub idle : poll_end is_busy 5 statuses ≡ Some true
  pub each : length gots ≡ length packet
  pub made : calls ≡ spaced_reads status_in statuses ++ port_writes 0x800 packet gots ++ Did (PortOut 0x204 0xDA) got ∷ []

-- the bus was busy to the end of the host's first step on LPC
pub record LpcBlocked (calls : List HostCall) : Type 0 where
  pub statuses : List ℕ
  pub busy : poll_end is_busy 5 statuses ≡ Some false
  pub made : calls ≡ spaced_reads status_in statuses

-- LPC: the request was never served
pub record LpcUnserved (packet : List ℕ) (calls : List HostCall) : Type 0 where
  pub first : List HostCall
  pub statuses : List ℕ
  pub asked : LpcAsked packet first
  pub busy : poll_end is_busy 4 statuses ≡ Some false
  pub made : calls ≡ first ++ waited_reads status_in statuses

-- LPC: a result byte and some bytes were read
pub record LpcServed (packet : List ℕ) (calls : List HostCall) (heard : Heard) : Type 0 where
  pub first : List HostCall
  pub statuses : List ℕ
  pub outcome : ℕ
  pub bytes : List ℕ
  pub asked : LpcAsked packet first
  pub idle : poll_end is_busy 4 statuses ≡ Some true
  pub whole : IsTrue (is_all_read (reads_on 248 bytes) bytes)
  pub made : calls ≡ first ++ waited_reads status_in statuses ++ Did (PortIn 0x200) outcome ∷ port_reads 0x800 bytes
  pub heard_is : heard ≡ heard_if (reads_on 248 bytes) (heard_with outcome bytes)

-- one send on LPC
pub data LpcSend (packet : List ℕ) (calls : List HostCall) (heard : Heard) : Type 0 where
  LpcWasBlocked : LpcBlocked calls → heard ≡ Silent → LpcSend packet calls heard
  LpcWasUnserved : LpcUnserved packet calls → heard ≡ Silent → LpcSend packet calls heard
  LpcWasServed : LpcServed packet calls heard → LpcSend packet calls heard
