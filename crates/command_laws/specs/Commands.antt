-- A poll and a command that nothing disturbs.
use Rattle.std.specs.Prelude.{◌≡◌, ◌≤◌, ◌<◌, ◌*◌, ℕ, true, false, List, ◌++◌, length}
use Rattle.std.specs.List.{list_any}
use Rattle.ec_types.specs.Tables.{packet_limit}
use Rattle.ec_types.specs.declared.bus.BusKind.{BusKind}
use Rattle.ec_model.specs.declared.event.Entry.{Entry}
use Rattle.ec_model.specs.Answer.{Answered}
use Rattle.ec_model.specs.Asks.{packet_of}
use Rattle.ec_model.specs.HostCalls.{calls_of}
use Rattle.ec_model.specs.Packet.{RequestView}
use Rattle.ec_model.specs.Polls.{PollEnd, Idle}
use Rattle.ec_model.specs.Table.{Table, Core}
use Rattle.ec_model.specs.Upset.{is_upset}
use Rattle.ec_model.specs.Tries.{Said, Answered as SaidAnswered}
use Rattle.exchange_laws.specs.Served.{IsPlain}
use Rattle.command_laws.specs.Carried.{carried, IsWanted, tells_any}
use Rattle.command_laws.specs.Idle.{after_ticks}
use Rattle.command_laws.specs.Room.{turn_room}
use Rattle.command_laws.specs.Standing.{IsAt}

-- a request that fits into a packet on the bus, and is no COLD
pub record Fits (bus : BusKind) (request : RequestView) : Type 0 where
  pub plain : IsPlain (packet_of request)
  pub short : length (packet_of request) ≤ packet_limit bus

-- a request of a command: it fits, it is none that tells any status, and a success has as many bytes as are wanted
pub record IsProper (bus : BusKind) (request : RequestView) (want : ℕ) : Type 0 where
  pub fits : Fits bus request
  pub number : request.command < 65536
  pub body : length request.body < 65536
  pub steady : tells_any request.command ≡ false
  pub wanted : IsWanted bus request want

-- a poll that nothing disturbs, of so many waits
pub record IsPolled (bus : BusKind) (core : Core) (waits : ℕ) (entries : List Entry) (end : PollEnd) (last : Table) : Type 0 where
  pub end_is : end ≡ Idle
  pub at : IsAt bus (after_ticks waits core) last
  pub takes : length (calls_of entries) ≡ waits * turn_room bus

-- a command that nothing disturbs: what it comes to, what is said, and the controller behind it
pub record IsCarried (bus : BusKind) (request : RequestView) (core : Core) (room : ℕ) (entries : List Entry) (said : Said) (last : Table) : Type 0 where
  pub after : Core
  pub status : ℕ
  pub body : List ℕ
  pub is : carried (packet_limit bus) request core ≡ Answered after status body
  pub said_is : said ≡ SaidAnswered status body
  pub at : IsAt bus after last
  pub takes : length (calls_of entries) ≡ room

-- something upset each of three tries
pub record EachUpset (entries : List Entry) : Type 0 where
  pub first : List Entry
  pub second : List Entry
  pub third : List Entry
  pub parts : entries ≡ first ++ second ++ third
  pub one : list_any is_upset first ≡ true
  pub two : list_any is_upset second ≡ true
  pub three : list_any is_upset third ≡ true
