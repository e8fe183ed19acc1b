-- A restart on a wire.
use Rattle.std.specs.Prelude.{ℕ, ⊤}
use Rattle.ec_model.specs.Asks.{unsent}
use Rattle.ec_model.specs.Polls.{Turn as ShownTurn, PollEnd as ReachedEnd, poll_turns}
use Rattle.ec_wire.specs.Calls.{WireView}
use Rattle.command_laws.specs.Restarting.{RestartEnd, Sent as EndSent, NoPower as EndNoPower, Upset as EndUpset, Short as EndShort, Looks, LooksUpTo, ResetsBy, Restarts}
use Rattle.host_transport.specs.Asking.{OnWire}
use Rattle.host_transport.specs.Polling.{PollLeaves}
use Rattle.host_transport.specs.declared.polling.Turn.{Turn}
use Rattle.host_transport.specs.declared.polling.Turn.TheVariants.{Pending, Ends}
use Rattle.host_transport.specs.declared.restarting.ColdEnd.{ColdEnd}
use Rattle.host_transport.specs.declared.restarting.ColdEnd.TheVariants.{Sent, NoPower, Upset, Short}

-- how a restart ended
abbrev pub cold_view : ColdEnd → RestartEnd
cold_view Sent = EndSent
cold_view NoPower = EndNoPower
cold_view Upset = EndUpset
cold_view Short = EndShort

-- the entries that were added are one look
abbrev pub LooksOn : ℕ → ShownTurn → WireView → WireView → Type 0
LooksOn floor turn old new = OnWire (λ setting view added. Looks setting view added turn) floor old new

-- what is known of the wire behind a look: why the looks were stopped
abbrev pub LookLeaves : ℕ → Turn → WireView → Type 0
LookLeaves floor Pending view = ⊤
LookLeaves floor (Ends end) view = PollLeaves floor end view

-- the entries that were added are the looks of a restart
abbrev pub LooksUpToOn : ℕ → ReachedEnd → WireView → WireView → Type 0
LooksUpToOn floor end old new = OnWire (λ setting view added. LooksUpTo poll_turns setting view added end) floor old new

-- the entries that were added are the COLD of a restart, where it may be sent
abbrev pub ResetsOn : ℕ → RestartEnd → WireView → WireView → Type 0
ResetsOn floor end old new = OnWire (λ setting view added. ResetsBy (unsent view setting.floor) setting.bus added end) floor old new

-- the entries that were added are a restart
abbrev pub RestartsOn : ℕ → RestartEnd → WireView → WireView → Type 0
RestartsOn floor end old new = OnWire (λ setting view added. Restarts setting view added end) floor old new
