-- A poll on a wire.
use Rattle.std.specs.Prelude.{◌≡◌, ◌≤◌, ◌<◌, ◌+◌, ℕ, ⊤, false}
use Rattle.ec_model.specs.Asks.{send_room, NoPower as EndNoPower, Short as EndShort}
use Rattle.ec_model.specs.Polls.{Polls, TakesTurn, poll_turns, Turn as ShownTurn, Pending as ShownPending, Ends as ShownEnds, PollEnd as ReachedEnd, Idle as ReachedIdle, Lost as ReachedLost, Stopped as ReachedStopped}
use Rattle.ec_wire.specs.Calls.{WireView}
use Rattle.host_transport.specs.Asking.{OnWire}
use Rattle.host_transport.specs.declared.polling.Turn.{Turn}
use Rattle.host_transport.specs.declared.polling.Turn.TheVariants.{Pending, Ends}
use Rattle.host_transport.specs.declared.polling.PollEnd.{PollEnd}
use Rattle.host_transport.specs.declared.polling.PollEnd.TheVariants.{Idle, Lost, NoPower, Short}

-- the end of a poll
abbrev pub end_view : PollEnd → ReachedEnd
end_view Idle = ReachedIdle
end_view Lost = ReachedLost
end_view NoPower = ReachedStopped EndNoPower
end_view Short = ReachedStopped EndShort

-- what a turn shows
abbrev pub turn_view : Turn → ShownTurn
turn_view Pending = ShownPending
turn_view (Ends end) = ShownEnds (end_view end)

-- the entries that were added are one turn of a poll
abbrev pub TakesTurnOn : ℕ → ShownTurn → WireView → WireView → Type 0
TakesTurnOn floor turn old new = OnWire (λ setting view added. TakesTurn setting view added turn) floor old new

-- the entries that were added are a poll
abbrev pub PollsOn : ℕ → ReachedEnd → WireView → WireView → Type 0
PollsOn floor end old new = OnWire (λ setting view added. Polls poll_turns setting view added end) floor old new

-- what is known of the wire behind a poll: why it was stopped
abbrev pub PollLeaves : ℕ → PollEnd → WireView → Type 0
PollLeaves floor Idle view = ⊤
PollLeaves floor Lost view = ⊤
PollLeaves floor NoPower view = view.on ≡ false
PollLeaves floor Short view = view.spare < floor + send_room

-- what is known of the wire behind a turn: that there is room for another wait, or why the poll was stopped
abbrev pub TurnLeaves : ℕ → Turn → WireView → Type 0
TurnLeaves floor Pending view = 1 ≤ view.spare
TurnLeaves floor (Ends end) view = PollLeaves floor end view
