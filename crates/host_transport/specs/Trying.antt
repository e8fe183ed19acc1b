-- The tries of a command on a wire.
use Rattle.std.specs.Prelude.{◌≡◌, ◌≤◌, ◌<◌, ◌+◌, ℕ, ⊤, false, List}
use Rattle.ec_model.specs.Packet.{RequestView}
use Rattle.ec_model.specs.Asks.{Got, send_room}
use Rattle.ec_model.specs.Polls.{AsksWhenIdle}
use Rattle.ec_model.specs.Tries.{Said as Answer, Answered, SaidNoPower, SaidUpset, SaidShort, TryEnd as Meaning, Final as MeansFinal, Again as MeansAgain, AsksPastErase, TriesOnce, Tries}
use Rattle.ec_wire.specs.Calls.{WireView}
use Rattle.host_transport.specs.Asking.{OnWire}
use Rattle.host_transport.specs.declared.ending.Said.{Said}
use Rattle.host_transport.specs.declared.ending.Said.TheVariants.{Ok, Status, NoPower, Upset, Short}
use Rattle.host_transport.specs.declared.trying.TryEnd.{TryEnd}
use Rattle.host_transport.specs.declared.trying.TryEnd.TheVariants.{Final, Again}

-- the answer, with the reply's body
abbrev pub said_of : Said → List ℕ → Answer
said_of Ok body = Answered 0 body
said_of (Status status) body = Answered status body
said_of NoPower body = SaidNoPower
said_of Upset body = SaidUpset
said_of Short body = SaidShort

-- what a try means, with the reply's body
abbrev pub try_of : TryEnd → List ℕ → Meaning
try_of (Final said) body = MeansFinal (said_of said body)
try_of (Again invalid) body = MeansAgain invalid

-- the entries that were added are an ask behind a poll
abbrev pub AsksWhenIdleOn : ℕ → RequestView → ℕ → Got → WireView → WireView → Type 0
AsksWhenIdleOn floor request want end old new = OnWire (λ setting view added. AsksWhenIdle setting request want view added end) floor old new

-- the entries that were added are an ask, and one more behind a pending erase
abbrev pub AsksPastEraseOn : ℕ → RequestView → ℕ → Got → WireView → WireView → Type 0
AsksPastEraseOn floor request want end old new = OnWire (λ setting view added. AsksPastErase setting request want view added end) floor old new

-- the entries that were added are one try
abbrev pub TriesOnceOn : ℕ → RequestView → ℕ → Meaning → WireView → WireView → Type 0
TriesOnceOn floor request want end old new = OnWire (λ setting view added. TriesOnce setting request want view added end) floor old new

-- the entries that were added are a command
abbrev pub TriesOn : ℕ → RequestView → ℕ → Answer → WireView → WireView → Type 0
TriesOn floor request want said old new = OnWire (λ setting view added. Tries setting request want view added said) floor old new

-- what is known of the wire behind a command: why it was given up, and that a success, which is told as Ok, left room for a wait
abbrev pub SaidLeaves : ℕ → Said → WireView → Type 0
SaidLeaves floor NoPower view = view.on ≡ false
SaidLeaves floor Short view = view.spare < floor + send_room
SaidLeaves floor Ok view = 1 ≤ view.spare
SaidLeaves floor (Status status) view = ¬ (status ≡ 0)
SaidLeaves floor Upset view = ⊤

-- the same behind a try
abbrev pub TryLeaves : ℕ → TryEnd → WireView → Type 0
TryLeaves floor (Final said) view = SaidLeaves floor said view
TryLeaves floor (Again invalid) view = ⊤
