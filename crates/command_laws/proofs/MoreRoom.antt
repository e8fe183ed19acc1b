-- More room changes nothing of what the host does but that it comes to an end for want of room.
use Rattle.std.proofs.Common.{◌≡◌, refl, ap, ◌∙◌, ◌||◌, ℕ, zero, suc, ◌+◌, ◌-◌, ◌≤◌, arith, MatchBool, Bool, true, false, nat_lt, if◌then◌else◌, List, [], length}
use Rattle.std.proofs.lemmas.Bool.Decides.{leb_tells}
use Rattle.ec_types.specs.declared.bus.BusKind.{BusKind}
use Rattle.ec_model.specs.declared.event.Entry.{Entry}
use Rattle.ec_model.specs.Packet.{RequestView}
use Rattle.ec_model.specs.HostCalls.{HostView, calls_of, on_after, view_after}
use Rattle.ec_model.specs.Asks.{Setting, Got, NoPower, Short, NoReply, Status, WithoutRoom, IsSent, AsksBy, Asks, send_room, has_status}
use Rattle.ec_model.specs.Polls.{comms_request, PollEnd, Idle, Lost, Stopped, Turn, Pending, Ends, turn_of, TakesTurn, TurnLeads, Polls, PollLeads, AsksWhenIdle}
use Rattle.ec_model.specs.Tries.{OnStatus, AsksPastErase, TriesOnce, Said, SaidShort, SaidUpset, TryEnd, Final, Again, try_end, resend_request, TryLeads, TriesUpTo, Tries}

-- what the host sees of a wire
abbrev pub seen : Bool → ℕ → HostView
seen on spare = record { on = on; spare = spare }

-- an ask with the power on, by whether there is too little room
by-room : (bus : BusKind) (request : RequestView) (want : ℕ) (entries : List Entry) (end : Got) (small large : Bool) → (large ≡ true → small ≡ true) → ¬ (end ≡ Short) →
    AsksBy (if small then WithoutRoom else IsSent) bus request want entries end → AsksBy (if large then WithoutRoom else IsSent) bus request want entries end
by-room bus request want entries end true large less long asks = absurd (long asks.1)
by-room bus request want entries end false true less long asks = absurd (let other : false ≡ true = less refl in cc)
by-room bus request want entries end false false less long asks = asks

-- what is too small a room in more room is one in less
pub less-room : (few many least : ℕ) → few ≤ many → nat_lt many least ≡ true → nat_lt few least ≡ true
less-room few many least more short = grind (arith, leb_tells)

-- an ask, in more room
pub asks-more : (setting : Setting) (request : RequestView) (want : ℕ) (on : Bool) (few many : ℕ) (entries : List Entry) (end : Got) → few ≤ many → ¬ (end ≡ Short) →
    Asks setting request want (seen on few) entries end → Asks setting request want (seen on many) entries end
asks-more setting request want false few many entries end more long asks = asks
asks-more setting request want true few many entries end more long asks =
    by-room setting.bus request want entries end (nat_lt few (setting.floor + send_room)) (nat_lt many (setting.floor + send_room)) (less-room few many (setting.floor + send_room) more) long asks

-- a turn of a poll
turn-more : (setting : Setting) (on : Bool) (few many : ℕ) (entries : List Entry) (turn : Turn) → few ≤ many → ¬ (turn ≡ Ends (Stopped Short)) → TakesTurn setting (seen on few) entries turn → TakesTurn setting (seen on many) entries turn
turn-more setting on few many entries turn more long takes =
    record {
      waiting = takes.waiting;
      asking = takes.asking;
      end = takes.end;
      parts = takes.parts;
      waits = takes.waits;
      waited = takes.waited;
      asked = asks-more setting comms_request 4 (on_after takes.waiting on) (few - length (calls_of takes.waiting)) (many - length (calls_of takes.waiting)) takes.asking takes.end (omega (arith, more))
          (λ short. long (takes.turn_is ∙ ap (λ (end : Got). turn_of end) short)) takes.asked;
      turn_is = takes.turn_is;
    }

-- a turn that is stopped for want of room stops its poll so
pub turn-long : (turn : Turn) (more : Type 0) (rest : List Entry) (end : PollEnd) → ¬ (end ≡ Stopped Short) → TurnLeads turn more rest end → ¬ (turn ≡ Ends (Stopped Short))
turn-long Pending more rest end long leads = λ short. cc
turn-long (Ends reached) more rest end long leads = λ short. long (leads.1 ∙ ap reached_of short)
  where
    reached_of : Turn → PollEnd
    reached_of (Ends reached) = reached
    reached_of Pending = Lost

-- a poll
polls-more : (turns : ℕ) (setting : Setting) (on : Bool) (few many : ℕ) (entries : List Entry) (end : PollEnd) → few ≤ many → ¬ (end ≡ Stopped Short) → Polls turns setting (seen on few) entries end → Polls turns setting (seen on many) entries end
polls-more zero setting on few many entries end more long polls = polls
polls-more (suc turns) setting on few many entries end more long (first, rest, turn, parts, takes, leads) = (
  first,
  rest,
  turn,
  parts,
  turn-more setting on few many first turn more (turn-long turn _ rest end long leads) takes,
  go (λ polls. polls-more turns setting (on_after first on) (few - length (calls_of first)) (many - length (calls_of first)) rest end (omega (arith, more)) long polls) turn leads,
)
  where
    go : (Polls turns setting (view_after first (seen on few)) rest end → Polls turns setting (view_after first (seen on many)) rest end) → (turn : Turn) →
        TurnLeads turn (Polls turns setting (view_after first (seen on few)) rest end) rest end → TurnLeads turn (Polls turns setting (view_after first (seen on many)) rest end) rest end
    go behind Pending leads = behind leads
    go behind (Ends reached) leads = leads

-- an ask behind a poll
idle-more : (setting : Setting) (request : RequestView) (want : ℕ) (on : Bool) (few many : ℕ) (entries : List Entry) (end : Got) → few ≤ many → ¬ (end ≡ Short) → AsksWhenIdle setting request want (seen on few) entries end → AsksWhenIdle setting request want (seen on many) entries end
idle-more setting request want on few many entries end more long asks =
    record {
      polling = asks.polling;
      rest = asks.rest;
      reached = asks.reached;
      parts = asks.parts;
      polled = polls-more 1100 setting on few many asks.polling asks.reached more (stops asks.reached asks.leads) asks.polled;
      leads = go asks.reached asks.leads;
    }
  where
    stops : (reached : PollEnd) → PollLeads reached (Asks setting request want (view_after asks.polling (seen on few)) asks.rest end) asks.rest end → ¬ (reached ≡ Stopped Short)
    stops Idle leads = λ short. cc
    stops Lost leads = λ short. cc
    stops (Stopped why) leads = λ short. long (leads.1 ∙ ap why_of short)
      where
        why_of : PollEnd → Got
        why_of (Stopped why) = why
        why_of other = NoReply

    go : (reached : PollEnd) → PollLeads reached (Asks setting request want (view_after asks.polling (seen on few)) asks.rest end) asks.rest end → PollLeads reached (Asks setting request want (view_after asks.polling (seen on many)) asks.rest end) asks.rest end
    go Idle leads = asks-more setting request want (on_after asks.polling on) (few - length (calls_of asks.polling)) (many - length (calls_of asks.polling)) asks.rest end (omega (arith, more)) long leads
    go Lost leads = leads
    go (Stopped why) leads = leads

-- where an ask was not short of room, what was done behind it was not, nor the ask itself
pub on-status-more : (status : ℕ) (told end : Got) (less more : Type 0) (rest : List Entry) → (less → more) → OnStatus status told less rest end → OnStatus status told more rest end
on-status-more status told end less more rest change on = by (has_status status told) on
  where
    by : (test : Bool) → MatchBool test less ((rest ≡ []) × (end ≡ told)) → MatchBool test more ((rest ≡ []) × (end ≡ told))
    by true leads = change leads
    by false leads = leads

told-long : (status : ℕ) (told end : Got) (more : Type 0) (rest : List Entry) → ¬ (end ≡ Short) → OnStatus status told more rest end → ¬ (told ≡ Short)
told-long status NoPower end more rest long on = λ short. cc
told-long status NoReply end more rest long on = λ short. cc
told-long status (Status other body) end more rest long on = λ short. cc
told-long status Short end more rest long on = λ short. long on.1

-- an ask past a pending erase
past-more : (setting : Setting) (request : RequestView) (want : ℕ) (on : Bool) (few many : ℕ) (entries : List Entry) (end : Got) → few ≤ many → ¬ (end ≡ Short) → AsksPastErase setting request want (seen on few) entries end → AsksPastErase setting request want (seen on many) entries end
past-more setting request want on few many entries end more long past =
    record {
      first = past.first;
      rest = past.rest;
      told = past.told;
      parts = past.parts;
      asked = asks-more setting request want on few many past.first past.told more (told-long 16 past.told end _ past.rest long past.again) past.asked;
      again = on-status-more 16 past.told end _ _ past.rest (λ asks. idle-more setting request want (on_after past.first on) (few - length (calls_of past.first)) (many - length (calls_of past.first)) past.rest end (omega (arith, more)) long asks) past.again;
    }

-- a try that does not end for want of room had room for its last ask
last-long : (resent : Bool) (last : Got) (end : TryEnd) → ¬ (end ≡ Final SaidShort) → end ≡ try_end resent last → ¬ (last ≡ Short)
last-long resent last end long same = λ short. long (same ∙ ap (try_end resent) short)

-- one try
pub try-more : (setting : Setting) (request : RequestView) (want : ℕ) (on : Bool) (few many : ℕ) (entries : List Entry) (end : TryEnd) → few ≤ many → ¬ (end ≡ Final SaidShort) → TriesOnce setting request want (seen on few) entries end → TriesOnce setting request want (seen on many) entries end
try-more setting request want on few many entries end more long tries =
    let last = last-long (has_status 8 tries.told) tries.last end long tries.end_is in
    record {
      first = tries.first;
      rest = tries.rest;
      told = tries.told;
      last = tries.last;
      parts = tries.parts;
      asked = past-more setting request want on few many tries.first tries.told more (told-long 8 tries.told tries.last _ tries.rest last tries.resent) tries.asked;
      resent = on-status-more 8 tries.told tries.last _ _ tries.rest (λ asks. idle-more setting resend_request 0 (on_after tries.first on) (few - length (calls_of tries.first)) (many - length (calls_of tries.first)) tries.rest tries.last (omega (arith, more)) last asks) tries.resent;
      end_is = tries.end_is;
    }

-- at most so many tries
up-to-more : (tries : ℕ) (three : Bool) (setting : Setting) (request : RequestView) (want : ℕ) (on : Bool) (few many : ℕ) (entries : List Entry) (said : Said) → few ≤ many → ¬ (said ≡ SaidShort) →
    TriesUpTo tries three setting request want (seen on few) entries said → TriesUpTo tries three setting request want (seen on many) entries said
up-to-more zero three setting request want on few many entries said more long tries = tries
up-to-more (suc tries) three setting request want on few many entries said more long (first, rest, end, parts, once, leads) = (
  first,
  rest,
  end,
  parts,
  try-more setting request want on few many first end more (stops end leads) once,
  go (λ another tried. up-to-more tries (three || another) setting request want (on_after first on) (few - length (calls_of first)) (many - length (calls_of first)) rest said (omega (arith, more)) long tried) end leads,
)
  where
    said_in : TryEnd → Said
    said_in (Final said) = said
    said_in (Again another) = SaidUpset

    stops : (end : TryEnd) → TryLeads end (λ (another : Bool). TriesUpTo tries (three || another) setting request want (view_after first (seen on few)) rest said) rest said → ¬ (end ≡ Final SaidShort)
    stops (Final reached) leads = λ short. long (leads.1 ∙ ap said_in short)
    stops (Again another) leads = λ short. cc

    go : ((another : Bool) → TriesUpTo tries (three || another) setting request want (view_after first (seen on few)) rest said → TriesUpTo tries (three || another) setting request want (view_after first (seen on many)) rest said) → (end : TryEnd) →
        TryLeads end (λ (another : Bool). TriesUpTo tries (three || another) setting request want (view_after first (seen on few)) rest said) rest said →
        TryLeads end (λ (another : Bool). TriesUpTo tries (three || another) setting request want (view_after first (seen on many)) rest said) rest said
    go behind (Final reached) leads = leads
    go behind (Again another) leads = behind another leads

-- a command that did not end for want of room is one in more room, too
pub tries-more : (setting : Setting) (request : RequestView) (want : ℕ) (on : Bool) (few many : ℕ) (entries : List Entry) (said : Said) → few ≤ many → ¬ (said ≡ SaidShort) → Tries setting request want (seen on few) entries said → Tries setting request want (seen on many) entries said
tries-more setting request want on few many entries said more long tries = up-to-more 3 false setting request want on few many entries said more long tries
