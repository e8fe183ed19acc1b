-- What is said to have no power ends with the controller off.
use Rattle.std.proofs.Common.{◌≡◌, refl, sym, ap, ◌∙◌, subst, ℕ, zero, suc, ◌+◌, Bool, true, false, not, ◌&&◌, ◌||◌, ◌==◌, nat_lt, if◌then◌else◌, List, [], ◌++◌, length, append-nil, MatchBool}
use Rattle.ec_types.specs.LittleEndian.{u32_at, has_bit}
use Rattle.ec_types.specs.declared.bus.BusKind.{BusKind}
use Rattle.ec_model.specs.declared.event.Entry.{Entry}
use Rattle.ec_model.specs.Asks.{Setting, Got, NoPower, Short, NoReply, Status, WithoutRoom, IsSent, unsent, got, send_room, AsksBy, Asks, has_status}
use Rattle.ec_model.specs.Heard.{Heard, Reply, Bad, Silent}
use Rattle.ec_model.specs.HostCalls.{HostView, on_after, view_after}
use Rattle.ec_model.specs.Packet.{RequestView, response_view}
use Rattle.ec_model.specs.Polls.{PollEnd, Idle, Lost, Stopped, Turn, Pending, Ends, turn_of, TurnLeads, Polls, PollLeads, AsksWhenIdle, comms_request}
use Rattle.ec_model.specs.Tries.{Said, Answered, SaidNoPower, SaidUpset, SaidShort, TryEnd, Final, Again, is_unclean, try_end, said_last, AsksPastErase, TriesOnce, TryLeads, TriesUpTo, Tries, resend_request}
use Rattle.ec_wire.proofs.Appends.{on_after-append}
use Rattle.command_laws.specs.Restarting.{RestartEnd, Sent, NoPower as EndNoPower, Upset as EndUpset, Short as EndShort, got_of, Looks, LooksUpTo, ResetsBy, stopped_end, LooksLead, Restarts}

-- the controller is off behind the entries
abbrev pub IsDark : List Entry → HostView → Type 0
IsDark entries view = on_after entries view.on ≡ false

-- behind two parts, where it is off behind the second
dark-then : (entries first rest : List Entry) (view : HostView) → entries ≡ first ++ rest → IsDark rest (view_after first view) → IsDark entries view
dark-then entries first rest view parts dark = ap (λ (e : List Entry). on_after e view.on) parts ∙ on_after-append first rest view.on ∙ dark

-- behind two parts, the second of which is none
dark-first : (entries first rest : List Entry) (view : HostView) → entries ≡ first ++ rest → rest ≡ [] → IsDark first view → IsDark entries view
dark-first entries first rest view parts none dark =
    ap (λ (e : List Entry). on_after e view.on) (parts ∙ ap (λ (more : List Entry). first ++ more) none ∙ append-nil first) ∙ dark

-- what was heard is never that there is no power
got-by : (success wrong : Bool) (status : ℕ) (body : List ℕ) → ¬ ((if success && wrong then NoReply else Status status body) ≡ NoPower)
got-by true true status body = λ same. cc
got-by true false status body = λ same. cc
got-by false wrong status body = λ same. cc

got-power : (want : ℕ) (heard : Heard) → ¬ (got want heard ≡ NoPower)
got-power want (Reply bytes) = let view = response_view bytes in got-by (view.status == 0) (not (length view.body == want)) view.status view.body
got-power want Bad = λ same. cc
got-power want Silent = λ same. cc

-- one ask
ask-by : (short : Bool) (bus : BusKind) (request : RequestView) (want : ℕ) (entries : List Entry) → ¬ (AsksBy (if short then WithoutRoom else IsSent) bus request want entries NoPower)
ask-by true bus request want entries = λ asks. let same : NoPower ≡ Short = asks.1 in cc
ask-by false bus request want entries = λ asks. got-power want asks.heard (sym asks.end_is)

ask-dark : (on : Bool) (setting : Setting) (request : RequestView) (want spare : ℕ) (entries : List Entry) → Asks setting request want (record { on = on; spare = spare }) entries NoPower → on_after entries on ≡ false
ask-dark false setting request want spare entries asks = ap (λ (e : List Entry). on_after e false) asks.0
ask-dark true setting request want spare entries asks = absurd (ask-by (nat_lt spare (setting.floor + send_room)) setting.bus request want entries asks)

asks-dark : (setting : Setting) (request : RequestView) (want : ℕ) (view : HostView) (entries : List Entry) (end : Got) → end ≡ NoPower → Asks setting request want view entries end → IsDark entries view
asks-dark setting request want view entries end is asks = ask-dark view.on setting request want view.spare entries (subst (λ (e : Got). Asks setting request want view entries e) is asks)

-- a turn that is stopped so
stopped_as : Turn → Got
stopped_as (Ends (Stopped why)) = why
stopped_as other = NoReply

turn-by : (bad pending : Bool) → ¬ ((if bad then Ends Lost else if pending then Pending else Ends Idle) ≡ Ends (Stopped NoPower))
turn-by true pending = λ same. cc
turn-by false true = λ same. cc
turn-by false false = λ same. cc

turn-power : (end : Got) → turn_of end ≡ Ends (Stopped NoPower) → end ≡ NoPower
turn-power NoPower same = refl
turn-power Short same = absurd (cc)
turn-power NoReply same = absurd (cc)
turn-power (Status status body) same = absurd (turn-by (not (status == 0)) (has_bit 0x01 (u32_at 0 body)) same)

-- a poll
polls-dark : (turns : ℕ) (setting : Setting) (view : HostView) (entries : List Entry) (end : PollEnd) → end ≡ Stopped NoPower → Polls turns setting view entries end → IsDark entries view
polls-dark zero setting view entries end is polls = let lost = polls.1 in absurd (cc)
polls-dark (suc turns) setting view entries end is (first, rest, turn, parts, takes, leads) = by (λ more. polls-dark turns setting (view_after first view) rest end is more) turn takes.turn_is leads
  where
    by : (Polls turns setting (view_after first view) rest end → IsDark rest (view_after first view)) → (turn : Turn) → turn ≡ turn_of takes.end → TurnLeads turn (Polls turns setting (view_after first view) rest end) rest end → IsDark entries view
    by behind Pending shown more = dark-then entries first rest view parts (behind more)
    by behind (Ends reached) shown over =
        let off = turn-power takes.end (sym shown ∙ ap Ends (sym over.1 ∙ is)) in
        dark-first entries first rest view parts over.0 (dark-then first takes.waiting takes.asking view takes.parts (asks-dark setting comms_request 4 (view_after takes.waiting view) takes.asking takes.end off takes.asked))

-- an ask behind a poll
idle-dark : (setting : Setting) (request : RequestView) (want : ℕ) (view : HostView) (entries : List Entry) (end : Got) → end ≡ NoPower → AsksWhenIdle setting request want view entries end → IsDark entries view
idle-dark setting request want view entries end is asks = by asks.reached asks.polled asks.leads
  where
    by : (reached : PollEnd) → Polls 1100 setting view asks.polling reached → PollLeads reached (Asks setting request want (view_after asks.polling view) asks.rest end) asks.rest end → IsDark entries view
    by Idle polled more = dark-then entries asks.polling asks.rest view asks.parts (asks-dark setting request want (view_after asks.polling view) asks.rest end is more)
    by Lost polled over = let none : NoReply ≡ NoPower = sym over.1 ∙ is in absurd (cc)
    by (Stopped why) polled over =
        dark-first entries asks.polling asks.rest view asks.parts over.0 (polls-dark 1100 setting view asks.polling (Stopped why) (ap Stopped (sym over.1 ∙ is)) polled)

-- an ask past a pending erase
past-dark : (setting : Setting) (request : RequestView) (want : ℕ) (view : HostView) (entries : List Entry) (end : Got) → end ≡ NoPower → AsksPastErase setting request want view entries end → IsDark entries view
past-dark setting request want view entries end is past = by (has_status 16 past.told) past.again
  where
    by : (busy : Bool) → MatchBool busy (AsksWhenIdle setting request want (view_after past.first view) past.rest end) ((past.rest ≡ []) × (end ≡ past.told)) → IsDark entries view
    by true more = dark-then entries past.first past.rest view past.parts (idle-dark setting request want (view_after past.first view) past.rest end is more)
    by false over = dark-first entries past.first past.rest view past.parts over.0 (asks-dark setting request want view past.first past.told (sym over.1 ∙ is) past.asked)

-- the last ask of a try that says so
if-dark : (unclean three : Bool) (status : ℕ) (body : List ℕ) → ¬ ((if unclean then Again three else Final (Answered status body)) ≡ Final SaidNoPower)
if-dark true three status body = λ same. cc
if-dark false three status body = λ same. cc

end-power : (resent : Bool) (last : Got) → try_end resent last ≡ Final SaidNoPower → last ≡ NoPower
end-power resent NoPower same = refl
end-power resent Short same = absurd (cc)
end-power resent NoReply same = absurd (cc)
end-power resent (Status status body) same = absurd (if-dark (is_unclean status || (resent && (status == 9))) (status == 3) status body same)

-- one try
try-dark : (setting : Setting) (request : RequestView) (want : ℕ) (view : HostView) (entries : List Entry) (end : TryEnd) → end ≡ Final SaidNoPower → TriesOnce setting request want view entries end → IsDark entries view
try-dark setting request want view entries end is tries = by (has_status 8 tries.told) tries.resent tries.end_is
  where
    by : (going : Bool) → MatchBool going (AsksWhenIdle setting resend_request 0 (view_after tries.first view) tries.rest tries.last) ((tries.rest ≡ []) × (tries.last ≡ tries.told)) → end ≡ try_end going tries.last → IsDark entries view
    by true more meant = dark-then entries tries.first tries.rest view tries.parts (idle-dark setting resend_request 0 (view_after tries.first view) tries.rest tries.last (end-power true tries.last (sym meant ∙ is)) more)
    by false over meant = dark-first entries tries.first tries.rest view tries.parts over.0 (past-dark setting request want view tries.first tries.told (sym over.1 ∙ end-power false tries.last (sym meant ∙ is)) tries.asked)

last-power : (three : Bool) → ¬ (said_last three ≡ SaidNoPower)
last-power true = λ same. cc
last-power false = λ same. cc

up-to-dark : (tries : ℕ) (three : Bool) (setting : Setting) (request : RequestView) (want : ℕ) (view : HostView) (entries : List Entry) (said : Said) → said ≡ SaidNoPower → TriesUpTo tries three setting request want view entries said → IsDark entries view
up-to-dark zero three setting request want view entries said is over = absurd (last-power three (sym over.1 ∙ is))
up-to-dark (suc tries) three setting request want view entries said is (first, rest, end, parts, once, leads) = by (λ another more. up-to-dark tries (three || another) setting request want (view_after first view) rest said is more) end once leads
  where
    by : ((another : Bool) → TriesUpTo tries (three || another) setting request want (view_after first view) rest said → IsDark rest (view_after first view)) → (end : TryEnd) → TriesOnce setting request want view first end →
        TryLeads end (λ (another : Bool). TriesUpTo tries (three || another) setting request want (view_after first view) rest said) rest said → IsDark entries view
    by behind (Final reached) once over = dark-first entries first rest view parts over.0 (try-dark setting request want view first (Final reached) (ap Final (sym over.1 ∙ is)) once)
    by behind (Again another) once more = dark-then entries first rest view parts (behind another more)

-- a command
pub tries-dark : (setting : Setting) (request : RequestView) (want : ℕ) (view : HostView) (entries : List Entry) (said : Said) → said ≡ SaidNoPower → Tries setting request want view entries said → IsDark entries view
tries-dark setting request want view entries said is tries = up-to-dark 3 false setting request want view entries said is tries

-- the looks of a restart
said-power : (said : Said) → got_of said ≡ NoPower → said ≡ SaidNoPower
said-power (Answered status body) same = absurd (cc)
said-power SaidNoPower same = refl
said-power SaidUpset same = absurd (cc)
said-power SaidShort same = absurd (cc)

looks-dark : (looks : ℕ) (setting : Setting) (view : HostView) (entries : List Entry) (end : PollEnd) → end ≡ Stopped NoPower → LooksUpTo looks setting view entries end → IsDark entries view
looks-dark zero setting view entries end is looked = let lost = looked.1 in absurd (cc)
looks-dark (suc looks) setting view entries end is (first, rest, turn, parts, looked, leads) = by (λ more. looks-dark looks setting (view_after first view) rest end is more) turn looked leads
  where
    by : (LooksUpTo looks setting (view_after first view) rest end → IsDark rest (view_after first view)) → (turn : Turn) → Looks setting view first turn → TurnLeads turn (LooksUpTo looks setting (view_after first view) rest end) rest end → IsDark entries view
    by behind Pending looked more = dark-then entries first rest view parts (behind more)
    by behind (Ends reached) looked over =
        let off = said-power looked.said (turn-power (got_of looked.said) (sym looked.turn_is ∙ ap Ends (sym over.1 ∙ is))) in
        dark-first entries first rest view parts over.0 (dark-first first looked.asking looked.waiting view looked.parts looked.waits (tries-dark setting comms_request 4 view looked.asking looked.said off looked.asked))

-- its COLD
reset-dark : (on : Bool) (setting : Setting) (spare : ℕ) (entries : List Entry) (end : RestartEnd) → end ≡ EndNoPower → ResetsBy (unsent (record { on = on; spare = spare }) setting.floor) setting.bus entries end → on_after entries on ≡ false
reset-dark false setting spare entries end is resets = ap (λ (e : List Entry). on_after e false) resets.0
reset-dark true setting spare entries end is resets = absurd (by (nat_lt spare (setting.floor + send_room)) resets)
  where
    by : (short : Bool) → ¬ (ResetsBy (if short then WithoutRoom else IsSent) setting.bus entries end)
    by true = λ asks. let same : EndShort ≡ EndNoPower = sym asks.1 ∙ is in cc
    by false = λ asks. let same : Sent ≡ EndNoPower = sym asks.1 ∙ is in cc

-- what stopped them
stopped-power : (why : Got) → stopped_end why ≡ EndNoPower → why ≡ NoPower
stopped-power NoPower same = refl
stopped-power Short same = absurd (cc)
stopped-power NoReply same = absurd (cc)
stopped-power (Status status body) same = absurd (cc)

-- a restart
pub restarts-dark : (setting : Setting) (view : HostView) (entries : List Entry) (end : RestartEnd) → end ≡ EndNoPower → Restarts setting view entries end → IsDark entries view
restarts-dark setting view entries end is restarts = by restarts.reached restarts.looked restarts.leads
  where
    by : (reached : PollEnd) → LooksUpTo 1100 setting view restarts.looking reached → LooksLead reached (ResetsBy (unsent (view_after restarts.looking view) setting.floor) setting.bus restarts.rest end) restarts.rest end → IsDark entries view
    by Idle looked more = dark-then entries restarts.looking restarts.rest view restarts.parts (reset-dark (view_after restarts.looking view).on setting (view_after restarts.looking view).spare restarts.rest end is more)
    by Lost looked over = let none : EndUpset ≡ EndNoPower = sym over.1 ∙ is in absurd (cc)
    by (Stopped why) looked over =
        dark-first entries restarts.looking restarts.rest view restarts.parts over.0 (looks-dark 1100 setting view restarts.looking (Stopped why) (ap Stopped (stopped-power why (sym over.1 ∙ is))) looked)
