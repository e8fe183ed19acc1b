-- How many bytes a command's success has: as many as are wanted, or none where its saved status was asked for.
use Rattle.std.proofs.Common.{◌≡◌, refl, sym, ap, ◌∙◌, ℕ, zero, suc, Bool, true, false, not, ◌&&◌, ◌||◌, ◌==◌, if◌then◌else◌, List, [], ◌∷◌, length, ◌⊎◌, inl, inr, arith, MatchBool}
use Rattle.std.proofs.lemmas.Bool.{eqb-true}
use Rattle.ec_types.specs.LittleEndian.{u32_at, has_bit}
use Rattle.ec_model.specs.declared.event.Entry.{Entry}
use Rattle.ec_model.specs.Asks.{Setting, Got, NoPower, Short, NoReply, Status, Unsent, WithoutPower, WithoutRoom, IsSent, unsent, got, AsksBy, Asks, has_status}
use Rattle.ec_model.specs.Heard.{Heard, Reply, Bad, Silent}
use Rattle.ec_types.specs.declared.bus.BusKind.{BusKind}
use Rattle.ec_model.specs.HostCalls.{HostView, view_after}
use Rattle.ec_model.specs.Packet.{RequestView, response_view}
use Rattle.ec_model.specs.Polls.{PollEnd, Idle, Lost, Stopped, Turn, Pending, Ends, turn_of, TurnLeads, Polls, PollLeads, AsksWhenIdle}
use Rattle.ec_model.specs.Tries.{Said, Answered, SaidUpset, TryEnd, Final, Again, is_unclean, try_end, said_last, AsksPastErase, TriesOnce, TryLeads, TriesUpTo, Tries}

-- the parts of an end, and of what is said
abbrev status_of : Got → ℕ
status_of (Status status body) = status
status_of other = 0

abbrev body_of : Got → List ℕ
body_of (Status status body) = body
body_of other = []

abbrev said_status : Said → ℕ
said_status (Answered status body) = status
said_status other = 0

abbrev said_body : Said → List ℕ
said_body (Answered status body) = body
said_body other = []

abbrev final_said : TryEnd → Said
final_said (Final said) = said
final_said (Again three) = SaidUpset

-- a reply that is a success by two tests
got-by : (success fits : Bool) (want status : ℕ) (told body : List ℕ) → (status == 0) ≡ success → (length told == want) ≡ fits → (if success && not fits then NoReply else Status status told) ≡ Status 0 body → length body ≡ want
got-by true true want status told body zero_is sized same = sym (ap (λ (g : Got). length (body_of g)) same) ∙ eqb-true (length told) want sized
got-by true false want status told body zero_is sized same = absurd (cc)
got-by false fits want status told body zero_is sized same =
    let none : status ≡ 0 = ap status_of same in
    let yes : (status == 0) ≡ true = ap (λ (n : ℕ). n == 0) none in
    absurd (cc)

got-sized : (want : ℕ) (heard : Heard) (body : List ℕ) → got want heard ≡ Status 0 body → length body ≡ want
got-sized want (Reply bytes) body same =
    let view = response_view bytes in got-by (view.status == 0) (length view.body == want) want view.status view.body body refl refl same
got-sized want Bad body same = absurd (cc)
got-sized want Silent body same = absurd (cc)

asks-by : (why : Unsent) (bus : BusKind) (request : RequestView) (want : ℕ) (entries : List Entry) (end : Got) (body : List ℕ) → AsksBy why bus request want entries end → end ≡ Status 0 body → length body ≡ want
asks-by WithoutPower bus request want entries end body asks same = let e = asks.1 in absurd (cc)
asks-by WithoutRoom bus request want entries end body asks same = let e = asks.1 in absurd (cc)
asks-by IsSent bus request want entries end body asks same = got-sized want asks.heard body (sym asks.end_is ∙ same)

-- one ask
asks-sized : (setting : Setting) (request : RequestView) (want : ℕ) (view : HostView) (entries : List Entry) (end : Got) (body : List ℕ) → Asks setting request want view entries end → end ≡ Status 0 body → length body ≡ want
asks-sized setting request want view entries end body asks same = asks-by (unsent view setting.floor) setting.bus request want entries end body asks same

-- neither want of power nor of room
abbrev IsStop : Got → Type 0
IsStop got = (got ≡ NoPower) ⊎ (got ≡ Short)

abbrev stopped_as : Turn → Got
stopped_as (Ends (Stopped got)) = got
stopped_as other = NoReply

turn-by : (bad pending : Bool) (why : Got) → (if bad then Ends Lost else if pending then Pending else Ends Idle) ≡ Ends (Stopped why) → IsStop why
turn-by true pending why same = absurd (cc)
turn-by false true why same = absurd (cc)
turn-by false false why same = absurd (cc)

-- a poll is stopped by want of power or room alone
turn-stopped : (end why : Got) → turn_of end ≡ Ends (Stopped why) → IsStop why
turn-stopped NoPower why same = inl (sym (ap stopped_as same))
turn-stopped Short why same = inr (sym (ap stopped_as same))
turn-stopped NoReply why same = absurd (cc)
turn-stopped (Status status body) why same = turn-by (not (status == 0)) (has_bit 0x01 (u32_at 0 body)) why same

polls-stopped : (turns : ℕ) (setting : Setting) (view : HostView) (entries : List Entry) (end : PollEnd) (why : Got) → end ≡ Stopped why → Polls turns setting view entries end → IsStop why
polls-stopped zero setting view entries end why same polls = let lost = polls.1 in absurd (cc)
polls-stopped (suc turns) setting view entries end why same (first, rest, turn, parts, takes, leads) = by (λ more. polls-stopped turns setting (view_after first view) rest end why same more) turn takes.turn_is leads
  where
    by : (Polls turns setting (view_after first view) rest end → IsStop why) → (turn : Turn) → turn ≡ turn_of takes.end → TurnLeads turn (Polls turns setting (view_after first view) rest end) rest end → IsStop why
    by behind Pending shown more = behind more
    by behind (Ends reached) shown over = turn-stopped takes.end why (sym shown ∙ ap Ends (sym over.1 ∙ same))

no-stop : (why : Got) (body : List ℕ) → IsStop why → why ≡ Status 0 body → ⊥
no-stop why body (inl off) same = cc
no-stop why body (inr short) same = cc

-- an ask behind a poll
idle-sized : (setting : Setting) (request : RequestView) (want : ℕ) (view : HostView) (entries : List Entry) (end : Got) (body : List ℕ) → AsksWhenIdle setting request want view entries end → end ≡ Status 0 body → length body ≡ want
idle-sized setting request want view entries end body asks same = by asks.reached asks.polled asks.leads
  where
    by : (reached : PollEnd) → Polls 1100 setting view asks.polling reached → PollLeads reached (Asks setting request want (view_after asks.polling view) asks.rest end) asks.rest end → length body ≡ want
    by Idle polled more = asks-sized setting request want (view_after asks.polling view) asks.rest end body more same
    by Lost polled over = let none = over.1 in absurd (cc)
    by (Stopped why) polled over = absurd (no-stop why body (polls-stopped 1100 setting view asks.polling (Stopped why) why refl polled) (sym over.1 ∙ same))

-- an ask past a pending erase
past-sized : (setting : Setting) (request : RequestView) (want : ℕ) (view : HostView) (entries : List Entry) (end : Got) (body : List ℕ) → AsksPastErase setting request want view entries end → end ≡ Status 0 body → length body ≡ want
past-sized setting request want view entries end body past same = by (has_status 16 past.told) past.again
  where
    by : (busy : Bool) → MatchBool busy (AsksWhenIdle setting request want (view_after past.first view) past.rest end) ((past.rest ≡ []) × (end ≡ past.told)) → length body ≡ want
    by true more = idle-sized setting request want (view_after past.first view) past.rest end body more same
    by false over = asks-sized setting request want view past.first past.told body past.asked (sym over.1 ∙ same)

-- the last ask of a try that said something was a reply
end-by : (unclean three : Bool) (status : ℕ) (told body : List ℕ) → (if unclean then Again three else Final (Answered status told)) ≡ Final (Answered 0 body) → Status status told ≡ Status 0 body
end-by true three status told body same = absurd (cc)
end-by false three status told body same =
    let number : status ≡ 0 = ap (λ (e : TryEnd). said_status (final_said e)) same in
    let bytes : told ≡ body = ap (λ (e : TryEnd). said_body (final_said e)) same in
    rw (number, bytes) refl

end-sized : (resent : Bool) (last : Got) (body : List ℕ) → try_end resent last ≡ Final (Answered 0 body) → last ≡ Status 0 body
end-sized resent NoPower body same = absurd (cc)
end-sized resent Short body same = absurd (cc)
end-sized resent NoReply body same = absurd (cc)
end-sized resent (Status status told) body same = end-by (is_unclean status || (resent && (status == 9))) (status == 3) status told body same

-- no bytes
no-bytes : (body : List ℕ) → length body ≡ 0 → body ≡ []
no-bytes [] none = refl
no-bytes (byte ∷ body) none = absurd (omega (arith, none))

-- one try
try-sized : (setting : Setting) (request : RequestView) (want : ℕ) (view : HostView) (entries : List Entry) (end : TryEnd) (body : List ℕ) → TriesOnce setting request want view entries end → end ≡ Final (Answered 0 body) → (length body ≡ want) ⊎ (body ≡ [])
try-sized setting request want view entries end body tries same = by (has_status 8 tries.told) tries.resent tries.end_is
  where
    by : (going : Bool) → MatchBool going (AsksWhenIdle setting (record { command = 0x00DB; version = 0; body = [] }) 0 (view_after tries.first view) tries.rest tries.last) ((tries.rest ≡ []) × (tries.last ≡ tries.told)) → end ≡ try_end going tries.last → (length body ≡ want) ⊎ (body ≡ [])
    by true more meant = inr (no-bytes body (idle-sized setting (record { command = 0x00DB; version = 0; body = [] }) 0 (view_after tries.first view) tries.rest tries.last body more (end-sized true tries.last body (sym meant ∙ same))))
    by false over meant = inl (past-sized setting request want view tries.first tries.told body tries.asked (sym over.1 ∙ end-sized false tries.last body (sym meant ∙ same)))

last-sized : (three : Bool) (body : List ℕ) → said_last three ≡ Answered 0 body → ⊥
last-sized true body same = let e : 3 ≡ 0 = ap said_status same in omega (arith, e)
last-sized false body same = cc

-- a command
up-to-sized : (tries : ℕ) (three : Bool) (setting : Setting) (request : RequestView) (want : ℕ) (view : HostView) (entries : List Entry) (said : Said) (body : List ℕ) → TriesUpTo tries three setting request want view entries said → said ≡ Answered 0 body → (length body ≡ want) ⊎ (body ≡ [])
up-to-sized zero three setting request want view entries said body over same = absurd (last-sized three body (sym over.1 ∙ same))
up-to-sized (suc tries) three setting request want view entries said body (first, rest, end, parts, once, leads) same = by (λ another more. up-to-sized tries (three || another) setting request want (view_after first view) rest said body more same) end once leads
  where
    by : ((another : Bool) → TriesUpTo tries (three || another) setting request want (view_after first view) rest said → (length body ≡ want) ⊎ (body ≡ [])) → (end : TryEnd) → TriesOnce setting request want view first end → TryLeads end (λ (another : Bool). TriesUpTo tries (three || another) setting request want (view_after first view) rest said) rest said → (length body ≡ want) ⊎ (body ≡ [])
    by behind (Final reached) once over = try-sized setting request want view first (Final reached) body once (ap Final (sym over.1 ∙ same))
    by behind (Again another) once more = behind another more

pub tries-sized : (setting : Setting) (request : RequestView) (want : ℕ) (view : HostView) (entries : List Entry) (said : Said) (body : List ℕ) → Tries setting request want view entries said → said ≡ Answered 0 body → (length body ≡ want) ⊎ (body ≡ [])
tries-sized setting request want view entries said body tries same = up-to-sized 3 false setting request want view entries said body tries same
