-- Commands and restarts without power, and restarts in more room.
use Rattle.std.proofs.Common.{◌≡◌, refl, ap, ◌∙◌, subst, ℕ, ◌+◌, ◌-◌, ◌≤◌, arith, Bool, true, false, ◌||◌, nat_lt, if◌then◌else◌, List, [], ◌++◌, length, MatchBool}
use Rattle.ec_types.specs.declared.bus.BusKind.{BusKind}
use Rattle.ec_model.specs.declared.event.Entry.{Entry}
use Rattle.ec_model.specs.Asks.{Setting, Got, NoPower as GotNoPower, Short as GotShort, WithoutRoom, IsSent, unsent, send_room, has_status}
use Rattle.ec_model.specs.HostCalls.{calls_of, on_after, view_after}
use Rattle.ec_model.specs.Packet.{RequestView}
use Rattle.ec_model.specs.Polls.{PollEnd, Idle, Lost, Stopped, Turn, Ends, turn_of, TurnLeads, comms_request}
use Rattle.ec_model.specs.Tries.{Said, SaidNoPower, TryEnd, Final, OnStatus, try_end, TryLeads, TriesUpTo, Tries}
use Rattle.command_laws.specs.Restarting.{RestartEnd, NoPower, Short, got_of, WaitsBehind, LooksUpTo, ResetsBy, stopped_end, LooksLead, Restarts}
use Rattle.command_laws.proofs.MoreRoom.{seen, less-room}
use Rattle.command_laws.proofs.UpsetColds.{why_of, looks-more}

-- a COLD with the power on, by whether there is too little room
resets-by : (bus : BusKind) (entries : List Entry) (end : RestartEnd) (small large : Bool) → (large ≡ true → small ≡ true) → ¬ (end ≡ Short) →
    ResetsBy (if small then WithoutRoom else IsSent) bus entries end → ResetsBy (if large then WithoutRoom else IsSent) bus entries end
resets-by bus entries end true large less long resets = absurd (long resets.1)
resets-by bus entries end false true less long resets = absurd (let other : false ≡ true = less refl in cc)
resets-by bus entries end false false less long resets = resets

-- a COLD, in more room
resets-more : (setting : Setting) (on : Bool) (few many : ℕ) (entries : List Entry) (end : RestartEnd) → few ≤ many → ¬ (end ≡ Short) →
    ResetsBy (unsent (seen on few) setting.floor) setting.bus entries end → ResetsBy (unsent (seen on many) setting.floor) setting.bus entries end
resets-more setting false few many entries end more long resets = resets
resets-more setting true few many entries end more long resets =
    resets-by setting.bus entries end (nat_lt few (setting.floor + send_room)) (nat_lt many (setting.floor + send_room)) (less-room few many (setting.floor + send_room) more) long resets

-- what stands behind the looks
looks-lead : (reached : PollEnd) (less more : Type 0) (rest : List Entry) (end : RestartEnd) → (less → more) → LooksLead reached less rest end → LooksLead reached more rest end
looks-lead Idle less more rest end change leads = change leads
looks-lead Lost less more rest end change leads = leads
looks-lead (Stopped why) less more rest end change leads = leads

-- it is no want of room that stopped them where the restart did not end for want of it
long-looks : (reached : PollEnd) (more : Type 0) (rest : List Entry) (end : RestartEnd) → ¬ (end ≡ Short) → LooksLead reached more rest end → ¬ (reached ≡ Stopped GotShort)
long-looks Idle more rest end long leads = λ short. cc
long-looks Lost more rest end long leads = λ short. cc
long-looks (Stopped why) more rest end long leads = λ short. long (leads.1 ∙ ap (λ (reached : PollEnd). stopped_end (why_of reached)) short)

-- a restart, in more room
pub restarts-more : (setting : Setting) (on : Bool) (few many : ℕ) (entries : List Entry) (end : RestartEnd) → few ≤ many → ¬ (end ≡ Short) → Restarts setting (seen on few) entries end → Restarts setting (seen on many) entries end
restarts-more setting on few many entries end more long restarts =
    let taken = length (calls_of restarts.looking) in
    record {
      looking = restarts.looking;
      rest = restarts.rest;
      reached = restarts.reached;
      parts = restarts.parts;
      looked = looks-more 1100 setting on few many restarts.looking restarts.reached more (long-looks restarts.reached _ restarts.rest end long restarts.leads) restarts.looked;
      leads = looks-lead restarts.reached _ _ restarts.rest end (λ resets. resets-more setting (on_after restarts.looking on) (few - taken) (many - taken) restarts.rest end (omega (arith, more)) long resets) restarts.leads;
    }

-- nothing is tried without power
pub record IsNothing (entries : List Entry) (said : Said) : Type 0 where
  pub none : entries ≡ []
  pub said_is : said ≡ SaidNoPower

nothing-both : (entries first rest : List Entry) → entries ≡ first ++ rest → first ≡ [] → rest ≡ [] → entries ≡ []
nothing-both entries first rest parts one other = parts ∙ ap (λ (front : List Entry). front ++ rest) one ∙ other

-- nothing follows an ask without power
nothing-behind : (status : ℕ) (told end : Got) (more : Type 0) (rest : List Entry) → told ≡ GotNoPower → OnStatus status told more rest end → (rest ≡ []) × (end ≡ GotNoPower)
nothing-behind status told end more rest off on =
    let over : (rest ≡ []) × (end ≡ told) = subst (λ (test : Bool). MatchBool test more ((rest ≡ []) × (end ≡ told))) (ap (has_status status) off) on in
    (over.0, over.1 ∙ off)

pub tries-off : (setting : Setting) (request : RequestView) (want spare : ℕ) (entries : List Entry) (said : Said) → Tries setting request want (seen false spare) entries said → IsNothing entries said
tries-off setting request want spare entries said (first, rest, end, parts, once, leads) =
    let past = once.asked in
    let asked = past.asked in
    let again = nothing-behind 16 past.told once.told _ past.rest asked.1 past.again in
    let resent = nothing-behind 8 once.told once.last _ once.rest again.1 once.resent in
    let none : first ≡ [] = nothing-both first once.first once.rest once.parts (nothing-both once.first past.first past.rest past.parts asked.0 again.0) resent.0 in
    let off : end ≡ Final SaidNoPower = once.end_is ∙ by (has_status 8 once.told) once.last resent.1 in
    let over = subst (λ (e : TryEnd). TryLeads e (λ (another : Bool). TriesUpTo 2 (false || another) setting request want (view_after first (seen false spare)) rest said) rest said) off leads in
    record { none = nothing-both entries first rest parts none over.0; said_is = over.1 }
  where
    by : (resent : Bool) (last : Got) → last ≡ GotNoPower → try_end resent last ≡ Final SaidNoPower
    by resent last same = ap (try_end resent) same

-- nothing is looked at without power
looks-off : (setting : Setting) (spare : ℕ) (entries : List Entry) (reached : PollEnd) → LooksUpTo 1100 setting (seen false spare) entries reached → (entries ≡ []) × (reached ≡ Stopped GotNoPower)
looks-off setting spare entries reached (first, rest, turn, parts, looked, leads) =
    let asked = tries-off setting comms_request 4 spare looked.asking looked.said looked.asked in
    let ends : turn ≡ Ends (Stopped GotNoPower) = looked.turn_is ∙ ap (λ (said : Said). turn_of (got_of said)) asked.said_is in
    let still : looked.waiting ≡ [] = subst (λ (t : Turn). WaitsBehind t looked.waiting) ends looked.waits in
    let over = subst (λ (t : Turn). TurnLeads t (LooksUpTo 1099 setting (view_after first (seen false spare)) rest reached) rest reached) ends leads in
    (nothing-both entries first rest parts (nothing-both first looked.asking looked.waiting looked.parts asked.none still) over.0, over.1)

-- and nothing is restarted
pub off-restarts : (setting : Setting) (spare : ℕ) (entries : List Entry) (end : RestartEnd) → Restarts setting (seen false spare) entries end → (entries ≡ []) × (end ≡ NoPower)
off-restarts setting spare entries end restarts =
    let looked = looks-off setting spare restarts.looking restarts.reached restarts.looked in
    let more = ResetsBy (unsent (view_after restarts.looking (seen false spare)) setting.floor) setting.bus restarts.rest end in
    let over = subst (λ (reached : PollEnd). LooksLead reached more restarts.rest end) looked.1 restarts.leads in
    (nothing-both entries restarts.looking restarts.rest restarts.parts looked.0 over.0, over.1)
