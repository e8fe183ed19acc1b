-- A restart that is said to be upset was: where nothing is, the looks end with no erase pending, however little room there is.
use Rattle.std.proofs.Common.{◌≡◌, refl, ap, ◌∙◌, subst, ℕ, zero, suc, ◌+◌, ◌-◌, ◌≤◌, arith, Bool, true, false, ◌||◌, List, length}
use Rattle.std.specs.List.{list_all, list_any}
use Rattle.ec_types.specs.declared.bus.BusKind.{BusKind}
use Rattle.ec_model.specs.declared.event.Entry.{Entry}
use Rattle.ec_model.specs.Asks.{Setting, Got, NoPower as GotNoPower, Short as GotShort, NoReply, Unsent, WithoutPower, WithoutRoom, IsSent, unsent}
use Rattle.ec_model.specs.HostCalls.{HostView, calls_of, on_after, view_after}
use Rattle.ec_model.specs.Packet.{RequestView}
use Rattle.ec_model.specs.Polls.{PollEnd, Idle, Lost, Stopped, Turn, Pending, Ends, turn_of, TurnLeads, poll_turns, comms_request}
use Rattle.ec_model.specs.Run.{IsRun}
use Rattle.ec_model.specs.Syncable.{settled}
use Rattle.ec_model.specs.Table.{Table, Valid, is_on, core_of}
use Rattle.ec_model.specs.Tries.{Said, SaidNoPower, TryEnd, TryLeads, TriesUpTo}
use Rattle.ec_model.specs.Upset.{is_upset}
use Rattle.ec_model.proofs.RunLaws.{run-split}
use Rattle.ec_wire.specs.Calls.{is_wire_step}
use Rattle.exchange_laws.specs.Resting.{is_waiting}
use Rattle.host_framing.specs.Room.{waiting_room}
use Rattle.command_laws.specs.Restarting.{Sent, NoPower, Upset, Short, got_of, Looks, LooksUpTo, ResetsBy, stopped_end, LooksLead, Restarts, blocks_left}
use Rattle.command_laws.specs.Standing.{IsOpen, IsQuiet}
use Rattle.command_laws.proofs.MoreRoom.{seen, turn-long, tries-more}
use Rattle.command_laws.proofs.Opening.{settled-on, awake-in, opens}
use Rattle.command_laws.proofs.Parts.{quiet-both}
use Rattle.command_laws.proofs.Looking.{looks_room, looks-calm}
use Rattle.command_laws.proofs.Upsets.{not-off, off-try}

-- with the power off a command says so
pub off-tries : (tries : ℕ) (three : Bool) (setting : Setting) (request : RequestView) (want : ℕ) (view : HostView) (entries : List Entry) (said : Said) →
    view.on ≡ false → TriesUpTo (suc tries) three setting request want view entries said → said ≡ SaidNoPower
off-tries tries three setting request want view entries said off all =
    let same = off-try setting request want view all.0 all.2 off all.4 in
    (subst (λ (end : TryEnd). TryLeads end (λ another. TriesUpTo tries (three || another) setting request want (view_after all.0 view) all.1 said) all.1 said) same all.5).1

-- and so do the looks
pub off-looks : (looks : ℕ) (setting : Setting) (view : HostView) (entries : List Entry) (reached : PollEnd) → view.on ≡ false →
    LooksUpTo (suc looks) setting view entries reached → reached ≡ Stopped GotNoPower
off-looks looks setting view entries reached off all =
    let looked = all.4 in
    let said = off-tries 2 false setting comms_request 4 view looked.asking looked.said off looked.asked in
    let ends : all.2 ≡ Ends (Stopped GotNoPower) = looked.turn_is ∙ ap (λ (s : Said). turn_of (got_of s)) said in
    (subst (λ (turn : Turn). TurnLeads turn (LooksUpTo looks setting (view_after all.0 view) all.1 reached) all.1 reached) ends all.5).1

-- a restart that is said to be upset began with the power on
upset-on : (setting : Setting) (view : HostView) (entries : List Entry) → Restarts setting view entries Upset → view.on ≡ true
upset-on setting view entries restarts = not-off view.on (λ off.
    let stopped = off-looks 1099 setting view restarts.looking restarts.reached off restarts.looked in
    let over = subst (λ (reached : PollEnd). LooksLead reached (ResetsBy (unsent (view_after restarts.looking view) setting.floor) setting.bus restarts.rest Upset) restarts.rest Upset) stopped restarts.leads in
    let same : Upset ≡ NoPower = over.1 in
    cc)

-- one look, in more room
look-more : (setting : Setting) (on : Bool) (few many : ℕ) (entries : List Entry) (turn : Turn) → few ≤ many → ¬ (turn ≡ Ends (Stopped GotShort)) →
    Looks setting (seen on few) entries turn → Looks setting (seen on many) entries turn
look-more setting on few many entries turn more long looks =
    record {
      asking = looks.asking;
      waiting = looks.waiting;
      said = looks.said;
      parts = looks.parts;
      asked = tries-more setting comms_request 4 on few many looks.asking looks.said more (λ short. long (looks.turn_is ∙ ap (λ (said : Said). turn_of (got_of said)) short)) looks.asked;
      turn_is = looks.turn_is;
      waits = looks.waits;
    }

-- what stands behind a turn
leads-more : (turn : Turn) (less more : Type 0) (rest : List Entry) (reached : PollEnd) → (less → more) → TurnLeads turn less rest reached →
    TurnLeads turn more rest reached
leads-more Pending less more rest reached change leads = change leads
leads-more (Ends end) less more rest reached change leads = leads

-- all looks
pub looks-more : (looks : ℕ) (setting : Setting) (on : Bool) (few many : ℕ) (entries : List Entry) (reached : PollEnd) → few ≤ many →
    ¬ (reached ≡ Stopped GotShort) → LooksUpTo looks setting (seen on few) entries reached → LooksUpTo looks setting (seen on many) entries reached
looks-more zero setting on few many entries reached more long looked = looked
looks-more (suc looks) setting on few many entries reached more long (first, rest, turn, parts, looked, leads) = (
  first,
  rest,
  turn,
  parts,
  look-more setting on few many first turn more (turn-long turn _ rest reached long leads) looked,
  leads-more turn _ _ rest reached (λ others. looks-more looks setting (on_after first on) (few - length (calls_of first)) (many - length (calls_of first)) rest reached (omega (arith, more)) long others) leads,
)

-- what stopped some looks
abbrev pub why_of : PollEnd → Got
why_of (Stopped why) = why
why_of other = NoReply

-- it is no want of room where the restart is said to be upset
upset-long : (reached : PollEnd) (more : Type 0) (rest : List Entry) → LooksLead reached more rest Upset → ¬ (reached ≡ Stopped GotShort)
upset-long Idle more rest leads = λ short. cc
upset-long Lost more rest leads = λ short. cc
upset-long (Stopped why) more rest leads = λ short. let same : Upset ≡ Short = leads.1 ∙ ap (λ (reached : PollEnd). stopped_end (why_of reached)) short in cc

-- where the looks end with no erase pending, nothing is said to be upset
not-upset : (why : Unsent) (bus : BusKind) (rest : List Entry) → ¬ (ResetsBy why bus rest Upset)
not-upset WithoutPower bus rest = λ resets. let same : Upset ≡ NoPower = resets.1 in cc
not-upset WithoutRoom bus rest = λ resets. let same : Upset ≡ Short = resets.1 in cc
not-upset IsSent bus rest = λ resets. let same : Upset ≡ Sent = resets.1 in cc

-- undisturbed looks end with no erase pending, in whatever room they had enough
ends-idle : (setting : Setting) (spare : ℕ) (table : Table) (entries : List Entry) (reached : PollEnd) (last : Table) → Valid table →
    table.kind ≡ setting.bus → is_on table.power ≡ true → IsQuiet entries → IsRun table entries last → ¬ (reached ≡ Stopped GotShort) →
    LooksUpTo poll_turns setting (seen true spare) entries reached → reached ≡ Idle
ends-idle setting spare table entries reached last valid kind on quiet run long looked =
    let first = awake-in table.power on in
    let has = awake-in (settled table).power (settled-on table first.awake first.on) in
    let core = core_of (settled table) has.awake in
    let waiting = waiting_room setting.bus (is_waiting table.power) in
    let many = spare + (setting.floor + 1500 + (looks_room setting.bus (blocks_left core.live.erase) + waiting)) in
    let open_ = subst (λ (bus : BusKind). IsOpen bus core table) kind (opens table has valid) in
    let roomy = looks-more 1100 setting true spare many entries reached (omega arith) long looked in
    (looks-calm 1100 setting (seen true many) core table entries reached last waiting (omega arith) open_ refl (record { on = refl; enough = omega arith }) quiet run roomy).end_is

-- a restart that is said to be upset was
pub upset-cold : (setting : Setting) (view : HostView) (table : Table) (entries : List Entry) (last : Table) → Valid table →
    table.kind ≡ setting.bus → is_on table.power ≡ view.on → list_all is_wire_step entries ≡ true → IsRun table entries last →
    Restarts setting view entries Upset → list_any is_upset entries ≡ true
upset-cold setting view table entries last valid kind on_is steps run restarts = not-off (list_any is_upset entries) (λ calm.
    let on = upset-on setting view entries restarts in
    let split = run-split table last restarts.looking restarts.rest (subst (λ (xs : List Entry). IsRun table xs last) restarts.parts run) in
    let quiets = quiet-both restarts.looking restarts.rest (subst (λ (xs : List Entry). IsQuiet xs) restarts.parts (record { calm = calm; steps = steps })) in
    let more = ResetsBy (unsent (view_after restarts.looking view) setting.floor) setting.bus restarts.rest Upset in
    let long = upset-long restarts.reached more restarts.rest restarts.leads in
    let looked = subst (λ (power : Bool). LooksUpTo poll_turns setting (seen power view.spare) restarts.looking restarts.reached) on restarts.looked in
    let idle = ends-idle setting view.spare table restarts.looking restarts.reached split.0 valid kind (on_is ∙ on) quiets.0 split.1 long looked in
    not-upset (unsent (view_after restarts.looking view) setting.floor) setting.bus restarts.rest (subst (λ (reached : PollEnd). LooksLead reached more restarts.rest Upset) idle restarts.leads))
