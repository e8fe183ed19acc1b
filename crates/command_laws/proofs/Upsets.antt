-- A command that said nothing of what became of it: three tries, each of which said nothing, and something upset each.
use Rattle.std.proofs.Common.{◌≡◌, refl, sym, ap, ◌∙◌, subst, ℕ, zero, suc, ◌+◌, ◌≤◌, arith, Bool, true, false, not, ◌||◌, ◌&&◌, ◌==◌, nat_lt, if◌then◌else◌, List, ◌++◌}
use Rattle.std.specs.List.{list_all, list_any}
use Rattle.std.proofs.lemmas.List.{append_assoc, append-nil}
use Rattle.std.proofs.lemmas.List.Folds.{list_all-append}
use Rattle.ec_model.specs.declared.event.Entry.{Entry}
use Rattle.ec_model.specs.Packet.{RequestView}
use Rattle.ec_model.specs.HostCalls.{HostView, on_after, view_after}
use Rattle.ec_model.specs.Run.{IsRun}
use Rattle.ec_types.specs.declared.bus.BusKind.{BusKind}
use Rattle.ec_model.specs.Syncable.{settled}
use Rattle.ec_model.specs.Table.{Table, Valid, is_on, core_of}
use Rattle.exchange_laws.specs.Resting.{is_waiting}
use Rattle.host_framing.specs.Room.{waiting_room}
use Rattle.command_laws.specs.Standing.{IsOpen}
use Rattle.ec_model.specs.Upset.{is_upset, IsUndisturbed}
use Rattle.ec_wire.specs.Calls.{is_wire_step}
use Rattle.ec_model.specs.Asks.{Setting, Got, NoPower, Short, NoReply, Status, WithoutPower, WithoutRoom, IsSent, AsksBy, Asks, send_room, has_status}
use Rattle.ec_model.specs.Tries.{OnStatus, TriesOnce, TryEnd, Final, Again, Answered, SaidNoPower, SaidUpset, try_end, is_unclean, TryLeads, TriesUpTo, Tries}
use Rattle.ec_model.proofs.GuardSteps.{and_parts}
use Rattle.ec_model.proofs.RunLaws.{run-valid, run-kind, run-split}
use Rattle.command_laws.specs.Commands.{IsProper, EachUpset}
use Rattle.command_laws.specs.Room.{try_room}
use Rattle.command_laws.proofs.Opening.{settled-on, awake-in, opens}
use Rattle.command_laws.proofs.Trying.{try-calm}
use Rattle.command_laws.proofs.MoreRoom.{seen, try-more}
use Rattle.command_laws.proofs.RunPower.{run-power}

-- three tries that said nothing are the whole command
pub record ThreeLost (setting : Setting) (request : RequestView) (want : ℕ) (view : HostView) (entries : List Entry) : Type 0 where
  pub first : List Entry
  pub second : List Entry
  pub third : List Entry
  pub parts : entries ≡ first ++ second ++ third
  pub one : TriesOnce setting request want view first (Again false)
  pub two : TriesOnce setting request want (view_after first view) second (Again false)
  pub three : TriesOnce setting request want (view_after second (view_after first view)) third (Again false)

-- an answered try, or one that is to be tried again
if-upset : (test three : Bool) (status : ℕ) (body : List ℕ) → ¬ ((if test then Again three else Final (Answered status body)) ≡ Final SaidUpset)
if-upset true three status body = λ same. cc
if-upset false three status body = λ same. cc

-- no try ends its command with nothing said
never-upset : (resent : Bool) (last : Got) → ¬ (try_end resent last ≡ Final SaidUpset)
never-upset resent NoPower = λ same. cc
never-upset resent Short = λ same. cc
never-upset resent NoReply = λ same. cc
never-upset resent (Status status body) = if-upset (is_unclean status || (resent && (status == 9))) (status == 3) status body

-- a try behind which its command said nothing is tried again
again-by : (end : TryEnd) (more : Bool → Type 0) (rest : List Entry) → ¬ (end ≡ Final SaidUpset) → TryLeads end more rest SaidUpset → (three : Bool) × (end ≡ Again three) × more three
again-by (Final reached) more rest never leads = absurd (never (ap Final (sym leads.1)))
again-by (Again three) more rest never leads = (three, refl, leads)

-- the first of some tries behind which their command said nothing
record Led (tries : ℕ) (before : Bool) (setting : Setting) (request : RequestView) (want : ℕ) (view : HostView) (entries : List Entry) : Type 0 where
  pub first : List Entry
  pub rest : List Entry
  pub status_three : Bool
  pub parts : entries ≡ first ++ rest
  pub tried : TriesOnce setting request want view first (Again status_three)
  pub more : TriesUpTo tries (before || status_three) setting request want (view_after first view) rest SaidUpset

-- the first try and the others
led : (tries : ℕ) (before : Bool) (setting : Setting) (request : RequestView) (want : ℕ) (view : HostView) (entries : List Entry) →
    TriesUpTo (suc tries) before setting request want view entries SaidUpset → Led tries before setting request want view entries
led tries before setting request want view entries all =
    let first = all.0 in
    let rest = all.1 in
    let tried = all.4 in
    let never : ¬ (all.2 ≡ Final SaidUpset) = λ same. never-upset (has_status 8 tried.told) tried.last (sym tried.end_is ∙ same) in
    let again = again-by all.2 (λ another. TriesUpTo tries (before || another) setting request want (view_after first view) rest SaidUpset) rest never all.5 in
    record {
      first = first;
      rest = rest;
      status_three = again.0;
      parts = all.3;
      tried = subst (λ (end : TryEnd). TriesOnce setting request want view first end) again.1 tried;
      more = again.2;
    }

-- behind a status 3 something is said
three-says : (tries : ℕ) (setting : Setting) (request : RequestView) (want : ℕ) (view : HostView) (entries : List Entry) → ¬ (TriesUpTo tries true setting request want view entries SaidUpset)
three-says zero setting request want view entries = λ none. let same = none.1 in cc
three-says (suc tries) setting request want view entries =
    λ all. let first = led tries true setting request want view entries all in three-says tries setting request want (view_after first.first view) first.rest first.more

-- a try that said nothing, and the others behind it
record LostFirst (tries : ℕ) (setting : Setting) (request : RequestView) (want : ℕ) (view : HostView) (entries : List Entry) : Type 0 where
  pub first : List Entry
  pub rest : List Entry
  pub parts : entries ≡ first ++ rest
  pub tried : TriesOnce setting request want view first (Again false)
  pub more : TriesUpTo tries false setting request want (view_after first view) rest SaidUpset

-- the first try did not end in a status 3
lost-by : (tries : ℕ) (setting : Setting) (request : RequestView) (want : ℕ) (view : HostView) (entries first rest : List Entry) (three : Bool) → entries ≡ first ++ rest →
    TriesOnce setting request want view first (Again three) → TriesUpTo tries three setting request want (view_after first view) rest SaidUpset → LostFirst tries setting request want view entries
lost-by tries setting request want view entries first rest true parts tried more = absurd (three-says tries setting request want (view_after first view) rest more)
lost-by tries setting request want view entries first rest false parts tried more = record { first = first; rest = rest; parts = parts; tried = tried; more = more }

lost-first : (tries : ℕ) (setting : Setting) (request : RequestView) (want : ℕ) (view : HostView) (entries : List Entry) →
    TriesUpTo (suc tries) false setting request want view entries SaidUpset → LostFirst tries setting request want view entries
lost-first tries setting request want view entries all =
    let one = led tries false setting request want view entries all in
    lost-by tries setting request want view entries one.first one.rest one.status_three one.parts one.tried one.more

-- a command that said nothing is three tries that said nothing
pub three-lost : (setting : Setting) (request : RequestView) (want : ℕ) (view : HostView) (entries : List Entry) →
    Tries setting request want view entries SaidUpset → ThreeLost setting request want view entries
three-lost setting request want view entries all =
    let one = lost-first 2 setting request want view entries all in
    let two = lost-first 1 setting request want (view_after one.first view) one.rest one.more in
    let three = lost-first 0 setting request want (view_after two.first (view_after one.first view)) two.rest two.more in
    let last : two.rest ≡ three.first = three.parts ∙ ap (λ (none : List Entry). three.first ++ none) three.more.0 ∙ append-nil three.first in
    record {
      first = one.first;
      second = two.first;
      third = three.first;
      parts = one.parts ∙ ap (λ (others : List Entry). one.first ++ others) (two.parts ∙ ap (λ (others : List Entry). two.first ++ others) last) ∙ sym (append_assoc one.first two.first three.first);
      one = one.tried;
      two = two.tried;
      three = three.tried;
    }

-- with the power off nothing is sent
off-asks : (setting : Setting) (request : RequestView) (want : ℕ) (view : HostView) (entries : List Entry) (end : Got) → view.on ≡ false → Asks setting request want view entries end → end ≡ NoPower
off-asks setting request want view entries end off asks = by view.on off asks where
  by : (on : Bool) → on ≡ false →
      AsksBy (if not on then WithoutPower else if nat_lt view.spare (setting.floor + send_room) then WithoutRoom else IsSent) setting.bus request want entries end → end ≡ NoPower
  by true off asks = cc
  by false off asks = asks.1

-- and nothing is done behind that
no-power : (status : ℕ) (told : Got) (more : Type 0) (rest : List Entry) (end : Got) → told ≡ NoPower → OnStatus status told more rest end → end ≡ NoPower
no-power status NoPower more rest end off leads = leads.1
no-power status Short more rest end off leads = absurd (cc)
no-power status NoReply more rest end off leads = absurd (cc)
no-power status (Status other body) more rest end off leads = absurd (cc)

-- a test that is not false
pub not-off : (b : Bool) → ¬ (b ≡ false) → b ≡ true
not-off true on = refl
not-off false on = absurd (on refl)

-- with the power off a try says so
pub off-try : (setting : Setting) (request : RequestView) (want : ℕ) (view : HostView) (entries : List Entry) (end : TryEnd) → view.on ≡ false → TriesOnce setting request want view entries end → end ≡ Final SaidNoPower
off-try setting request want view entries end off once =
    let asked = once.asked in
    let told : once.told ≡ NoPower = no-power 16 asked.told _ asked.rest once.told (off-asks setting request want view asked.first asked.told off asked.asked) asked.again in
    let last : once.last ≡ NoPower = no-power 8 once.told _ once.rest once.last told once.resent in
    once.end_is ∙ ap (λ (end : Got). try_end (has_status 8 once.told) end) last

-- a try that said nothing began with the power on
pub lost-on : (setting : Setting) (request : RequestView) (want : ℕ) (view : HostView) (entries : List Entry) → TriesOnce setting request want view entries (Again false) → view.on ≡ true
lost-on setting request want view entries once =
    not-off view.on (λ off. let same : Again false ≡ Final SaidNoPower = off-try setting request want view entries (Again false) off once in cc)

-- much more than the room that is left to later commands
abbrev pub large_room : Setting → ℕ
large_room setting = setting.floor + 1000000

-- no undisturbed try is lost where the controller is on and the room is large
abbrev pub NoneLost : Setting → RequestView → ℕ → Type 0
NoneLost setting request want =
    (table last : Table) (spare : ℕ) (entries : List Entry) → Valid table → table.kind ≡ setting.bus → is_on table.power ≡ true → large_room setting ≤ spare → IsUndisturbed entries →
    list_all is_wire_step entries ≡ true → IsRun table entries last → ¬ (TriesOnce setting request want (seen true spare) entries (Again false))

-- a controller on the bus of a command, on where the host sees it so, along a run of the command's entries
record Along (setting : Setting) (view : HostView) (entries : List Entry) (table last : Table) : Type 0 where
  pub valid : Valid table
  pub kind_is : table.kind ≡ setting.bus
  pub on_is : is_on table.power ≡ view.on
  pub steps : list_all is_wire_step entries ≡ true
  pub run : IsRun table entries last

-- the same of the first entries and of the others
record Halves (setting : Setting) (view : HostView) (first rest : List Entry) (table last : Table) : Type 0 where
  pub middle : Table
  pub before : Along setting view first table middle
  pub behind : Along setting (view_after first view) rest middle last

halves : (setting : Setting) (view : HostView) (first rest : List Entry) (table last : Table) → Along setting view (first ++ rest) table last → Halves setting view first rest table last
halves setting view first rest table last along =
    let runs = run-split table last first rest along.run in
    let steps = and_parts (list_all is_wire_step first) (list_all is_wire_step rest) (sym (list_all-append is_wire_step first rest) ∙ along.steps) in
    record {
      middle = runs.0;
      before = record { valid = along.valid; kind_is = along.kind_is; on_is = along.on_is; steps = steps.0; run = runs.1 };
      behind = record {
        valid = run-valid table first runs.0 along.valid runs.1;
        kind_is = run-kind table first runs.0 along.valid runs.1 ∙ along.kind_is;
        on_is = run-power table first runs.0 runs.1 ∙ ap (on_after first) along.on_is;
        steps = steps.1;
        run = runs.2;
      };
    }

-- something upset a try that said nothing: in a large room it would not have been lost
lost-upset : (setting : Setting) (request : RequestView) (want : ℕ) (view : HostView) (entries : List Entry) (table last : Table) → NoneLost setting request want →
    Along setting view entries table last → TriesOnce setting request want view entries (Again false) → list_any is_upset entries ≡ true
lost-upset setting request want view entries table last none along once = not-off (list_any is_upset entries) (λ calm.
    let spare = view.spare + large_room setting in
    let on = lost-on setting request want view entries once in
    let more : TriesOnce setting request want (seen view.on spare) entries (Again false) =
    try-more setting request want view.on view.spare spare entries (Again false) (omega arith) (λ same. cc) once in
    let roomy : TriesOnce setting request want (seen true spare) entries (Again false) = subst (λ (power : Bool). TriesOnce setting request want (seen power spare) entries (Again false)) on more in
    none table last spare entries along.valid along.kind_is (along.on_is ∙ on) (omega arith) calm along.steps along.run roomy)

-- something upset each of the tries
each-upset : (setting : Setting) (request : RequestView) (want : ℕ) (view : HostView) (entries : List Entry) (table last : Table) → NoneLost setting request want →
    Along setting view entries table last → ThreeLost setting request want view entries → EachUpset entries
each-upset setting request want view entries table last none along lost =
    let whole : Along setting view (lost.first ++ lost.second ++ lost.third) table last = subst (λ (all : List Entry). Along setting view all table last) lost.parts along in
    let two = halves setting view (lost.first ++ lost.second) lost.third table last whole in
    let one = halves setting view lost.first lost.second table two.middle two.before in
    let three : Along setting (view_after lost.second (view_after lost.first view)) lost.third two.middle last = record {
      valid = two.behind.valid;
      kind_is = two.behind.kind_is;
      on_is = run-power one.middle lost.second two.middle one.behind.run ∙ ap (on_after lost.second) one.behind.on_is;
      steps = two.behind.steps;
      run = two.behind.run;
    } in
    record {
      first = lost.first;
      second = lost.second;
      third = lost.third;
      parts = lost.parts;
      one = lost-upset setting request want view lost.first table one.middle none one.before lost.one;
      two = lost-upset setting request want (view_after lost.first view) lost.second one.middle two.middle none one.behind lost.two;
      three = lost-upset setting request want (view_after lost.second (view_after lost.first view)) lost.third two.middle last none three lost.three;
    }

-- something upset each of the three tries of a command that said nothing, where no undisturbed one is lost
pub upset-each : (setting : Setting) (request : RequestView) (want : ℕ) (view : HostView) (entries : List Entry) (table last : Table) → NoneLost setting request want →
    Valid table → table.kind ≡ setting.bus → is_on table.power ≡ view.on → list_all is_wire_step entries ≡ true → IsRun table entries last →
    Tries setting request want view entries SaidUpset → EachUpset entries
upset-each setting request want view entries table last none valid kind_is on_is steps run tries =
    each-upset setting request want view entries table last none (record { valid = valid; kind_is = kind_is; on_is = on_is; steps = steps; run = run })
    (three-lost setting request want view entries tries)

-- a try that says something with some status is not lost
meant-kept : (three : Bool) (status : ℕ) (body : List ℕ) → Again false ≡ (if three then Again true else Final (Answered status body)) → ⊥
meant-kept true status body same = cc
meant-kept false status body same = cc

-- no undisturbed try of a proper request is lost
pub none-lost : (setting : Setting) (request : RequestView) (want : ℕ) → IsProper setting.bus request want → NoneLost setting request want
none-lost setting request want proper table last spare entries valid kind on room calm steps run tries =
    let first = awake-in table.power on in
    let has = awake-in (settled table).power (settled-on table first.awake first.on) in
    let core = core_of (settled table) has.awake in
    let waiting = waiting_room setting.bus (is_waiting table.power) in
    let own = try_room setting.bus request core + waiting in
    let many = spare + (setting.floor + 1500 + own) in
    let more = try-more setting request want true spare many entries (Again false) (omega arith) (λ short. cc) tries in
    let open_ = subst (λ (bus : BusKind). IsOpen bus core table) kind (opens table has valid) in
    let tried = try-calm setting request want (seen true many) core table entries (Again false) last waiting open_ proper refl (record { on = refl; enough = omega arith }) (record { calm = calm; steps = steps }) run more in
    meant-kept (tried.status == 3) tried.status tried.body tried.end_is
