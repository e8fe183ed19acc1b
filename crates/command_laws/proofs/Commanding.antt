-- A whole command that nothing disturbs.
use Rattle.std.proofs.Common.{◌≡◌, refl, sym, ap, ◌∙◌, subst, ℕ, zero, suc, ◌+◌, ◌*◌, Bool, true, false, ◌||◌, ◌==◌, if◌then◌else◌, List, [], ◌++◌, length, arith}
use Rattle.std.proofs.lemmas.Bool.{eqb-true}
use Rattle.ec_types.specs.Tables.{packet_limit}
use Rattle.ec_types.specs.declared.bus.BusKind.{BusKind}
use Rattle.ec_model.specs.declared.event.Entry.{Entry}
use Rattle.ec_model.specs.Answer.{Outcome, Answered, Restarts}
use Rattle.ec_model.specs.Asks.{Setting}
use Rattle.ec_model.specs.HostCalls.{HostView, calls_of, view_after}
use Rattle.ec_model.specs.Packet.{RequestView}
use Rattle.ec_model.specs.Run.{IsRun}
use Rattle.ec_model.specs.Table.{Table, Core}
use Rattle.ec_model.specs.Tries.{TryEnd, Final, Again, Said, Answered as SaidAnswered, said_last, TryLeads, TriesUpTo, Tries}
use Rattle.ec_model.proofs.RunLaws.{run-split}
use Rattle.exchange_laws.specs.Resting.{is_waiting}
use Rattle.host_framing.specs.Room.{waiting_room}
use Rattle.command_laws.specs.Carried.{carried}
use Rattle.command_laws.specs.Room.{led_room, try_room, command_room}
use Rattle.command_laws.proofs.Parts.{quiet-both, calls-both}
use Rattle.command_laws.proofs.Waiting.{at-open, at-rest}
use Rattle.command_laws.proofs.Polling.{no-waiting, room-behind}
use Rattle.command_laws.proofs.PastErase.{room-on, room-off, room-of, run-none}
use Rattle.command_laws.proofs.Trying.{IsTried, meant, try-calm}
use Rattle.command_laws.specs.Commands.{IsCarried, IsProper}
use Rattle.command_laws.specs.Standing.{HasRoom, IsAt, IsOpen, IsQuiet}

-- the parts of an outcome
abbrev status_in : Outcome → ℕ
status_in (Answered after status body) = status
status_in Restarts = 0

abbrev core_in : Core → Outcome → Core
core_in core (Answered after status body) = after
core_in core Restarts = core

-- tries of a request that is refused for its parameters
record IsRefused (bus : BusKind) (core : Core) (room : ℕ) (entries : List Entry) (said : Said) (last : Table) : Type 0 where
  pub said_is : said ≡ SaidAnswered 3 []
  pub at : IsAt bus core last
  pub takes : length (calls_of entries) ≡ room

or-true : (three another : Bool) → another ≡ true → (three || another) ≡ true
or-true true another same = refl
or-true false another same = same

-- what a try means with this status
meant-three : (status : ℕ) (body : List ℕ) → (status == 3) ≡ true → meant status body ≡ Again true
meant-three status body same = ap (λ (test : Bool). if test then Again true else Final (SaidAnswered status body)) same

meant-final : (status : ℕ) (body : List ℕ) → (status == 3) ≡ false → meant status body ≡ Final (SaidAnswered status body)
meant-final status body other = ap (λ (test : Bool). if test then Again true else Final (SaidAnswered status body)) other

-- each further try is refused again
refused-tries : (tries : ℕ) (three : Bool) (setting : Setting) (request : RequestView) (want : ℕ) (view : HostView) (core : Core) (table : Table) (entries : List Entry) (said : Said) (last : Table) → three ≡ true →
    IsAt setting.bus core table → IsProper setting.bus request want → carried (packet_limit setting.bus) request core ≡ Answered core 3 [] → HasRoom setting view (tries * try_room setting.bus request core) → IsQuiet entries → IsRun table entries last →
    TriesUpTo tries three setting request want view entries said → IsRefused setting.bus core (tries * try_room setting.bus request core) entries said last
refused-tries zero three setting request want view core table entries said last is at proper refused has quiet run tries =
    let same = run-none entries table last tries.0 run in
    record {
      said_is = tries.1 ∙ ap said_last is;
      at = subst (λ (t : Table). IsAt setting.bus core t) (sym same) at;
      takes = ap (λ (xs : List Entry). length (calls_of xs)) tries.0 ∙ omega arith;
    }
refused-tries (suc tries) three setting request want view core table entries said last is at proper refused has quiet run (first, rest, end, parts, once, leads) =
    let bus = setting.bus in
    let room = try_room bus request core in
    let split = run-split table last first rest (subst (λ (xs : List Entry). IsRun table xs last) parts run) in
    let quiets = quiet-both first rest (subst (λ (xs : List Entry). IsQuiet xs) parts quiet) in
    let tried = try-calm setting request want view core table first end split.0 0 (at-open bus core table at) proper (sym (no-waiting bus (is_waiting table.power) (at-rest bus core table at)))
    (room-of setting view (suc tries * room) (room + 0) (omega arith) has) quiets.0 split.1 once in
    let outcome = sym tried.is ∙ refused in
    let three_told : tried.status ≡ 3 = ap status_in outcome in
    let kept : tried.after ≡ core = ap (core_in core) outcome in
    let again : end ≡ Again true = tried.end_is ∙ meant-three tried.status tried.body (ap (λ (n : ℕ). n == 3) three_told) in
    let more = subst (λ (e : TryEnd). TryLeads e (λ (another : Bool). TriesUpTo tries (three || another) setting request want (view_after first view) rest said) rest said) again leads in
    let behind = room-behind setting view first room (tries * room) quiets.0 (tried.takes ∙ omega arith) (record { on = has.on; enough = omega (arith, has.enough) }) in
    let others = refused-tries tries (three || true) setting request want (view_after first view) core split.0 rest said last (or-true three true refl) (subst (λ (c : Core). IsAt bus c split.0) kept tried.at) proper refused behind quiets.1 split.2 more in
    record {
      said_is = others.said_is;
      at = others.at;
      takes = ap (λ (xs : List Entry). length (calls_of xs)) parts ∙ calls-both first rest ∙ omega (arith, tried.takes, others.takes);
    }

-- a command by whether its first try was refused for its parameters
command-by : (three : Bool) (setting : Setting) (request : RequestView) (want : ℕ) (view : HostView) (core : Core) (middle : Table) (entries first rest : List Entry) (end : TryEnd) (said : Said) (last : Table) (waiting : ℕ) → IsProper setting.bus request want →
    HasRoom setting view (command_room setting.bus request core + waiting) → entries ≡ first ++ rest → IsQuiet first → IsQuiet rest → IsRun middle rest last →
    TryLeads end (λ (another : Bool). TriesUpTo 2 (false || another) setting request want (view_after first view) rest said) rest said → (tried : IsTried setting.bus request core (try_room setting.bus request core + waiting) first end middle) → (tried.status == 3) ≡ three →
    IsCarried setting.bus request core (command_room setting.bus request core + waiting) entries said last
command-by false setting request want view core middle entries first rest end said last waiting proper has parts quiet quiets run leads tried other =
    let bus = setting.bus in
    let final = tried.end_is ∙ meant-final tried.status tried.body other in
    let over = subst (λ (e : TryEnd). TryLeads e (λ (another : Bool). TriesUpTo 2 (false || another) setting request want (view_after first view) rest said) rest said) final leads in
    let more = ap (led_room 3 (λ after. 2 * try_room bus request after)) tried.is ∙ room-off 3 tried.status (λ after. 2 * try_room bus request after) tried.after tried.body other in
    record {
      after = tried.after;
      status = tried.status;
      body = tried.body;
      is = tried.is;
      said_is = over.1;
      at = subst (λ (t : Table). IsAt bus tried.after t) (sym (run-none rest middle last over.0 run)) tried.at;
      takes = ap (λ (xs : List Entry). length (calls_of xs)) parts ∙ calls-both first rest ∙ omega (arith, tried.takes, more, ap (λ (xs : List Entry). length (calls_of xs)) over.0);
    }
command-by true setting request want view core middle entries first rest end said last waiting proper has parts quiet quiets run leads tried same =
    let bus = setting.bus in
    let three = eqb-true tried.status 3 same in
    let refused = tried.again three in
    let again = tried.end_is ∙ meant-three tried.status tried.body same in
    let others = subst (λ (e : TryEnd). TryLeads e (λ (another : Bool). TriesUpTo 2 (false || another) setting request want (view_after first view) rest said) rest said) again leads in
    let more = ap (led_room 3 (λ after. 2 * try_room bus request after)) tried.is ∙ room-on 3 tried.status (λ after. 2 * try_room bus request after) tried.after tried.body same in
    let behind = room-behind setting view first (length (calls_of first)) (2 * try_room bus request tried.after) quiet refl (record { on = has.on; enough = omega (arith, has.enough, tried.takes, more) }) in
    let rest_tried = refused-tries 2 true setting request want (view_after first view) tried.after middle rest said last refl tried.at proper refused.1 behind quiets run others in
    record {
      after = tried.after;
      status = tried.status;
      body = tried.body;
      is = tried.is;
      said_is = rest_tried.said_is ∙ ap (λ (n : ℕ). SaidAnswered n []) (sym three) ∙ ap (SaidAnswered tried.status) (sym refused.0);
      at = rest_tried.at;
      takes = ap (λ (xs : List Entry). length (calls_of xs)) parts ∙ calls-both first rest ∙ omega (arith, tried.takes, rest_tried.takes, more);
    }

-- a whole command
pub command-calm : (setting : Setting) (request : RequestView) (want : ℕ) (view : HostView) (core : Core) (table : Table) (entries : List Entry) (said : Said) (last : Table) (waiting : ℕ) → IsOpen setting.bus core table → IsProper setting.bus request want → waiting ≡ waiting_room setting.bus (is_waiting table.power) →
    HasRoom setting view (command_room setting.bus request core + waiting) → IsQuiet entries → IsRun table entries last → Tries setting request want view entries said →
    IsCarried setting.bus request core (command_room setting.bus request core + waiting) entries said last
command-calm setting request want view core table entries said last waiting open_ proper waits has quiet run (first, rest, end, parts, once, leads) =
    let bus = setting.bus in
    let split = run-split table last first rest (subst (λ (xs : List Entry). IsRun table xs last) parts run) in
    let quiets = quiet-both first rest (subst (λ (xs : List Entry). IsQuiet xs) parts quiet) in
    let tried = try-calm setting request want view core table first end split.0 waiting open_ proper waits (room-of setting view (command_room bus request core + waiting) (try_room bus request core + waiting) (omega arith) has) quiets.0 split.1 once in
    command-by (tried.status == 3) setting request want view core split.0 entries first rest end said last waiting proper has parts quiets.0 quiets.1 split.2 leads tried refl
