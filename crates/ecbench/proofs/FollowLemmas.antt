-- Commands of a line on a controller whose flash tells its bytes, whatever befalls it.
use Rattle.std.proofs.Common.{◌≡◌, refl, sym, ap, ◌∙◌, subst, ℕ, Bool, true, false, List, [], ◌∷◌}
use Rattle.std.specs.List.{list_any}
use Rattle.ec_types.specs.declared.bus.BusKind.{BusKind}
use Rattle.ec_model.specs.declared.event.Entry.{Entry}
use Rattle.ec_model.specs.HostCalls.{HostView, on_after}
use Rattle.ec_model.specs.Table.{Table, Power, Off, On}
use Rattle.ec_model.specs.Run.{IsRun}
use Rattle.ec_model.specs.Upset.{is_upset, IsUndisturbed}
use Rattle.ec_model.proofs.RunLaws.{run-valid, run-kind, run-split}
use Rattle.command_laws.proofs.RunPower.{run-power}
use Rattle.ec_model.specs.Tries.{Said, Answered, SaidNoPower, SaidUpset, SaidShort}
use Rattle.ectool_lines.specs.Requests.{Asked}
use Rattle.ectool_lines.specs.Texts.{LineEnd, Succeeded, Stopped}
use Rattle.ectool_lines.specs.Asking.{AllSucceed, AsksEach, Hears}
use Rattle.ectool_lines.specs.Answering.{AnswersBy, Answers}
use Rattle.ectool_lines.specs.Following.{stands, host_of, IsCaused, Follows}
use Rattle.ectool_lines.proofs.AnswerLemmas.{Ready, IsProper, AreProper, proper-split, heard}

-- a controller is ready behind a run, whatever befell it
pub run-ready : {kind : BusKind} (on : Bool) (table : Table) (entries : List Entry) (last : Table) → Ready kind on table → IsRun table entries last → Ready kind (on_after entries on) last
run-ready {kind} on table entries last ready run =
    record {
      valid = run-valid table entries last ready.valid run;
      kind = run-kind table entries last ready.valid run ∙ ready.kind;
      on_is = run-power table entries last run ∙ ap (on_after entries) ready.on_is;
    }

-- a command that was answered has a status
answered-by : (power : Power) (table : Table) (asked : Asked) (entries : List Entry) (said : Said) (last : Table) → AnswersBy power table asked entries said last → IsCaused said entries
answered-by Off table asked entries said last answers = subst (λ (s : Said). IsCaused s entries) (sym answers.said_is) tt
answered-by (On awake) table asked entries said last answers = subst (λ (s : Said). IsCaused s entries) (sym answers.said_is) tt

-- one that was not, though there is power and room, has an upset among its entries
upset-caused : (said : Said) (entries : List Entry) → list_any is_upset entries ≡ true → IsCaused said entries
upset-caused SaidUpset entries upset = upset
upset-caused SaidShort entries upset = tt
upset-caused (Answered status body) entries upset = tt
upset-caused SaidNoPower entries upset = tt

-- want of room is none that has to be caused here
long-caused : (said : Said) (entries : List Entry) → (¬ (said ≡ SaidShort) → IsCaused said entries) → IsCaused said entries
long-caused SaidUpset entries long = long (λ same. cc)
long-caused SaidShort entries long = tt
long-caused (Answered status body) entries long = tt
long-caused SaidNoPower entries long = tt

caused : (table : Table) (asked : Asked) (entries : List Entry) (said : Said) (last : Table) → (IsUndisturbed entries → ¬ (said ≡ SaidShort) → Answers table asked entries said last) → IsCaused said entries
caused table asked entries said last answers = by (list_any is_upset entries) refl where
  by : (b : Bool) → list_any is_upset entries ≡ b → IsCaused said entries
  by true upset = upset-caused said entries upset
  by false calm = long-caused said entries (λ long. answered-by table.power table asked entries said last (answers calm long))

-- a command that followed
record HasFollowed (kind : BusKind) (table : Table) (view : HostView) (asked : Asked) (entries : List Entry) (said : Said) (after : HostView) (last : Table) : Type 0 where
  pub follows : Follows (stands table view.spare) asked entries said (stands last after.spare)
  pub ready : Ready kind after.on last

-- what the host sees, with the power that the controller has
abbrev seen_by : ℕ → Bool → HostView
seen_by spare on = record { on = on; spare = spare }

follows : {kind : BusKind} (view : HostView) (table last : Table) (asked : Asked) (entries : List Entry) (said : Said) (after : HostView) → Ready kind view.on table → IsProper kind asked → Hears kind view asked entries said after → IsRun table entries last → HasFollowed kind table view asked entries said after last
follows {kind} view table last asked entries said after ready proper hears run =
    let power : after.on ≡ on_after entries view.on = ap (λ (v : HostView). v.on) hears.after_is in
    let next : Ready kind after.on last = subst (λ (o : Bool). Ready kind o last) (sym power) (run-ready view.on table entries last ready run) in
    let answers : IsUndisturbed entries → ¬ (said ≡ SaidShort) → Answers table asked entries said last = λ calm long. heard kind view table last asked entries said after ready proper hears run calm long in
    record {
      follows = record {
        hears = subst (λ (bus : BusKind). Hears bus (host_of (stands table view.spare)) asked entries said (host_of (stands last after.spare))) (sym ready.kind)
            (subst (λ (o : Bool). Hears kind (host_of (stands table view.spare)) asked entries said (seen_by after.spare o)) (sym next.on_is) (subst (λ (o : Bool). Hears kind (seen_by view.spare o) asked entries said after) (sym ready.on_is) hears));
        run = run;
        answers = answers;
        caused = caused table asked entries said last answers;
      };
      ready = next;
    }

-- some commands, each of which was a success
record AllFollowed (kind : BusKind) (table : Table) (view : HostView) (commands : List Asked) (entries : List Entry) (bodies : List (List ℕ)) (after : HostView) (last : Table) : Type 0 where
  pub succeeded : AllSucceed Follows (stands table view.spare) commands entries bodies (stands last after.spare)
  pub ready : Ready kind after.on last

-- the same controller and the same room
stands-same : (one other : Table) (few many : ℕ) → one ≡ other → few ≡ many → stands one few ≡ stands other many
stands-same one other few many same spare = rw (same, spare) refl

all-followed : {kind : BusKind} (view : HostView) (table last : Table) (commands : List Asked) (entries : List Entry) (bodies : List (List ℕ)) (after : HostView) → Ready kind view.on table → AreProper kind commands → AllSucceed (Hears kind) view commands entries bodies after → IsRun table entries last →
    AllFollowed kind table view commands entries bodies after last
all-followed {kind} view table last [] entries bodies after ready proper (none, no_body, still) run =
    let same : last ≡ table = subst (λ (e : List Entry). IsRun table e last) none run in
    record {
      succeeded = (none, no_body, stands-same last table after.spare view.spare same (ap (λ (v : HostView). v.spare) still));
      ready = subst (λ (v : HostView). Ready kind v.on last) (sym still) (subst (λ (t : Table). Ready kind view.on t) (sym same) ready);
    }
all-followed {kind} view table last (asked ∷ commands) entries bodies after ready proper (first, rest, body, others, middle, entries_are, bodies_are, hears, more) run =
    let split = run-split table last first rest (subst (λ (e : List Entry). IsRun table e last) entries_are run) in
    let here = follows view table split.0 asked first (Answered 0 body) middle ready proper.0 hears split.1 in
    let behind = all-followed middle split.0 last commands rest others after here.ready proper.1 more split.2 in
    record { succeeded = (first, rest, body, others, stands split.0 middle.spare, entries_are, bodies_are, here.follows, behind.succeeded); ready = behind.ready }

-- the commands of a line
pub record EachFollowed (kind : BusKind) (table : Table) (view : HostView) (commands : List Asked) (entries : List Entry) (end : LineEnd) (after : HostView) (last : Table) : Type 0 where
  pub asks : AsksEach Follows (stands table view.spare) commands entries end (stands last after.spare)
  pub ready : Ready kind after.on last

pub each-followed : {kind : BusKind} (view : HostView) (table last : Table) (commands : List Asked) (entries : List Entry) (end : LineEnd) (after : HostView) → Ready kind view.on table → AreProper kind commands → AsksEach (Hears kind) view commands entries end after → IsRun table entries last →
    EachFollowed kind table view commands entries end after last
each-followed {kind} view table last commands entries (Succeeded bodies) after ready proper asks run =
    let all = all-followed view table last commands entries bodies after ready proper asks run in
    record { asks = all.succeeded; ready = all.ready }
each-followed {kind} view table last commands entries (Stopped said) after ready proper stops run =
    let split = run-split table last stops.first stops.last (subst (λ (e : List Entry). IsRun table e last) stops.entries_are run) in
    let propers = proper-split kind stops.before stops.asked stops.after (subst (AreProper kind) stops.commands_are proper) in
    let front = all-followed view table split.0 stops.before stops.first stops.bodies stops.middle ready propers.0 stops.succeeded split.1 in
    let here = follows stops.middle split.0 last stops.asked stops.last said after front.ready propers.1 stops.asks_last split.2 in
    record {
      asks = record {
        before = stops.before;
        asked = stops.asked;
        after = stops.after;
        first = stops.first;
        last = stops.last;
        bodies = stops.bodies;
        middle = stands split.0 (stops.middle).spare;
        commands_are = stops.commands_are;
        entries_are = stops.entries_are;
        succeeded = front.succeeded;
        asks_last = here.follows;
        refused = stops.refused;
      };
      ready = here.ready;
    }
