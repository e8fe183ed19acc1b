-- Parts of a sync that nothing disturbs, one behind the other.
use Rattle.std.proofs.Common.{◌≡◌, refl, sym, ap, ◌∙◌, subst, ℕ, zero, suc, ◌+◌, ◌≤◌, Bool, true, false, nat_lt, List, [], ◌∷◌, length, map, replicate, Result, Ok, Err, arith}
use Rattle.std.proofs.lemmas.Bool.Decides.{leb_tells}
use Rattle.std.proofs.lemmas.List.{length-replicate}
use Rattle.ec_types.specs.Tables.{packet_limit}
use Rattle.ec_types.specs.declared.bus.BusKind.{BusKind}
use Rattle.ec_types.specs.declared.bus.BusKind.TheVariants.{Lpc, I2c, Spi}
use Rattle.ec_model.specs.declared.event.Entry.{Entry}
use Rattle.ec_model.specs.Answer.{Answered}
use Rattle.ec_model.specs.Asks.{Setting}
use Rattle.ec_model.specs.HostCalls.{HostView, HostCall, Waited, calls_of, view_after}
use Rattle.ec_model.specs.Packet.{RequestView}
use Rattle.ec_model.specs.Run.{IsRun}
use Rattle.ec_model.specs.Table.{Table, Core}
use Rattle.ec_model.specs.Tries.{Said, Answered as SaidAnswered}
use Rattle.ec_model.proofs.RunLaws.{run-split}
use Rattle.ec_wire.specs.Quiet.{quiet_entry}
use Rattle.ec_wire.proofs.Calm.{determined}
use Rattle.exchange_laws.specs.Resting.{is_waiting}
use Rattle.host_framing.specs.Room.{waiting_room}
use Rattle.command_laws.specs.Carried.{carried}
use Rattle.command_laws.specs.Commands.{IsProper}
use Rattle.command_laws.specs.Idle.{after_ticks, ticked}
use Rattle.command_laws.specs.Restarting.{restarted, restart_room}
use Rattle.command_laws.specs.Room.{command_room}
use Rattle.command_laws.specs.Standing.{IsQuiet, IsAt, HasRoom}
use Rattle.command_laws.proofs.Commanding.{command-calm}
use Rattle.command_laws.proofs.Parts.{quiet-both, quiet-on, calls-both}
use Rattle.command_laws.proofs.Restarting.{restart-calm}
use Rattle.command_laws.proofs.Waiting.{at-open, at-rest, waits-calm}
use Rattle.sync_rules.specs.declared.ending.Stop.{Stop}
use Rattle.sync_rules.specs.declared.ending.Stop.TheVariants.{Lost}
use Rattle.sync_rules.specs.Parts.{Gives, Leads, Then, When, WhereRoom, Pauses, Waits, Commands, Colds, cold_told}
use Rattle.sync_laws.specs.Calm.{ReachesFrom, Reaches}

-- the room behind a part
pub behind-room : (setting : Setting) (view : HostView) (first : List Entry) (most more : ℕ) → IsQuiet first → length (calls_of first) ≤ most → HasRoom setting view (most + more) → HasRoom setting (view_after first view) more
behind-room setting view first most more quiet takes has = record { on = quiet-on first view.on quiet ∙ has.on; enough = omega (arith, has.enough, takes) }

-- two parts
pub then-from : {A B : Type 0} → (from : Table → Type 0) (setting : Setting) (first : HostView → List Entry → Result A Stop → Type 0) (next : A → HostView → List Entry → Result B Stop → Type 0) (middle after : Core) (value : A) (given : Result B Stop) (most more : ℕ) →
    ReachesFrom from setting first (Ok value) middle most → Reaches setting (next value) middle given after more → ReachesFrom from setting (Then first next) given after (most + more)
then-from {A} {B} from setting first next middle after value given most more one two view table entries told last at has quiet run both =
    let split = run-split table last both.opening both.rest (subst (λ (xs : List Entry). IsRun table xs last) both.parts run) in
    let quiets = quiet-both both.opening both.rest (subst (λ (xs : List Entry). IsQuiet xs) both.parts quiet) in
    let begins = one view table both.opening both.reached split.0 at (record { on = has.on; enough = omega (arith, has.enough) }) quiets.0 split.1 both.began in
    let leads = subst (λ (reached : Result A Stop). Leads reached next (view_after both.opening view) both.rest told) begins.told_is both.leads in
    let room = behind-room setting view both.opening most more quiets.0 begins.takes has in
    let goes = two (view_after both.opening view) split.0 both.rest told last begins.at room quiets.1 split.2 leads in
    record {
      told_is = goes.told_is;
      at = goes.at;
      takes = subst (λ (xs : List Entry). length (calls_of xs) ≤ most + more) (sym both.parts) (omega (arith, calls-both both.opening both.rest, begins.takes, goes.takes));
    }

pub then-reaches : {A B : Type 0} → (setting : Setting) (first : HostView → List Entry → Result A Stop → Type 0) (next : A → HostView → List Entry → Result B Stop → Type 0) (core middle after : Core) (value : A) (given : Result B Stop) (most more : ℕ) →
    Reaches setting first core (Ok value) middle most → Reaches setting (next value) middle given after more → Reaches setting (Then first next) core given after (most + more)
then-reaches setting first next core middle after value given most more one two = then-from (IsAt setting.bus core) setting first next middle after value given most more one two

-- nothing is done
pub gives-reaches : {A : Type 0} → (setting : Setting) (given : Result A Stop) (core : Core) → Reaches setting (Gives given) core given core 0
gives-reaches setting given core view table entries told last at has quiet run (none, same) =
    let still = subst (λ (xs : List Entry). IsRun table xs last) none run in
    record {
      told_is = same;
      at = subst (λ (t : Table). IsAt setting.bus core t) (sym still) at;
      takes = subst (λ (xs : List Entry). length (calls_of xs) ≤ 0) (sym none) (omega arith);
    }

-- one part or another, by the test
pub when-reaches : {A : Type 0} → (setting : Setting) (test known : Bool) (first second : HostView → List Entry → Result A Stop → Type 0) (core : Core) (given : Result A Stop) (after : Core) (room : ℕ) → test ≡ known →
    Reaches setting (When known first second) core given after room → Reaches setting (When test first second) core given after room
when-reaches setting test known first second core given after room is reaches =
    subst (λ (b : Bool). Reaches setting (When b first second) core given after room) (sym is) reaches

-- with room
room-by : {A : Type 0} → (setting : Setting) (part : HostView → List Entry → Result A Stop → Type 0) (view : HostView) (entries : List Entry) (told : Result A Stop) (short : Bool) → short ≡ false → When short (Gives (Err Lost)) part view entries told → part view entries told
room-by setting part view entries told true is does = absurd (cc)
room-by setting part view entries told false is does = does

pub room-reaches : {A : Type 0} → (from : Table → Type 0) (setting : Setting) (part : HostView → List Entry → Result A Stop → Type 0) (given : Result A Stop) (after : Core) (room : ℕ) →
    ReachesFrom from setting part given after room → ReachesFrom from setting (WhereRoom setting part) given after room
room-reaches from setting part given after room reaches view table entries told last at has quiet run does =
    let large : nat_lt view.spare (setting.floor + 1500) ≡ false = grind (arith, leb_tells, has.enough) in
    reaches view table entries told last at has quiet run (room-by setting part view entries told (nat_lt view.spare (setting.floor + 1500)) large does)

-- no call is spent on a request that waits, where none does
no-waiting : (bus : BusKind) → waiting_room bus false ≡ 0
no-waiting Lpc = refl
no-waiting I2c = refl
no-waiting Spi = refl

none-waits : (bus : BusKind) (core : Core) (table : Table) → IsAt bus core table → 0 ≡ waiting_room bus (is_waiting table.power)
none-waits bus core table at = sym (ap (waiting_room bus) (at-rest bus core table at) ∙ no-waiting bus)

-- answers that are the same
core-same : (core other : Core) (status told : ℕ) (body bytes : List ℕ) → Answered core status body ≡ Answered other told bytes → core ≡ other
core-same core other status told body bytes same = cc

said-same : (core other : Core) (status told : ℕ) (body bytes : List ℕ) → Answered core status body ≡ Answered other told bytes → SaidAnswered status body ≡ SaidAnswered told bytes
said-same core other status told body bytes same = cc

-- a command, by what it comes to on the controller
pub commands-reach : {A : Type 0} → (setting : Setting) (request : RequestView) (want : ℕ) (meant : Said → Result A Stop) (core after : Core) (status : ℕ) (body : List ℕ) → IsProper setting.bus request want →
    carried (packet_limit setting.bus) request core ≡ Answered after status body →
    Reaches setting (Commands setting request want meant) core (meant (SaidAnswered status body)) after (command_room setting.bus request core)
commands-reach setting request want meant core after status body proper comes view table entries told last at has quiet run command =
    let result = command-calm setting request want view core table entries command.said last 0 (at-open setting.bus core table at) proper (none-waits setting.bus core table at) (record { on = has.on; enough = omega (arith, has.enough) }) quiet run command.asked in
    let same = sym result.is ∙ comes in
    record {
      told_is = command.told_is ∙ ap meant (result.said_is ∙ said-same result.after after result.status status result.body body same);
      at = subst (λ (c : Core). IsAt setting.bus c last) (core-same result.after after result.status status result.body body same) result.at;
      takes = omega (arith, result.takes);
    }

-- a restart
pub colds-reach : (setting : Setting) (core : Core) → Reaches setting (Colds setting) core (Ok tt) (restarted core) (restart_room setting.bus core.live.erase)
colds-reach setting core view table entries told last at has quiet run colds =
    let result = restart-calm setting view core table entries colds.end last 0 (at-open setting.bus core table at) (none-waits setting.bus core table at) (record { on = has.on; enough = omega (arith, has.enough) }) quiet run colds.restarted in
    record { told_is = colds.told_is ∙ ap cold_told result.end_is; at = result.at; takes = omega (arith, result.takes) }

-- waits, each of which is a tick
ticks-at : (count : ℕ) (kind : BusKind) (core : Core) (table last : Table) → IsAt kind core table → IsRun table (map quiet_entry (replicate count Waited)) last → IsAt kind (after_ticks count core) last
ticks-at zero kind core table last at run = subst (λ (t : Table). IsAt kind core t) (sym run) at
ticks-at (suc count) kind core table last at run =
    let split = run-split table last (quiet_entry Waited ∷ []) (map quiet_entry (replicate count Waited)) run in
    let one = waits-calm kind core table (quiet_entry Waited ∷ []) split.0 at refl (record { calm = refl; steps = refl }) split.1 in
    ticks-at count kind (ticked core) split.0 last one split.2

pub waits-reach : (count : ℕ) (setting : Setting) (core : Core) → Reaches setting (Waits count setting) core (Ok tt) (after_ticks count core) count
waits-reach count setting core =
    room-reaches (IsAt setting.bus core) setting (Pauses count) (Ok tt) (after_ticks count core) count
    (λ view table entries told last at has quiet run pauses.
    let entries_are = determined entries quiet.steps quiet.calm ∙ ap (λ (calls : List HostCall). map quiet_entry calls) pauses.waited in
    record {
      told_is = pauses.told_is;
      at = ticks-at count setting.bus core table last at (subst (λ (xs : List Entry). IsRun table xs last) entries_are run);
      takes = omega (arith, ap (λ (calls : List HostCall). length calls) pauses.waited ∙ length-replicate count Waited);
    })
