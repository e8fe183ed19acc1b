-- A line that nothing disturbs has room enough for each of its commands.
use Rattle.std.proofs.Common.{◌≡◌, refl, sym, ap, ◌∙◌, subst, ℕ, zero, suc, ◌+◌, ◌-◌, ◌*◌, ◌%◌, ◌^◌, ◌≤◌, min, Bool, true, false, ◌||◌, List, [], ◌∷◌, ◌++◌, length, length-append, ◌⊎◌, inl, inr, Option, Some, None, arith}
use Rattle.std.specs.List.{list_any}
use Rattle.std.proofs.lemmas.List.Folds.{list_any-append}
use Rattle.ec_types.specs.Tables.{packet_limit}
use Rattle.ec_types.specs.declared.bus.BusKind.{BusKind}
use Rattle.ec_types.specs.declared.bus.BusKind.TheVariants.{Lpc, I2c, Spi}
use Rattle.ec_model.specs.declared.live.EraseJob.{EraseJob}
use Rattle.ec_model.specs.Answer.{Answered as OutcomeAnswered}
use Rattle.ec_model.specs.Handle.{handled}
use Rattle.ec_model.proofs.ValidRows.{IsCoreValid}
use Rattle.ec_model.specs.declared.event.Entry.{Entry}
use Rattle.ec_model.specs.HostCalls.{HostView, calls_of}
use Rattle.ec_model.specs.Run.{IsRun}
use Rattle.ec_model.specs.Syncable.{settled}
use Rattle.ec_model.specs.Table.{Table, Power, Off, On, Core, Valid, is_on, core_of}
use Rattle.ec_model.specs.Tries.{Said, Answered, SaidNoPower, SaidShort, Tries}
use Rattle.ec_model.specs.Upset.{is_upset, IsUndisturbed}
use Rattle.exchange_laws.specs.Resting.{is_waiting}
use Rattle.host_framing.specs.Room.{send_room, waiting_room}
use Rattle.command_laws.specs.Carried.{tells_any}
use Rattle.command_laws.specs.Commands.{IsProper as IsCommand, IsCarried}
use Rattle.command_laws.specs.Idle.{poll_waits}
use Rattle.command_laws.specs.Restarting.{blocks_left, cold_room, restarted, restart_room, IsRestarted}
use Rattle.command_laws.specs.Room.{turn_room, command_room}
use Rattle.command_laws.specs.Standing.{IsOpen, IsAt, IsQuiet}
use Rattle.command_laws.proofs.Answering.{IsSound, at-sound, open-sound, sound-valid, waits-few}
use Rattle.command_laws.proofs.Commanding.{command-calm}
use Rattle.command_laws.proofs.FewCalls.{ask-few, turn-few, turns-few, any-few, success-few, KeepsErase, idle-command, success-idle}
use Rattle.command_laws.proofs.MoreRoom.{seen}
use Rattle.command_laws.proofs.Opening.{awake-in, settled-on, opens}
use Rattle.command_laws.proofs.Polling.{no-waiting}
use Rattle.command_laws.proofs.Restarting.{restart-calm}
use Rattle.command_laws.proofs.Upsets.{not-off}
use Rattle.command_laws.proofs.Waiting.{at-open, at-rest}
use Rattle.host_transport.specs.Once.{Ending, Said as Told, Bad, Silent, NoPower as EndedOff}
use Rattle.ectool_lines.specs.declared.tool.Tool.{Tool}
use Rattle.ectool_lines.specs.declared.tool.Tool.TheVariants.{Hello, Version, ChipInfo, CmdVersions, ProtoInfo, FlashInfo, RegionInfo, FlashRead, FlashWrite, FlashErase, FlashProtect, Hash, HashAbort, HashStart, HashRange, Sysinfo, Reboot, RebootCold, Test, Resend}
use Rattle.ectool_lines.specs.Tools.{IsInRange}
use Rattle.ectool_lines.specs.Requests.{Asked, Way, Once, Restart, Try, way_of, is_cold, request_of, packet_of, first_of, count_of, command_of, commands_of}
use Rattle.ectool_lines.specs.Asking.{AllSucceed, StopsAt, said_once, said_restart, GoesBy, Hears, IsRestart}
use Rattle.ectool_lines.specs.Answering.{room_by, room_of}
use Rattle.ectool_lines.specs.Following.{Stand, host_of, Follows}
use Rattle.ectool_lines.proofs.AnswerLemmas.{IsProper, tried-proper, answers-off, command-proper}
use Rattle.ectool_lines.proofs.KeepLemmas.{read-keeps, write-keeps, sysinfo-keeps}
use Rattle.ectool_lines.proofs.SendLemmas.{try-test, limit-least, limit-most, count-few, command-short}

-- the status that is said
abbrev said_status : Said → ℕ
said_status (Answered status body) = status
said_status other = 0

-- a request that is sent once is never short
once-long : (ending : Ending) → ¬ (said_once ending ≡ SaidShort)
once-long (Told status body) = λ short. cc
once-long Bad = λ short. cc
once-long Silent = λ short. cc
once-long EndedOff = λ short. cc

-- such a request is a command that the laws speak of
as-command : (bus : BusKind) (asked : Asked) → way_of asked ≡ Try → IsProper bus asked → IsCommand bus (request_of asked) asked.want
as-command bus asked tried proper = let tests = try-test (tells_any asked.command) (is_cold asked) tried in tried-proper bus asked tests.0 (proper.plain tests.1) proper

-- a command on a controller that is open to it, which nothing disturbs
pub record IsCalm (bus : BusKind) (core : Core) (table : Table) (asked : Asked) (entries : List Entry) (last : Table) : Type 0 where
  pub open_ : IsOpen bus core table
  pub proper : IsProper bus asked
  pub quiet : IsQuiet entries
  pub run : IsRun table entries last

-- the calls that it takes
abbrev pub needs : BusKind → Core → Table → Asked → ℕ
needs bus core table asked = room_of bus asked core + waiting_room bus (is_waiting table.power)

-- a restart
settled-restart : (bus : BusKind) (core : Core) (table last : Table) (asked : Asked) (entries : List Entry) (said : Said) (spare : ℕ) → IsCalm bus core table asked entries last → way_of asked ≡ Restart → 1500 + needs bus core table asked ≤ spare →
    (goes : IsRestart bus (seen true spare) entries said) → IsRestarted bus core (needs bus core table asked) entries goes.end last
settled-restart bus core table last asked entries said spare calm restarts enough goes =
    let waiting = waiting_room bus (is_waiting table.power) in
    let room : room_of bus asked core ≡ restart_room bus core.live.erase = ap (λ (way : Way). room_by way bus (request_of asked) core) restarts in
    let done = restart-calm (record { bus = bus; floor = 0 }) (seen true spare) core table entries goes.end last waiting calm.open_ refl (record { on = refl; enough = omega (arith, enough, room) }) calm.quiet calm.run goes.restarts in
    record { end_is = done.end_is; at = done.at; takes = omega (arith, done.takes, room) }

-- a command that is tried
settled-try : (bus : BusKind) (core : Core) (table last : Table) (asked : Asked) (entries : List Entry) (said : Said) (spare : ℕ) → IsCalm bus core table asked entries last → way_of asked ≡ Try → 1500 + needs bus core table asked ≤ spare →
    Tries (record { bus = bus; floor = 0 }) (request_of asked) asked.want (seen true spare) entries said → IsCarried bus (request_of asked) core (needs bus core table asked) entries said last
settled-try bus core table last asked entries said spare calm tried enough tries =
    let waiting = waiting_room bus (is_waiting table.power) in
    let room : room_of bus asked core ≡ command_room bus (request_of asked) core = ap (λ (way : Way). room_by way bus (request_of asked) core) tried in
    let done = command-calm (record { bus = bus; floor = 0 }) (request_of asked) asked.want (seen true spare) core table entries said last waiting calm.open_ (as-command bus asked tried calm.proper) refl (record { on = refl; enough = omega (arith, enough, room) }) calm.quiet calm.run tries in
    record { after = done.after; status = done.status; body = done.body; is = done.is; said_is = done.said_is; at = done.at; takes = omega (arith, done.takes, room) }

-- a command in enough room is not short
long-by : (way : Way) (bus : BusKind) (core : Core) (table last : Table) (asked : Asked) (entries : List Entry) (said : Said) (spare : ℕ) → way_of asked ≡ way → IsCalm bus core table asked entries last → 1500 + needs bus core table asked ≤ spare →
    GoesBy way bus (seen true spare) asked entries said → ¬ (said ≡ SaidShort)
long-by Once bus core table last asked entries said spare is calm enough goes = λ short. once-long goes.ending (sym goes.said_is ∙ short)
long-by Restart bus core table last asked entries said spare is calm enough goes = λ short.
    let done = settled-restart bus core table last asked entries said spare calm is enough goes in
    let same : Answered 0 [] ≡ SaidShort = sym (goes.said_is ∙ ap said_restart done.end_is) ∙ short in
    cc
long-by Try bus core table last asked entries said spare is calm enough goes = λ short.
    let done = settled-try bus core table last asked entries said spare calm is enough goes in
    let same : Answered done.status done.body ≡ SaidShort = sym done.said_is ∙ short in
    cc

pub long-enough : (bus : BusKind) (core : Core) (table last : Table) (asked : Asked) (entries : List Entry) (said : Said) (spare : ℕ) (after : HostView) → IsCalm bus core table asked entries last → 1500 + needs bus core table asked ≤ spare →
    Hears bus (seen true spare) asked entries said after → ¬ (said ≡ SaidShort)
long-enough bus core table last asked entries said spare after calm enough hears = long-by (way_of asked) bus core table last asked entries said spare refl calm enough hears.goes

-- what a request that waits takes
waiting-few : (bus : BusKind) (waits : Bool) → waiting_room bus waits ≤ 2
waiting-few Lpc true = omega arith
waiting-few Lpc false = omega arith
waiting-few I2c waits = omega arith
waiting-few Spi waits = omega arith

-- a restart
blocks-few : (erase : Option EraseJob) → poll_waits erase ≤ 1024 → blocks_left erase ≤ 1024
blocks-few None few = omega arith
blocks-few (Some job) few = few

around-few : (bus : BusKind) → send_room bus 8 12 + cold_room bus ≤ 41
around-few Lpc = omega arith
around-few I2c = omega arith
around-few Spi = omega arith

restart-few : (bus : BusKind) (core : Core) → IsSound bus core → restart_room bus core.live.erase ≤ 27689
restart-few bus core sound = omega (arith, turns-few (blocks_left core.live.erase) (turn_room bus) (blocks-few core.live.erase (waits-few bus core sound).few) (turn-few bus), around-few bus)

-- any command of a line
room-few : (way : Way) (bus : BusKind) (core : Core) (asked : Asked) → IsSound bus core → length (packet_of asked) ≤ packet_limit bus → room_by way bus (request_of asked) core ≤ 175734
room-few Once bus core asked sound short = omega (arith, ask-few bus (request_of asked) core short (sound-valid bus core sound))
room-few Restart bus core asked sound short = omega (arith, restart-few bus core sound)
room-few Try bus core asked sound short = any-few bus (request_of asked) core short (sound-valid bus core sound)

-- a command that is tried, fits its bus, and neither begins an erase nor is a success while one is pending
pub record IsSteady (bus : BusKind) (asked : Asked) : Type 0 where
  pub tried : way_of asked ≡ Try
  pub proper : IsProper bus asked
  pub keeps : (core : Core) → IsCoreValid core → KeepsErase core (handled core (packet_limit bus) (packet_of asked))

-- a controller on which no request waits and no erase is pending, and so much room
record IsFree (bus : BusKind) (least : ℕ) (stand : Stand) : Type 0 where
  pub core : Core
  pub at : IsAt bus core stand.table
  pub none : core.live.erase ≡ None
  pub room : least ≤ stand.spare

-- a controller at which no request waits is on
at-on : (bus : BusKind) (core : Core) (table : Table) → IsAt bus core table → is_on table.power ≡ true
at-on bus core table at = ap (λ (t : Table). is_on t.power) at.leaves.same

-- a command, heard on a bus with the power on
as-heard : (bus : BusKind) (old new : Stand) (asked : Asked) (entries : List Entry) (said : Said) → old.table.kind ≡ bus → is_on old.table.power ≡ true → Follows old asked entries said new → Hears bus (seen true old.spare) asked entries said (host_of new)
as-heard bus old new asked entries said kind on follows =
    subst (λ (power : Bool). Hears bus (seen power old.spare) asked entries said (host_of new)) on
    (subst (λ (b : BusKind). Hears b (host_of old) asked entries said (host_of new)) kind follows.hears)

-- the room behind it
room-left : (old new : Stand) (asked : Asked) (entries : List Entry) (said : Said) → Follows old asked entries said new → new.spare ≡ old.spare - length (calls_of entries)
room-left old new asked entries said follows = ap (λ (view : HostView). view.spare) (follows.hears).after_is

-- entries that nothing disturbed
as-quiet : (old new : Stand) (asked : Asked) (entries : List Entry) (said : Said) → IsUndisturbed entries → Follows old asked entries said new → IsQuiet entries
as-quiet old new asked entries said calm follows = record { calm = calm; steps = (follows.hears).steps }

-- two parts that nothing disturbed
calm-both : (first rest : List Entry) → IsUndisturbed (first ++ rest) → IsUndisturbed first × IsUndisturbed rest
calm-both first rest calm = or-both (list_any is_upset first) (list_any is_upset rest) (sym (list_any-append is_upset first rest) ∙ calm) where
  or-both : (a b : Bool) → (a || b) ≡ false → (a ≡ false) × (b ≡ false)
  or-both false b none = (refl, none)
  or-both true b none = absurd (cc)

-- where no erase is pending, a success of a steady command takes little, and none is pending behind it
free-success : (bus : BusKind) (least : ℕ) (old new : Stand) (asked : Asked) (entries : List Entry) (body : List ℕ) → IsSteady bus asked → 3906 ≤ least → IsFree bus (1094 + least) old → IsUndisturbed entries → Follows old asked entries (Answered 0 body) new → IsFree bus least new
free-success bus least old new asked entries body steady large free calm follows =
    let at = free.at in
    let sound = at-sound bus free.core old.table at in
    let request = request_of asked in
    let idle = idle-command bus request asked.want free.core (as-command bus asked steady.tried steady.proper) sound free.none (steady.keeps free.core (sound-valid bus free.core sound)) in
    let waits = no-waiting bus (is_waiting old.table.power) (at-rest bus free.core old.table at) in
    let room : room_of bus asked free.core ≡ command_room bus request free.core = ap (λ (way : Way). room_by way bus request free.core) steady.tried in
    let hears = as-heard bus old new asked entries (Answered 0 body) at.kind_is (at-on bus free.core old.table at) follows in
    let tries = subst (λ (way : Way). GoesBy way bus (seen true old.spare) asked entries (Answered 0 body)) steady.tried hears.goes in
    let done = settled-try bus free.core old.table new.table asked entries (Answered 0 body) old.spare (record { open_ = at-open bus free.core old.table at; proper = steady.proper; quiet = as-quiet old new asked entries (Answered 0 body) calm follows; run = follows.run }) steady.tried
    (omega (arith, free.room, large, idle.few, waits, room)) tries in
    let success : done.status ≡ 0 = ap said_status (sym done.said_is) in
    let carries = done.is ∙ ap (λ (n : ℕ). OutcomeAnswered done.after n done.body) success in
    record {
      core = done.after;
      at = done.at;
      none = idle.stays done.after done.status done.body done.is;
      room = omega (arith, room-left old new asked entries (Answered 0 body) follows, free.room, done.takes, waits, room, idle.success done.after done.body carries);
    }

-- each of some commands is steady
abbrev AreSteady : BusKind → List Asked → Type 0
AreSteady bus [] = Unit {0}
AreSteady bus (asked ∷ more) = IsSteady bus asked × AreSteady bus more

-- the steady ones before a command, and itself
steady-split : (bus : BusKind) (before : List Asked) (asked : Asked) (after : List Asked) → AreSteady bus (before ++ asked ∷ after) → AreSteady bus before × IsSteady bus asked
steady-split bus [] asked after steady = (tt, steady.0)
steady-split bus (first ∷ before) asked after steady =
    let rest = steady-split bus before asked after steady.1 in
    ((steady.0, rest.0), rest.1)

-- the same controller in the same state
free-as : (bus : BusKind) (least : ℕ) (old new : Stand) → new ≡ old → IsFree bus least old → IsFree bus least new
free-as bus least old new same free = subst (λ (stand : Stand). IsFree bus least stand) (sym same) free

-- some steady commands, each of which was a success
free-all : (bus : BusKind) (commands : List Asked) (least : ℕ) (old new : Stand) (entries : List Entry) (bodies : List (List ℕ)) → AreSteady bus commands → 3906 ≤ least → IsFree bus (1094 * length commands + least) old → IsUndisturbed entries →
    AllSucceed Follows old commands entries bodies new → IsFree bus least new
free-all bus [] least old new entries bodies steady large free calm all =
    let kept : IsFree bus least old = record { core = free.core; at = free.at; none = free.none; room = omega (arith, free.room) } in
    free-as bus least old new all.2 kept
free-all bus (asked ∷ more) least old new entries bodies steady large free calm (first, rest, body, others, middle, entries_are, bodies_are, follows, succeeded) =
    let parts = calm-both first rest (subst (λ (e : List Entry). IsUndisturbed e) entries_are calm) in
    let start : IsFree bus (1094 + (1094 * length more + least)) old = record { core = free.core; at = free.at; none = free.none; room = omega (arith, free.room) } in
    let here = free-success bus (1094 * length more + least) old middle asked first body steady.0 (omega (arith, large)) start parts.0 follows in
    free-all bus more least middle new rest others steady.1 large here parts.1 succeeded

-- behind them a steady command has room enough
free-long : (bus : BusKind) (old new : Stand) (asked : Asked) (entries : List Entry) (said : Said) → IsSteady bus asked → IsFree bus 5000 old → IsUndisturbed entries → Follows old asked entries said new → ¬ (said ≡ SaidShort)
free-long bus old new asked entries said steady free calm follows =
    let at = free.at in
    let sound = at-sound bus free.core old.table at in
    let request = request_of asked in
    let idle = idle-command bus request asked.want free.core (as-command bus asked steady.tried steady.proper) sound free.none (steady.keeps free.core (sound-valid bus free.core sound)) in
    let waits = no-waiting bus (is_waiting old.table.power) (at-rest bus free.core old.table at) in
    let room : room_of bus asked free.core ≡ command_room bus request free.core = ap (λ (way : Way). room_by way bus request free.core) steady.tried in
    long-enough bus free.core old.table new.table asked entries said old.spare (host_of new)
    (record { open_ = at-open bus free.core old.table at; proper = steady.proper; quiet = as-quiet old new asked entries said calm follows; run = follows.run })
    (omega (arith, free.room, idle.few, waits, room)) (as-heard bus old new asked entries said at.kind_is (at-on bus free.core old.table at) follows)

-- a controller as a line finds it, with the room that is made for the line
pub record IsBegun (bus : BusKind) (stand : Stand) : Type 0 where
  pub valid : Valid stand.table
  pub kind_is : stand.table.kind ≡ bus
  pub room : 200000 ≤ stand.spare

-- the first command of a line has room enough, whatever it is
first-long : (power : Power) (bus : BusKind) (old new : Stand) (asked : Asked) (entries : List Entry) (said : Said) → old.table.power ≡ power → IsBegun bus old → IsProper bus asked → IsUndisturbed entries → Follows old asked entries said new → ¬ (said ≡ SaidShort)
first-long Off bus old new asked entries said off begun proper calm follows = λ short.
    let dark : is_on old.table.power ≡ false = ap is_on off in
    let none = answers-off (way_of asked) old.table new.table asked (host_of old) entries said dark follows.run (follows.hears).goes in
    let same : SaidNoPower ≡ SaidShort = sym none.said_is ∙ short in
    cc
first-long (On awake) bus old new asked entries said on begun proper calm follows =
    let has = awake-in (settled old.table).power (settled-on old.table awake on) in
    let core = core_of (settled old.table) has.awake in
    let open_ = subst (λ (b : BusKind). IsOpen b core old.table) begun.kind_is (opens old.table has begun.valid) in
    let few = room-few (way_of asked) bus core asked (open-sound bus core old.table open_) proper.short in
    long-enough bus core old.table new.table asked entries said old.spare (host_of new)
    (record { open_ = open_; proper = proper; quiet = as-quiet old new asked entries said calm follows; run = follows.run })
    (omega (arith, begun.room, few, waiting-few bus (is_waiting old.table.power)))
    (as-heard bus old new asked entries said begun.kind_is (ap is_on on) follows)

-- a command behind which no erase is pending, where it was a success: a restart, or a steady one
abbrev IsStart : BusKind → Asked → Type 0
IsStart bus asked = (way_of asked ≡ Restart) ⊎ IsSteady bus asked

-- what such a command leaves that was a success, on a controller that is on
start-on : (bus : BusKind) (old new : Stand) (asked : Asked) (entries : List Entry) (body : List ℕ) (core : Core) → IsStart bus asked → IsOpen bus core old.table → is_on old.table.power ≡ true → IsBegun bus old → IsProper bus asked → IsUndisturbed entries → Follows old asked entries (Answered 0 body) new → IsFree bus 100000 new
start-on bus old new asked entries body core (inl restarts) open_ on begun proper calm follows =
    let sound = open-sound bus core old.table open_ in
    let few = room-few (way_of asked) bus core asked sound proper.short in
    let room : room_of bus asked core ≡ restart_room bus core.live.erase = ap (λ (way : Way). room_by way bus (request_of asked) core) restarts in
    let waits = waiting-few bus (is_waiting old.table.power) in
    let hears = as-heard bus old new asked entries (Answered 0 body) begun.kind_is on follows in
    let goes = subst (λ (way : Way). GoesBy way bus (seen true old.spare) asked entries (Answered 0 body)) restarts hears.goes in
    let done = settled-restart bus core old.table new.table asked entries (Answered 0 body) old.spare (record { open_ = open_; proper = proper; quiet = as-quiet old new asked entries (Answered 0 body) calm follows; run = follows.run }) restarts (omega (arith, begun.room, few, waits)) goes in
    record {
      core = restarted core;
      at = done.at;
      none = refl;
      room = omega (arith, room-left old new asked entries (Answered 0 body) follows, begun.room, done.takes, room, restart-few bus core sound, waits);
    }
start-on bus old new asked entries body core (inr steady) open_ on begun proper calm follows =
    let sound = open-sound bus core old.table open_ in
    let request = request_of asked in
    let few = room-few (way_of asked) bus core asked sound proper.short in
    let room : room_of bus asked core ≡ command_room bus request core = ap (λ (way : Way). room_by way bus request core) steady.tried in
    let waits = waiting-few bus (is_waiting old.table.power) in
    let hears = as-heard bus old new asked entries (Answered 0 body) begun.kind_is on follows in
    let tries = subst (λ (way : Way). GoesBy way bus (seen true old.spare) asked entries (Answered 0 body)) steady.tried hears.goes in
    let done = settled-try bus core old.table new.table asked entries (Answered 0 body) old.spare (record { open_ = open_; proper = proper; quiet = as-quiet old new asked entries (Answered 0 body) calm follows; run = follows.run }) steady.tried (omega (arith, begun.room, few, waits)) tries in
    let success : done.status ≡ 0 = ap said_status (sym done.said_is) in
    let carries = done.is ∙ ap (λ (n : ℕ). OutcomeAnswered done.after n done.body) success in
    let little = success-few bus request core done.after done.body proper.short (sound-valid bus core sound) carries in
    record {
      core = done.after;
      at = done.at;
      none = success-idle bus request asked.want core done.after done.body (as-command bus asked steady.tried steady.proper) sound steady.keeps carries;
      room = omega (arith, room-left old new asked entries (Answered 0 body) follows, begun.room, done.takes, room, little, waits);
    }

-- the same, whether it is on or off: no success comes of one that is off
start-by : (power : Power) (bus : BusKind) (old new : Stand) (asked : Asked) (entries : List Entry) (body : List ℕ) → old.table.power ≡ power → IsStart bus asked → IsBegun bus old → IsProper bus asked → IsUndisturbed entries → Follows old asked entries (Answered 0 body) new → IsFree bus 100000 new
start-by Off bus old new asked entries body off start begun proper calm follows =
    let dark : is_on old.table.power ≡ false = ap is_on off in
    let none = answers-off (way_of asked) old.table new.table asked (host_of old) entries (Answered 0 body) dark follows.run (follows.hears).goes in
    let same = none.said_is in
    absurd (cc)
start-by (On awake) bus old new asked entries body on start begun proper calm follows =
    let has = awake-in (settled old.table).power (settled-on old.table awake on) in
    let core = core_of (settled old.table) has.awake in
    let open_ = subst (λ (b : BusKind). IsOpen b core old.table) begun.kind_is (opens old.table has begun.valid) in
    start-on bus old new asked entries body core start open_ (ap is_on on) begun proper calm follows

-- the commands of a line: one, or one that leaves no erase pending and steady ones behind it
abbrev IsLine : BusKind → List Asked → Type 0
IsLine bus [] = Unit {0}
IsLine bus (asked ∷ more) = IsProper bus asked × ((more ≡ []) ⊎ (IsStart bus asked × AreSteady bus more))

-- no list is a longer one
not-empty : (before after : List Asked) (asked : Asked) → ¬ (before ++ asked ∷ after ≡ [])
not-empty [] after asked = λ same. cc
not-empty (first ∷ before) after asked = λ same. cc

-- such commands have room enough, each of them
line-by : (bus : BusKind) (before after : List Asked) (asked : Asked) (old middle new : Stand) (first last : List Entry) (bodies : List (List ℕ)) (said : Said) → IsLine bus (before ++ asked ∷ after) → length before ≤ 38 → IsBegun bus old → IsUndisturbed first → IsUndisturbed last →
    AllSucceed Follows old before first bodies middle → Follows middle asked last said new → ¬ (said ≡ SaidShort)
line-by bus [] after asked old middle new first last bodies said line few begun calm quiet all follows =
    let here : Follows old asked last said new = subst (λ (stand : Stand). Follows stand asked last said new) all.2 follows in
    first-long old.table.power bus old new asked last said refl begun line.0 quiet here
line-by bus (start ∷ before) after asked old middle new first last bodies said (proper, inl one) few begun calm quiet all follows = absurd (not-empty before after asked one)
line-by bus (start ∷ before) after asked old middle new first last bodies said (proper, inr (is, steady)) few begun calm quiet (own, rest, body, others, between, entries_are, bodies_are, goes, succeeded) follows =
    let parts = calm-both own rest (subst (λ (e : List Entry). IsUndisturbed e) entries_are calm) in
    let each = steady-split bus before asked after steady in
    let free = start-by old.table.power bus old between start own body refl is begun proper parts.0 goes in
    let room : IsFree bus (1094 * length before + 5000) between = record { core = free.core; at = free.at; none = free.none; room = omega (arith, free.room, few) } in
    free-long bus middle new asked last said each.1 (free-all bus before 5000 between middle rest others each.0 (omega arith) room parts.1 succeeded) quiet follows

-- steady commands are such a line
steady-line : (bus : BusKind) (commands : List Asked) → AreSteady bus commands → IsLine bus commands
steady-line bus [] steady = tt
steady-line bus (asked ∷ more) steady = ((steady.0).proper, inr (inr steady.0, steady.1))

-- steady commands behind others
steady-more : (bus : BusKind) (commands : List Asked) (asked : Asked) → AreSteady bus commands → IsSteady bus asked → AreSteady bus (commands ++ asked ∷ [])
steady-more bus [] asked steady here = (here, tt)
steady-more bus (first ∷ commands) asked steady here = (steady.0, steady-more bus commands asked steady.1 here)

steady-first : (bus : BusKind) (f : ℕ → Asked) (count : ℕ) → ((k : ℕ) → IsSteady bus (f k)) → AreSteady bus (first_of count f)
steady-first bus f zero each = tt
steady-first bus f (suc count) each = steady-more bus (first_of count f) (f count) (steady-first bus f count each) (each count)

-- the parts of a read and of a write, and SYSINFO
read-steady : (bus : BusKind) (at size : ℕ) → IsInRange (FlashRead at size) → (k : ℕ) → IsSteady bus (command_of (packet_limit bus) (FlashRead at size) k)
read-steady bus at size within k =
    let limit = packet_limit bus in
    record {
      tried = refl;
      proper = command-proper bus (FlashRead at size) within k;
      keeps = λ core valid. read-keeps limit core ((at + k * (limit - 8)) % 2 ^ 32) (min (limit - 8) (size - k * (limit - 8)));
    }

write-steady : (bus : BusKind) (at : ℕ) (bytes : List ℕ) → IsInRange (FlashWrite at bytes) → (k : ℕ) → IsSteady bus (command_of (packet_limit bus) (FlashWrite at bytes) k)
write-steady bus at bytes within k =
    let limit = packet_limit bus in
    record {
      tried = refl;
      proper = command-proper bus (FlashWrite at bytes) within k;
      keeps = λ core valid. write-keeps limit core (command_of limit (FlashWrite at bytes) k).body (omega (arith, command-short limit (FlashWrite at bytes) k (limit-least bus) within, limit-most bus));
    }

sysinfo-steady : (bus : BusKind) → IsSteady bus (command_of (packet_limit bus) RebootCold 1)
sysinfo-steady bus =
    record { tried = refl; proper = command-proper bus RebootCold tt 1; keeps = λ core valid. sysinfo-keeps (packet_limit bus) core }

-- the commands of each line are such ones
tool-line : (bus : BusKind) (tool : Tool) → IsInRange tool → IsLine bus (commands_of (packet_limit bus) tool)
tool-line bus Hello within = (command-proper bus Hello within 0, inl refl)
tool-line bus Version within = (command-proper bus Version within 0, inl refl)
tool-line bus ChipInfo within = (command-proper bus ChipInfo within 0, inl refl)
tool-line bus (CmdVersions number) within = (command-proper bus (CmdVersions number) within 0, inl refl)
tool-line bus ProtoInfo within = (command-proper bus ProtoInfo within 0, inl refl)
tool-line bus FlashInfo within = (command-proper bus FlashInfo within 0, inl refl)
tool-line bus (RegionInfo region) within = (command-proper bus (RegionInfo region) within 0, inl refl)
tool-line bus (FlashRead at size) within =
    steady-line bus (commands_of (packet_limit bus) (FlashRead at size)) (steady-first bus (command_of (packet_limit bus) (FlashRead at size)) (count_of (packet_limit bus) (FlashRead at size)) (read-steady bus at size within))
tool-line bus (FlashWrite at bytes) within =
    steady-line bus (commands_of (packet_limit bus) (FlashWrite at bytes)) (steady-first bus (command_of (packet_limit bus) (FlashWrite at bytes)) (count_of (packet_limit bus) (FlashWrite at bytes)) (write-steady bus at bytes within))
tool-line bus (FlashErase at size) within = (command-proper bus (FlashErase at size) within 0, inl refl)
tool-line bus (FlashProtect mask flags) within = (command-proper bus (FlashProtect mask flags) within 0, inl refl)
tool-line bus Hash within = (command-proper bus Hash within 0, inl refl)
tool-line bus HashAbort within = (command-proper bus HashAbort within 0, inl refl)
tool-line bus (HashStart image nonce) within = (command-proper bus (HashStart image nonce) within 0, inl refl)
tool-line bus (HashRange at size) within = (command-proper bus (HashRange at size) within 0, inl refl)
tool-line bus Sysinfo within = (command-proper bus Sysinfo within 0, inl refl)
tool-line bus (Reboot cmd) within = (command-proper bus (Reboot cmd) within 0, inl refl)
tool-line bus RebootCold within = (command-proper bus RebootCold within 0, inr (inl refl, (sysinfo-steady bus, tt)))
tool-line bus (Test ec_result ret_len bytes) within = (command-proper bus (Test ec_result ret_len bytes) within 0, inl refl)
tool-line bus Resend within = (command-proper bus Resend within 0, inl refl)

-- how many commands a line has
first-length : (f : ℕ → Asked) (count : ℕ) → length (first_of count f) ≡ count
first-length f zero = refl
first-length f (suc count) = omega (arith, length-append (first_of count f) (f count ∷ []), first-length f count)

-- a line that nothing disturbs does not end for want of room
pub line-long : (bus : BusKind) (tool : Tool) (old new : Stand) (entries : List Entry) (said : Said) → IsInRange tool → IsBegun bus old → IsUndisturbed entries → StopsAt Follows old (commands_of (packet_limit bus) tool) entries said new → ¬ (said ≡ SaidShort)
line-long bus tool old new entries said within begun calm stops =
    let limit = packet_limit bus in
    let parts = calm-both stops.first stops.last (subst (λ (e : List Entry). IsUndisturbed e) stops.entries_are calm) in
    let line = subst (λ (commands : List Asked). IsLine bus commands) stops.commands_are (tool-line bus tool within) in
    let all : length (commands_of limit tool) ≡ length stops.before + suc (length stops.after) = ap (λ (commands : List Asked). length commands) stops.commands_are ∙ length-append stops.before (stops.asked ∷ stops.after) in
    let few : length stops.before ≤ 38 = omega (arith, all, first-length (command_of limit tool) (count_of limit tool), count-few limit tool (limit-least bus) within) in
    line-by bus stops.before stops.after stops.asked old stops.middle new stops.first stops.last stops.bodies said line few begun parts.0 parts.1 stops.succeeded stops.asks_last

-- one that does was upset
pub line-upset : (tool : Tool) (old new : Stand) (entries : List Entry) → IsInRange tool → Valid old.table → 200000 ≤ old.spare → StopsAt Follows old (commands_of (packet_limit old.table.kind) tool) entries SaidShort new → list_any is_upset entries ≡ true
line-upset tool old new entries within valid room stops = not-off (list_any is_upset entries) (λ calm.
    line-long old.table.kind tool old new entries SaidShort within (record { valid = valid; kind_is = refl; room = room }) calm stops refl)
