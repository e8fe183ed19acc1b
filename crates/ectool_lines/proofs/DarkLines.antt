-- A line that is said to have no power ends with the controller off.
use Rattle.std.proofs.Common.{◌≡◌, refl, sym, ap, ◌∙◌, ℕ, Bool, true, false, not, ◌&&◌, ◌==◌, if◌then◌else◌, List, length}
use Rattle.ec_types.specs.declared.bus.BusKind.{BusKind}
use Rattle.ec_model.specs.declared.event.Entry.{Entry}
use Rattle.ec_model.specs.Heard.{Heard, Reply, Bad as HeardBad, Silent as HeardSilent}
use Rattle.ec_model.specs.HostCalls.{HostView, on_after}
use Rattle.ec_model.specs.Packet.{response_view}
use Rattle.ec_model.specs.Tries.{SaidNoPower}
use Rattle.command_laws.specs.Restarting.{RestartEnd, Sent, NoPower as RestartNoPower, Upset as RestartUpset, Short as RestartShort}
use Rattle.command_laws.proofs.PowerLost.{tries-dark, restarts-dark}
use Rattle.host_transport.specs.Once.{Ending, Said as Told, Bad, Silent, NoPower, ended, heard_as, AskedOnce}
use Rattle.ectool_lines.specs.Requests.{Asked, Way, Once, Restart, Try, way_of, request_of, packet_of}
use Rattle.ectool_lines.specs.Asking.{StopsAt, said_once, said_restart, GoesBy, Hears}

-- the ending of which this is said
once-power : (ending : Ending) → said_once ending ≡ SaidNoPower → ending ≡ NoPower
once-power (Told status body) same = absurd (cc)
once-power Bad same = absurd (cc)
once-power Silent same = absurd (cc)
once-power NoPower same = refl

restart-power : (end : RestartEnd) → said_restart end ≡ SaidNoPower → end ≡ RestartNoPower
restart-power Sent same = absurd (cc)
restart-power RestartNoPower same = refl
restart-power RestartUpset same = absurd (cc)
restart-power RestartShort same = absurd (cc)

-- what was heard is never that there is no power
told-power : (success wrong : Bool) (status : ℕ) (body : List ℕ) → ¬ ((if success && wrong then Bad else Told status body) ≡ NoPower)
told-power true true status body = λ same. cc
told-power true false status body = λ same. cc
told-power false wrong status body = λ same. cc

heard-power : (want : ℕ) (heard : Heard) → ¬ (heard_as want heard ≡ NoPower)
heard-power want (Reply bytes) = let view = response_view bytes in told-power (view.status == 0) (not (length view.body == want)) view.status view.body
heard-power want HeardBad = λ same. cc
heard-power want HeardSilent = λ same. cc

-- a request that was sent once
ended-power : (on : Bool) (ending : Ending) → ¬ (ending ≡ NoPower) → ended on ending ≡ NoPower → on ≡ false
ended-power false ending heard same = refl
ended-power true ending heard same = absurd (heard same)

once-by : (on : Bool) (bus : BusKind) (asked : Asked) (entries : List Entry) (ending : Ending) → ending ≡ NoPower → AskedOnce on bus (packet_of asked) asked.want entries ending → on_after entries on ≡ false
once-by true bus asked entries ending is sent = ended-power (on_after entries true) (heard_as asked.want sent.heard) (heard-power asked.want sent.heard) (sym sent.ending_is ∙ is)
once-by false bus asked entries ending is unsent = ap (λ (e : List Entry). on_after e false) unsent.none

-- a command by the way that it goes
goes-dark : (way : Way) (bus : BusKind) (view : HostView) (asked : Asked) (entries : List Entry) → GoesBy way bus view asked entries SaidNoPower → on_after entries view.on ≡ false
goes-dark Once bus view asked entries goes = once-by view.on bus asked entries goes.ending (once-power goes.ending (sym goes.said_is)) goes.once
goes-dark Restart bus view asked entries goes = restarts-dark (record { bus = bus; floor = 0 }) view entries goes.end (restart-power goes.end (sym goes.said_is)) goes.restarts
goes-dark Try bus view asked entries goes = tries-dark (record { bus = bus; floor = 0 }) (request_of asked) asked.want view entries SaidNoPower refl goes

-- the last command of the line
pub line-dark : (bus : BusKind) (view after : HostView) (commands : List Asked) (entries : List Entry) → StopsAt (Hears bus) view commands entries SaidNoPower after → after.on ≡ false
line-dark bus view after commands entries stops =
    let heard = stops.asks_last in
    ap (λ (v : HostView). v.on) heard.after_is ∙ goes-dark (way_of stops.asked) bus stops.middle stops.asked stops.last heard.goes
