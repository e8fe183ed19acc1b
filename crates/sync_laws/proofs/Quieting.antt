-- The bus of a controller that is on is brought to rest, whatever it was doing.
use Rattle.std.proofs.Common.{◌≡◌, refl, sym, ap, ◌∙◌, subst, ℕ, zero, suc, ◌*◌, ◌≤◌, Bool, true, false, if◌then◌else◌, List, [], ◌∷◌, length, Option, Some, None, Ok, arith}
use Rattle.ec_types.specs.declared.bus.BusKind.{BusKind}
use Rattle.ec_types.specs.declared.bus.BusKind.TheVariants.{Lpc, I2c, Spi}
use Rattle.ec_model.specs.declared.event.Access.{Access}
use Rattle.ec_model.specs.Asks.{Setting}
use Rattle.ec_model.specs.Bus.{is_busy}
use Rattle.ec_model.specs.Heard.{poll_end, waited_reads, spaced_reads}
use Rattle.ec_model.specs.HostCalls.{HostCall, calls_of}
use Rattle.ec_model.proofs.RunLaws.{run-valid, run-kind}
use Rattle.exchange_laws.specs.Calm.{CallsLead}
use Rattle.exchange_laws.proofs.CalmRun.{calm_lead}
use Rattle.ec_model.specs.Send.{QuietBy}
use Rattle.ec_model.specs.SendLpc.{status_in}
use Rattle.ec_model.specs.Syncable.{settled, settled_by}
use Rattle.ec_model.specs.Table.{Table, Power, Off, On, Awake, Core, Valid, core_of}
use Rattle.exchange_laws.specs.Served.{Settles, LeavesCore}
use Rattle.exchange_laws.proofs.LpcSend.{lpc-quiet}
use Rattle.exchange_laws.proofs.I2cSend.{i2c-quiet}
use Rattle.exchange_laws.proofs.SpiSend.{spi-quiet}
use Rattle.command_laws.specs.Standing.{IsOpen}
use Rattle.command_laws.proofs.Opening.{HasAwake}
use Rattle.sync_rules.specs.Parts.{Quiets, Rests}
use Rattle.sync_laws.specs.Calm.{Opens}
use Rattle.sync_laws.proofs.Calmly.{room-reaches}

-- a poll that ended saw no more than it may
by-busy : (busy ready : Bool) (more : Option Bool) → (if busy then more else None) ≡ Some ready → more ≡ Some ready
by-busy true ready more is = is
by-busy false ready more is = absurd (cc)

poll-few : (busy : ℕ → Bool) (reads : ℕ) (statuses : List ℕ) (ready : Bool) → poll_end busy reads statuses ≡ Some ready → length statuses ≤ reads
poll-few busy zero [] ready is = omega arith
poll-few busy zero (byte ∷ bytes) ready is = absurd (cc)
poll-few busy (suc reads) [] ready is = absurd (cc)
poll-few busy (suc reads) (byte ∷ []) ready is = omega arith
poll-few busy (suc reads) (byte ∷ next ∷ bytes) ready is =
    let rest = poll-few busy reads (next ∷ bytes) ready (by-busy (busy byte) ready (poll_end busy reads (next ∷ bytes)) is) in
    omega (arith, rest)

-- reads with a wait before each
waited-length : (access : Access) (bytes : List ℕ) → length (waited_reads access bytes) ≡ 2 * length bytes
waited-length access [] = refl
waited-length access (byte ∷ bytes) = omega (arith, waited-length access bytes)

spaced-few : (access : Access) (bytes : List ℕ) → length bytes ≤ 5 → length (spaced_reads access bytes) ≤ 9
spaced-few access [] few = omega arith
spaced-few access (byte ∷ bytes) few = omega (arith, waited-length access bytes, few)

-- the calls that bring a bus to rest
few-calls : (kind : BusKind) (calls : List HostCall) → QuietBy kind calls → length calls ≤ 9
few-calls Lpc calls quiet = subst (λ (xs : List HostCall). length xs ≤ 9) (sym quiet.made) (spaced-few status_in quiet.statuses (poll-few is_busy 5 quiet.statuses quiet.ready quiet.polled))
few-calls I2c calls quiet = subst (λ (xs : List HostCall). length xs ≤ 9) (sym quiet.made) (omega arith)
few-calls Spi calls quiet = subst (λ (xs : List HostCall). length xs ≤ 9) (sym quiet.made) (omega arith)

-- whatever the bus
settles-any : (kind : BusKind) (table : Table) (awake : Awake) (calls : List HostCall) (new : Table) → Valid table → table.power ≡ On awake → table.kind ≡ kind → QuietBy kind calls → CallsLead table calls new → Settles (settled table) new
settles-any Lpc table awake calls new valid on kind quiet lead = lpc-quiet table awake calls new valid on kind quiet lead
settles-any I2c table awake calls new valid on kind quiet lead = i2c-quiet table awake calls new valid on kind quiet lead
settles-any Spi table awake calls new valid on kind quiet lead = spi-quiet table awake calls new valid on kind quiet lead

-- a controller that is on once its request was served was on before
power-in : (table : Table) (awake : Awake) (power : Power) → table.power ≡ power → (settled_by table power).power ≡ On awake → HasAwake power
power-in table awake Off same on = absurd (let never : Off ≡ On awake = sym same ∙ on in cc)
power-in table awake (On other) same on = record { awake = other; on = refl }

-- its bus is brought to rest
same-core : (awake other : Awake) (table : Table) → On awake ≡ On other → core_of table awake ≡ core_of table other
same-core awake other table same = let is : awake ≡ other = cc in ap (λ (a : Awake). core_of table a) is

quiet-opens : (setting : Setting) (core : Core) → Opens setting (Quiets setting) core (Ok tt) core 9
quiet-opens setting core view table entries told last from has quiet run (rests, told_is) =
    let power = power-in table from.awake table.power refl from.on in
    let lead = calm_lead table entries last quiet.calm run in
    let settles = settles-any setting.bus table power.awake (calls_of entries) last from.valid power.on from.kind_is rests.1 lead in
    let core_is = same-core settles.awake from.awake (settled table) (sym settles.on ∙ from.on) ∙ from.core_is in
    record {
      told_is = told_is;
      at = record {
        valid = run-valid table entries last from.valid run;
        kind_is = run-kind table entries last from.valid run ∙ from.kind_is;
        leaves = subst (λ (c : Core). LeavesCore c last) core_is settles.leaves;
      };
      takes = few-calls setting.bus (calls_of entries) rests.1;
    }

pub rests-open : (setting : Setting) (core : Core) → Opens setting (Rests setting) core (Ok tt) core 9
rests-open setting core = room-reaches (IsOpen setting.bus core) setting (Quiets setting) (Ok tt) core 9 (quiet-opens setting core)
