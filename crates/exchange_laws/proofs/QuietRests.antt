-- An undisturbed quiet brings every bus to rest.
use Rattle.std.proofs.Common.{◌≡◌, refl, sym, ap, ◌∙◌, subst, true, false, not, List, [], append-nil}
use Rattle.std.specs.Prelude.{is_some}
use Rattle.ec_types.specs.declared.bus.BusKind.{BusKind}
use Rattle.ec_types.specs.declared.bus.BusKind.TheVariants.{Lpc, I2c, Spi}
use Rattle.ec_model.specs.declared.event.Access.{Access}
use Rattle.ec_model.specs.declared.event.Access.TheVariants.{I2cStop, SpiDeselect}
use Rattle.ec_model.specs.declared.event.Event.TheVariants.{Access as AccessEvent}
use Rattle.ec_model.specs.declared.event.Entry.{Entry}
use Rattle.ec_model.specs.Bus.{BusState, OnLpc, OnI2c, OnSpi, Deselected, Receiving, Bad, Waiting, Replied, kind_of, is_busy, is_at_rest, due_now, due_at_tick, bus_step}
use Rattle.ec_model.specs.HostCalls.{HostCall, calls_of}
use Rattle.ec_model.specs.Heard.{spaced_reads}
use Rattle.ec_model.specs.SendLpc.{status_in}
use Rattle.ec_model.specs.Send.{LpcQuiet, OneAccess, QuietBy, Quiet}
use Rattle.ec_model.specs.Table.{Table, Awake, Power, Off, On, Valid, core_of}
use Rattle.ec_model.specs.Work.{Rest, bus_after, serve_or}
use Rattle.ec_model.specs.WholeStep.{stepped, stepped_by, worked}
use Rattle.ec_model.specs.Run.{IsRun}
use Rattle.ec_model.specs.Upset.{IsUndisturbed}
use Rattle.exchange_laws.specs.Calm.{CallsLead}
use Rattle.exchange_laws.specs.Resting.{is_waiting}
use Rattle.exchange_laws.specs.Transaction.{is_resting}
use Rattle.exchange_laws.proofs.CalmRun.{calm_lead}
use Rattle.exchange_laws.proofs.Settled.{bus-facts}
use Rattle.exchange_laws.proofs.LpcSend.{idled-at, idle-is-not-six}
use Rattle.exchange_laws.proofs.OffLead.{off-same}
use Rattle.exchange_laws.proofs.Transacted.{not-true}

-- LPC: a poll ends with a bus that is not busy
poll-rests : (table : Table) (awake : Awake) (calls : List HostCall) (new : Table) → Valid table → table.power ≡ On awake → table.kind ≡ Lpc → LpcQuiet calls → CallsLead table calls new → is_resting new.power ≡ true
poll-rests table awake calls new valid on kind quiet lead =
    let at = idled-at table awake quiet.statuses quiet.ready calls [] new valid on kind quiet.polled (quiet.made ∙ sym (append-nil (spaced_reads status_in quiet.statuses))) lead in
    ap (λ (t : Table). is_resting t.power) at.lead ∙ ap not at.idle

-- I2C: a stop
stop-rests : (table : Table) (awake : Awake) (bus : BusState) → kind_of bus ≡ I2c → is_resting (worked (core_of table awake) (bus_after bus (AccessEvent I2cStop)) 0xFF (serve_or (due_now (bus_step bus I2cStop).state) Rest)).table.power ≡ true
stop-rests table awake (OnLpc state) kind = absurd (cc)
stop-rests table awake (OnI2c state) kind = refl
stop-rests table awake (OnSpi state) kind = absurd (cc)

-- SPI: a deselect
deselect-rests : (table : Table) (awake : Awake) (bus : BusState) → kind_of bus ≡ Spi → is_resting (worked (core_of table awake) (bus_after bus (AccessEvent SpiDeselect)) 0xFF (serve_or (due_now (bus_step bus SpiDeselect).state) Rest)).table.power ≡ true
deselect-rests table awake (OnLpc state) kind = absurd (cc)
deselect-rests table awake (OnI2c state) kind = absurd (cc)
deselect-rests table awake (OnSpi state) kind = refl

-- one access leads to the table behind it
one-lead : (table : Table) (access : Access) (calls : List HostCall) (new : Table) → OneAccess access calls → CallsLead table calls new → new ≡ (stepped table (AccessEvent access)).table
one-lead table access calls new one lead = (subst (λ (made : List HostCall). CallsLead table made new) one.made lead).1

-- where the controller is on
on-rests : (kind : BusKind) (table : Table) (awake : Awake) (calls : List HostCall) (new : Table) → Valid table → table.power ≡ On awake → table.kind ≡ kind → QuietBy kind calls → CallsLead table calls new → is_resting new.power ≡ true
on-rests Lpc table awake calls new valid on kind quiet lead = poll-rests table awake calls new valid on kind quiet lead
on-rests I2c table awake calls new valid on kind quiet lead =
    ap (λ (t : Table). is_resting t.power) (one-lead table I2cStop calls new quiet lead) ∙ ap (λ (power : Power). is_resting (stepped_by table (AccessEvent I2cStop) power).table.power) on
    ∙ stop-rests table awake awake.bus ((bus-facts table awake valid on).kind ∙ kind)
on-rests Spi table awake calls new valid on kind quiet lead =
    ap (λ (t : Table). is_resting t.power) (one-lead table SpiDeselect calls new quiet lead) ∙ ap (λ (power : Power). is_resting (stepped_by table (AccessEvent SpiDeselect) power).table.power) on
    ∙ deselect-rests table awake awake.bus ((bus-facts table awake valid on).kind ∙ kind)

-- the same by the table's power
rests-by : (kind : BusKind) (table : Table) (power : Power) (calls : List HostCall) (new : Table) → table.power ≡ power → Valid table → table.kind ≡ kind → QuietBy kind calls → CallsLead table calls new → is_resting new.power ≡ true
rests-by kind table Off calls new off valid same quiet lead = ap (λ (t : Table). is_resting t.power) (off-same table calls new off lead) ∙ ap is_resting off
rests-by kind table (On awake) calls new on valid same quiet lead = on-rests kind table awake calls new valid on same quiet lead

-- an undisturbed quiet brings the bus to rest
pub quiet-rests : (kind : BusKind) (old : Table) (entries : List Entry) (new : Table) → Valid old → old.kind ≡ kind → Quiet kind entries → IsRun old entries new → IsUndisturbed entries → is_resting new.power ≡ true
quiet-rests kind old entries new valid same quiet run calm = rests-by kind old old.power (calls_of entries) new refl valid same quiet.1 (calm_lead old entries new calm run)

-- no request waits on a bus that is at rest
none-by : (power : Power) → is_resting power ≡ true → is_waiting power ≡ false
none-by Off rest = refl
none-by (On awake) rest = bus-by awake.bus rest
  where
    bus-by : (bus : BusState) → is_at_rest bus ≡ true → is_some (due_at_tick bus) ≡ false
    bus-by (OnLpc state) rest = let other = idle-is-not-six state.status (not-true (is_busy state.status) rest) in rw other refl
    bus-by (OnI2c state) rest = refl
    bus-by (OnSpi Deselected) rest = refl
    bus-by (OnSpi (Receiving bytes)) rest = cc
    bus-by (OnSpi Bad) rest = cc
    bus-by (OnSpi (Waiting request)) rest = cc
    bus-by (OnSpi (Replied left)) rest = cc

-- the same by a table
pub none-waits-at-rest : (table : Table) → is_resting table.power ≡ true → is_waiting table.power ≡ false
none-waits-at-rest table rest = none-by table.power rest
