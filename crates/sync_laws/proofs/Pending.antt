-- The first question of a sync, behind an erase that may be pending.
use Rattle.std.proofs.Common.{◌≡◌, refl, sym, ap, ◌∙◌, subst, ℕ, zero, suc, ◌+◌, ◌*◌, ◌≤◌, if◌then◌else◌, [], ◌∷◌, length, map, Option, Some, None, Result, Ok, arith}
use Rattle.std.specs.Prelude.{is_some}
use Rattle.ec_types.specs.Tables.{packet_limit}
use Rattle.ec_types.specs.declared.bus.BusKind.{BusKind}
use Rattle.ec_types.specs.declared.bus.BusKind.TheVariants.{Lpc, I2c, Spi}
use Rattle.ec_model.specs.declared.live.EraseJob.{EraseJob}
use Rattle.ec_model.specs.Answer.{Answered, refused}
use Rattle.ec_model.specs.Asks.{Setting, packet_of}
use Rattle.ec_model.specs.Bodies.{proto_info_say}
use Rattle.ec_model.specs.Handle.{handled}
use Rattle.ec_model.specs.InfoRows.{proto_info_row}
use Rattle.ec_model.specs.Rounds.{protocol_request}
use Rattle.ec_model.specs.Table.{Core, IsErasable, table_of}
use Rattle.ec_model.specs.Tries.{resend_request}
use Rattle.ec_model.specs.declared.event.Event.TheVariants.{Tick}
use Rattle.ec_model.specs.Bus.{OnI2c, Idle}
use Rattle.ec_model.specs.HostCalls.{Waited}
use Rattle.ec_model.specs.WholeStep.{stepped}
use Rattle.ec_model.proofs.ValidRows.{IsCoreValid}
use Rattle.ec_model.proofs.ValidStep.{valid_table}
use Rattle.ec_wire.specs.Quiet.{quiet_entry}
use Rattle.exchange_laws.proofs.QuietEntries.{quiet-run}
use Rattle.command_laws.specs.Standing.{IsAt}
use Rattle.command_laws.proofs.Waiting.{waits-calm}
use Rattle.command_laws.specs.Carried.{led_on, handled_idle, past_erase, carried}
use Rattle.command_laws.specs.Idle.{after_ticks, poll_waits, ticked, idled}
use Rattle.command_laws.specs.Restarting.{blocks_left, erased}
use Rattle.command_laws.specs.Room.{turn_room, poll_room, ask_room, led_room, idle_room, try_room, command_room}
use Rattle.command_laws.proofs.Answering.{IsSound, sound-valid, at-sound}
use Rattle.command_laws.proofs.Ticks.{idled-erase}
use Rattle.sync_rules.specs.declared.ending.Stop.{Stop}
use Rattle.sync_rules.specs.Parts.{on_success}
use Rattle.sync_rules.specs.Replies.{limits_told}
use Rattle.sync_rules.specs.Steps.{AsksLimits}
use Rattle.sync_laws.specs.Calm.{Reaches}
use Rattle.sync_laws.specs.Kept.{pending_room}
use Rattle.sync_laws.proofs.Calmly.{commands-reach}
use Rattle.sync_laws.proofs.KeptSteps.{limits-quick}
use Rattle.sync_laws.proofs.Looked.{more-reaches}
use Rattle.sync_laws.proofs.Proper.{limits-proper}
use Rattle.sync_laws.proofs.Rows.{limits-row}
use Rattle.sync_laws.proofs.Sealing.{any-room}
use Rattle.sync_laws.proofs.Surveying.{is-free, limits-are}

-- a turn of a poll is 27 calls at most
pub turns-few : (bus : BusKind) (left : ℕ) → left * turn_room bus ≤ left * 27
turns-few Lpc left = omega arith
turns-few I2c left = omega arith
turns-few Spi left = omega arith

-- the limits, behind a pending erase
limits-pending : (setting : Setting) (core : Core) (job : EraseJob) → core.live.erase ≡ Some job → 1 ≤ job.left → Reaches setting (AsksLimits setting) core (Ok tt) (idled core) (34 + (job.left * 27 + 22))
limits-pending setting core job pending some =
    let bus = setting.bus in
    let limit = packet_limit bus in
    let body = proto_info_say 8 limit limit 1 in
    let first : handled core limit (packet_of protocol_request) ≡ Answered core 16 [] =
    limits-row core limit ∙ ap (λ (erase : Option EraseJob). if is_some erase then refused core 16 else proto_info_row core limit) pending in
    let idle : handled_idle limit protocol_request core ≡ Answered (idled core) 0 body =
    limits-row (idled core) limit ∙ is-free (idled core) (Answered (idled core) 0 body) (idled-erase core job pending some).0 in
    let past : past_erase limit protocol_request core ≡ Answered (idled core) 0 body = ap (led_on 16 (handled_idle limit protocol_request)) first ∙ idle in
    let whole : carried limit protocol_request core ≡ Answered (idled core) 0 body = ap (led_on 8 (handled_idle limit resend_request)) past in
    let refusal = ap (ask_room bus protocol_request) first in
    let again = ap (led_room 16 (idle_room bus protocol_request)) first in
    let poll = ap (poll_room bus) pending in
    let asks = ap (ask_room bus protocol_request) idle in
    let second = ap (led_room 8 (idle_room bus resend_request)) past in
    let third = ap (led_room 3 (λ left. 2 * try_room bus protocol_request left)) whole in
    more-reaches setting (AsksLimits setting) core (Ok tt) (idled core) (command_room bus protocol_request core) (34 + (job.left * 27 + 22))
    (omega (arith, refusal, again, poll, asks, second, third, turns-few bus job.left, any-room bus 8 8, any-room bus 8 20))
    (subst (λ (result : Result (Unit {0}) Stop). Reaches setting (AsksLimits setting) core result (idled core) (command_room bus protocol_request core)) (limits-are bus)
    (commands-reach setting protocol_request 12 (on_success (limits_told limit)) core (idled core) 0 body (limits-proper bus) whole))

-- the limits, whatever is pending: the erase is over behind them
pub record IsRid (setting : Setting) (core : Core) : Type 0 where
  pub none : (erased core).live.erase ≡ None
  pub reaches : Reaches setting (AsksLimits setting) core (Ok tt) (erased core) (34 + pending_room core.live.erase)

by-erase : (setting : Setting) (core : Core) (erase : Option EraseJob) → core.live.erase ≡ erase → IsErasable (length core.flash) core.live erase → IsRid setting core
by-erase setting core None is erasable =
    let same : core ≡ erased core = ap (λ (e : Option EraseJob). after_ticks (blocks_left e) core) (sym is) in
    record {
      none = subst (λ (c : Core). c.live.erase ≡ None) same is;
      reaches = subst (λ (c : Core). Reaches setting (AsksLimits setting) core (Ok tt) c (34 + pending_room core.live.erase)) same
          (more-reaches setting (AsksLimits setting) core (Ok tt) core 34 (34 + pending_room core.live.erase) (omega arith) (limits-quick setting core is));
    }
by-erase setting core (Some job) is erasable =
    let same : idled core ≡ erased core = ap (λ (e : Option EraseJob). after_ticks (poll_waits e) core) is ∙ ap (λ (e : Option EraseJob). after_ticks (blocks_left e) core) (sym is) in
    record {
      none = subst (λ (c : Core). c.live.erase ≡ None) same (idled-erase core job is erasable.0).0;
      reaches = subst (λ (c : Core). Reaches setting (AsksLimits setting) core (Ok tt) c (34 + pending_room core.live.erase)) same
          (subst (λ (e : Option EraseJob). Reaches setting (AsksLimits setting) core (Ok tt) (idled core) (34 + pending_room e)) (sym is) (limits-pending setting core job is erasable.0));
    }

pub rids : (setting : Setting) (core : Core) → IsSound setting.bus core → IsRid setting core
rids setting core sound = by-erase setting core core.live.erase refl (sound-valid setting.bus core sound).erase

-- a tick keeps a controller valid, and so does a whole erase
core-at : (core : Core) → IsCoreValid core → IsAt I2c core (table_of core (OnI2c (Idle [])))
core-at core valid = record { valid = valid_table core (OnI2c (Idle [])) valid (omega arith); kind_is = refl; leaves = record { bus = OnI2c (Idle []); same = refl; none_waits = refl } }

pub ticks-valid : (ticks : ℕ) (core : Core) → IsCoreValid core → IsCoreValid (after_ticks ticks core)
ticks-valid zero core valid = valid
ticks-valid (suc ticks) core valid =
    let table = table_of core (OnI2c (Idle [])) in
    let last = (stepped table Tick).table in
    let at = waits-calm I2c core table (map quiet_entry (Waited ∷ [])) last (core-at core valid) refl (record { calm = refl; steps = refl }) (quiet-run table (Waited ∷ []) last refl) in
    ticks-valid ticks (ticked core) (sound-valid I2c (ticked core) (at-sound I2c (ticked core) last at))

pub erased-valid : (core : Core) → IsCoreValid core → IsCoreValid (erased core)
erased-valid core valid = ticks-valid (blocks_left core.live.erase) core valid
