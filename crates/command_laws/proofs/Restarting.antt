-- A restart that nothing disturbs: the pending erase is carried out, and the controller boots.
use Rattle.std.proofs.Common.{◌≡◌, refl, sym, ap, ◌∙◌, subst, ℕ, ◌+◌, false, List, length, None, arith}
use Rattle.ec_types.specs.Tables.{packet_limit}
use Rattle.ec_types.specs.declared.bus.BusKind.{BusKind}
use Rattle.ec_types.specs.declared.bus.BusKind.TheVariants.{Lpc, I2c, Spi}
use Rattle.ec_types.specs.declared.reset.ResetCause.TheVariants.{Cold as ColdReset}
use Rattle.ec_model.specs.declared.event.Entry.{Entry}
use Rattle.ec_model.specs.Asks.{Setting, Unsent, unsent}
use Rattle.ec_model.specs.Boot.{booted}
use Rattle.ec_model.specs.Bus.{kind_of}
use Rattle.ec_model.specs.HostCalls.{HostView, calls_of, view_after}
use Rattle.ec_model.specs.Polls.{PollEnd}
use Rattle.ec_model.specs.Run.{IsRun}
use Rattle.ec_model.specs.Send.{cold_packet}
use Rattle.ec_model.specs.Table.{Table, Core, Valid, table_of}
use Rattle.ec_model.proofs.RunLaws.{run-split, run-valid, run-kind}
use Rattle.exchange_laws.specs.Calm.{CallsLead}
use Rattle.exchange_laws.specs.Resting.{is_waiting}
use Rattle.exchange_laws.proofs.CalmRun.{calm_lead}
use Rattle.exchange_laws.proofs.Settled.{bus-facts}
use Rattle.host_framing.specs.Room.{waiting_room}
use Rattle.host_framing.proofs.ColdCalm.{cold-sized, cold-restarts}
use Rattle.command_laws.specs.Restarting.{RestartEnd, ResetsQuietly, ResetsBy, LooksLead, Restarts, IsRestarted, blocks_left, erased, cold_room, restart_room}
use Rattle.command_laws.specs.Standing.{HasRoom, IsAt, IsOpen, IsQuiet}
use Rattle.command_laws.proofs.Asking.{is-sent}
use Rattle.command_laws.proofs.Colds.{IsReset, resets-at, rests-at, reset_calls}
use Rattle.command_laws.proofs.Parts.{quiet-both, calls-both}
use Rattle.command_laws.proofs.Polling.{room-behind, can-send}
use Rattle.command_laws.proofs.Waiting.{awake_of}
use Rattle.command_laws.proofs.Looking.{looks_room, looks-calm}

-- a COLD restarts a controller on which no erase is pending
reset-of : (core : Core) (limit : ℕ) → core.live.erase ≡ None → IsReset core limit cold_packet
reset-of core limit none = record { sized = cold-sized; ten = refl; restarts = cold-restarts core limit none }

-- the COLD, and the quiet behind it
record IsBooted (bus : BusKind) (core : Core) (entries : List Entry) (last : Table) : Type 0 where
  pub at : IsAt bus (booted core.flash core.pin ColdReset false) last
  pub takes : length (calls_of entries) ≡ cold_room bus

-- the calls of both
both-calls : (bus : BusKind) → reset_calls bus + 1 ≡ cold_room bus
both-calls Lpc = refl
both-calls I2c = refl
both-calls Spi = refl

-- they leave the controller booted
resets-calm : (bus : BusKind) (core : Core) (table : Table) (entries : List Entry) (last : Table) → IsAt bus core table → core.live.erase ≡ None →
    IsQuiet entries → IsRun table entries last → ResetsQuietly bus entries → IsBooted bus core entries last
resets-calm bus core table entries last at none quiet run resets =
    let state = at.leaves.bus in
    let split = run-split table last resets.sending resets.resting (subst (λ (xs : List Entry). IsRun table xs last) resets.parts run) in
    let quiets = quiet-both resets.sending resets.resting (subst (λ (xs : List Entry). IsQuiet xs) resets.parts quiet) in
    let valid = subst (λ (t : Table). Valid t) at.leaves.same at.valid in
    let facts = bus-facts (table_of core state) (awake_of core state) valid refl in
    let kind : kind_of state ≡ bus = sym (ap (λ (t : Table). t.kind) at.leaves.same) ∙ at.kind_is in
    let sent = subst (λ (t : Table). CallsLead t (calls_of resets.sending) split.0) at.leaves.same (calm_lead table resets.sending split.0 quiets.0.calm split.1) in
    let reboot = resets-at core state bus cold_packet (calls_of resets.sending) split.0 kind
    facts.valid at.leaves.none_waits (reset-of core (packet_limit bus) none) resets.sent.1 sent in
    let fresh = booted core.flash core.pin ColdReset false in
    let rested = subst (λ (t : Table). CallsLead t (calls_of resets.resting) last) reboot.boots (calm_lead split.0 resets.resting last quiets.1.calm split.2) in
    let rests = rests-at fresh bus (calls_of resets.resting) last resets.rests.1 rested in
    record {
      at = record { valid = run-valid table entries last at.valid run; kind_is = run-kind table entries last at.valid run ∙ at.kind_is; leaves = rests.leaves };
      takes = ap (λ (xs : List Entry). length (calls_of xs)) resets.parts ∙ calls-both resets.sending resets.resting ∙ omega (arith, reboot.takes, rests.one, both-calls bus);
    }

-- a whole restart
pub restart-calm : (setting : Setting) (view : HostView) (core : Core) (table : Table) (entries : List Entry) (end : RestartEnd) (last : Table) (waiting : ℕ) → IsOpen setting.bus core table → waiting ≡ waiting_room setting.bus (is_waiting table.power) →
    HasRoom setting view (restart_room setting.bus core.live.erase + waiting) → IsQuiet entries → IsRun table entries last →
    Restarts setting view entries end →
    IsRestarted setting.bus core (restart_room setting.bus core.live.erase + waiting) entries end last
restart-calm setting view core table entries end last waiting open_ waits has quiet run restarts =
    let bus = setting.bus in
    let left = blocks_left core.live.erase in
    let split = run-split table last restarts.looking restarts.rest (subst (λ (xs : List Entry). IsRun table xs last) restarts.parts run) in
    let quiets = quiet-both restarts.looking restarts.rest (subst (λ (xs : List Entry). IsQuiet xs) restarts.parts quiet) in
    let looks = looks-calm 1100 setting view core table restarts.looking restarts.reached split.0 waiting
    (omega arith) open_ waits (record { on = has.on; enough = omega (arith, has.enough) }) quiets.0 split.1 restarts.looked in
    let behind = room-behind setting view restarts.looking (looks_room bus left + waiting) (cold_room bus) quiets.0 looks.takes (record { on = has.on; enough = omega (arith, has.enough) }) in
    let later = view_after restarts.looking view in
    let leads = subst (λ (reached : PollEnd). LooksLead reached (ResetsBy (unsent later setting.floor) bus restarts.rest end) restarts.rest end) looks.end_is restarts.leads in
    let resets = subst (λ (why : Unsent). ResetsBy why bus restarts.rest end) (is-sent setting later (can-send setting later (cold_room bus) behind)) leads in
    let reboot = resets-calm bus (erased core) split.0 restarts.rest last looks.at looks.free quiets.1 split.2 resets.0 in
    record {
      end_is = resets.1;
      at = reboot.at;
      takes = ap (λ (xs : List Entry). length (calls_of xs)) restarts.parts ∙ calls-both restarts.looking restarts.rest ∙ omega (arith, looks.takes, reboot.takes);
    }
