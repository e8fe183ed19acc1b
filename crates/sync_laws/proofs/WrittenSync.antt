-- A whole sync that nothing disturbs, of a controller whose RW may have to be written.
use Rattle.std.proofs.Common.{zero, suc, nat_le, None, ◌≡◌, refl, sym, ap, ◌∙◌, subst, ℕ, ◌+◌, ◌≤◌, ◌||◌, Bool, true, false, List, ◌++◌, length, append-nil, Option, Some, Result, arith}
use Rattle.ec_types.specs.declared.bus.BusKind.{BusKind}
use Rattle.ec_model.specs.declared.event.Entry.{Entry}
use Rattle.ec_model.specs.declared.live.EraseJob.{EraseJob}
use Rattle.ec_model.specs.declared.live.HashView.{HashView}
use Rattle.ec_model.specs.declared.live.HashView.TheVariants.{Idle, Busy as Hashing, Done as Hashed}
use Rattle.ec_model.specs.Hash.{hash_ticked}
use Rattle.ec_model.specs.Ranges.{block_range}
use Rattle.ec_model.proofs.GuardSteps.{if_cases}
use Rattle.command_laws.specs.Idle.{ticked_by, ticked, after_ticks}
use Rattle.sync_laws.proofs.Clearing.{touched-is}
use Rattle.ec_model.specs.HostCalls.{HostView, calls_of, view_after}
use Rattle.ec_model.specs.Run.{IsRun}
use Rattle.ec_model.specs.Table.{Table, Core}
use Rattle.ec_model.proofs.RunLaws.{run-split}
use Rattle.command_laws.specs.Restarting.{blocks_left, erased}
use Rattle.command_laws.specs.Standing.{IsQuiet, IsOpen, IsAt}
use Rattle.command_laws.proofs.Answering.{open-sound, sound-valid}
use Rattle.command_laws.proofs.Parts.{quiet-both}
use Rattle.sync_rules.specs.declared.ending.Stop.{Stop}
use Rattle.sync_rules.specs.declared.ending.SyncEnd.{SyncEnd}
use Rattle.sync_rules.specs.declared.ending.SyncEnd.TheVariants.{Done}
use Rattle.sync_rules.specs.Steps.{plan_of}
use Rattle.sync_rules.specs.Syncing.{end_told, RoundLeads, round_setting, SyncsUpTo, Syncs}
use Rattle.sync_laws.specs.Kept.{pending_room}
use Rattle.sync_laws.specs.Written.{IsInstallable, IsWritten, sync_room}
use Rattle.sync_laws.proofs.Installing.{install-few}
use Rattle.sync_laws.proofs.KeptRounds.{sized-core, pending-few}
use Rattle.sync_laws.proofs.KeptSteps.{aimed_at}
use Rattle.sync_laws.proofs.Pending.{rids, erased-valid}
use Rattle.sync_laws.proofs.Planning.{whole_plan_room}
use Rattle.sync_laws.proofs.Rounding.{round-done}
use Rattle.sync_laws.proofs.WrittenRounds.{out_room, can-sync}

-- ticks leave the pin
tick-pin : (erase : Option EraseJob) (core : Core) → (ticked_by erase core).pin ≡ core.pin
tick-pin (Some job) core = (touched-is (block_range job.next) core).stays.pin_is
tick-pin None core = by core.live.hash where
  by : (hash : HashView) → (hash_ticked hash core).pin ≡ core.pin
  by Idle = refl
  by (Hashing at size left) = if_cases (λ (c : Core). c.pin ≡ core.pin) (nat_le left 1) _ _ (λ last. refl) (λ more. refl)
  by (Hashed at size digest) = refl

pub erased-pin : (ticks : ℕ) (core : Core) → (after_ticks ticks core).pin ≡ core.pin
erased-pin zero core = refl
erased-pin (suc ticks) core = erased-pin ticks (ticked core) ∙ tick-pin core.live.erase core

-- the one round ends the sync
pub sync-written : (bus : BusKind) (image : List ℕ) (view : HostView) (core : Core) (table : Table) (entries : List Entry) (end : SyncEnd) (last : Table) → IsOpen bus core table → view.on ≡ true → 12000000 ≤ view.spare → IsQuiet entries → IsRun table entries last →
    IsInstallable image (erased core) → Syncs bus image view entries end → IsWritten bus image core entries end last
sync-written bus image view core table entries end last from on room quiet run able (first, rest, writes, told, parts, round, leads) =
    let now = erased core in
    let size = length now.flash in
    let pending = pending_room core.live.erase in
    let setting = round_setting bus 2 in
    let sound = open-sound bus core table from in
    let valid = sound-valid bus core sound in
    let rid = rids setting core sound in
    let sized = sized-core now (erased-valid core valid) in
    let before = sized-core core valid in
    let split = run-split table last first rest (subst (λ (xs : List Entry). IsRun table xs last) parts run) in
    let quiets = quiet-both first rest (subst (λ (xs : List Entry). IsQuiet xs) parts quiet) in
    let can = can-sync setting image core now pending rid.reaches rid.none sized able in
    let most = whole_plan_room pending size in
    let more = out_room bus size in
    let few : 8000000 + 1500 + (most + more) ≤ view.spare = omega (arith, room, sized.most, install-few bus size sized.most, pending-few (length core.flash) core.live core.live.erase before.most valid.erase) in
    let done = round-done setting image view core can.middle can.after (plan_of (aimed_at image now) can.wrote) most more table first writes told split.0 can.plans can.carries from (record { on = on; enough = few }) quiets.0 split.1 round in
    let told_end : end_told told (false || writes) ≡ Some (Done can.wrote) = ap (λ (result : Result (Unit {0}) Stop). end_told result (false || writes)) done.told_is ∙ ap (λ (wrote : Bool). Some (Done wrote)) done.wrote_is in
    let over = subst (λ (reached : Option SyncEnd). RoundLeads reached (SyncsUpTo 2 (false || writes) bus image (view_after first view) rest end) rest end) told_end leads in
    let still = subst (λ (xs : List Entry). IsRun split.0 xs last) over.0 split.2 in
    let at = subst (λ (t : Table). IsAt bus can.after t) (sym still) done.at in
    let is = can.settled in
    record {
      wrote = can.wrote;
      end_is = over.1;
      after = can.after;
      at = at;
      flash_is = is.flash_is;
      stored_is = is.stored_is;
      pin_is = is.pin_is ∙ erased-pin (blocks_left core.live.erase) core;
      holds = is.holds;
      digest = is.digest;
      needed = is.needed;
      runs = is.runs;
      jump_off = is.jump_off;
      locked = is.locked last at;
      takes = subst (λ (xs : List Entry). length (calls_of xs) ≤ sync_room bus size + pending) (sym (parts ∙ ap (λ (xs : List Entry). first ++ xs) over.0 ∙ append-nil first)) (omega (arith, done.takes));
    }
