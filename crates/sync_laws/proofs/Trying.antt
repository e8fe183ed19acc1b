-- A start of RW that nothing disturbs: RW runs, or its vector is outside of it.
use Rattle.std.proofs.Common.{◌≡◌, refl, ap, ◌∙◌, ℕ, ◌+◌, ◌≤◌, ◌&&◌, Bool, true, false, not, if◌then◌else◌, [], None, Ok, arith}
use Rattle.ec_types.specs.Tables.{packet_limit}
use Rattle.ec_types.specs.declared.image.ImageCopy.{ImageCopy}
use Rattle.ec_types.specs.declared.image.ImageCopy.TheVariants.{Ro, Rw}
use Rattle.ec_types.specs.declared.reset.ResetCause.TheVariants.{Cold as ColdReset}
use Rattle.ec_model.specs.Answer.{Answered, done, refused}
use Rattle.ec_model.specs.Asks.{Setting}
use Rattle.ec_model.specs.Boot.{booted}
use Rattle.ec_model.specs.Jump.{same_copy, is_denied, has_vector, jumped}
use Rattle.ec_model.specs.Table.{Core}
use Rattle.command_laws.specs.Room.{command_room}
use Rattle.sync_rules.specs.declared.ending.Jump.TheVariants.{Denied, Failed}
use Rattle.sync_rules.specs.Parts.{Gives, Then, When, Colds}
use Rattle.sync_rules.specs.Replies.{jump_told, last_jump_told}
use Rattle.sync_rules.specs.Requests.{reboot_request}
use Rattle.sync_rules.specs.Steps.{Jumps, JumpLeads, JumpsAgain, AsksCopy, Starts}
use Rattle.sync_laws.specs.Calm.{Reaches}
use Rattle.sync_laws.proofs.Calmly.{commands-reach, then-reaches, gives-reaches, when-reaches}
use Rattle.sync_laws.proofs.Jumping.{ro-differs, and-false, denied-reaches, cold-reaches, start-with, can-start}
use Rattle.sync_laws.proofs.KeptSteps.{copy-quick}
use Rattle.sync_laws.proofs.Looked.{more-reaches, answer-room}
use Rattle.sync_laws.proofs.Proper.{jump-proper}
use Rattle.sync_laws.proofs.Rows.{unless_pending, reboot-row}
use Rattle.sync_laws.proofs.Sealing.{any-room}
use Rattle.sync_laws.proofs.Surveying.{answers, runs_rw}

-- a jump to a vector outside of RW
failed-by : (core : Core) (same denied vector : Bool) → same ≡ false → denied ≡ false → vector ≡ false →
    (if same then done core else if denied then refused core 4 else if not vector then refused core 2 else done (jumped Rw core)) ≡ Answered core 2 []
failed-by core true denied vector other free outside = absurd (cc)
failed-by core false true vector other free outside = absurd (cc)
failed-by core false false true other free outside = absurd (cc)
failed-by core false false false other free outside = refl

failed-reaches : (setting : Setting) (core : Core) → core.live.erase ≡ None → core.live.copy ≡ Ro → is_denied core Rw ≡ false → has_vector core.flash Rw ≡ false → Reaches setting (Jumps setting) core (Ok Failed) core 24
failed-reaches setting core none ro free outside =
    let row = reboot-row core (packet_limit setting.bus) 2 ∙ ap (unless_pending core) (failed-by core (same_copy Rw core.live.copy) (is_denied core Rw) (has_vector core.flash Rw) (ro-differs core.live.copy ro) free outside) in
    let room = answer-room setting.bus (reboot_request 2) core core 2 [] none refl refl refl row in
    more-reaches setting (Jumps setting) core (Ok Failed) core (command_room setting.bus (reboot_request 2) core) 24 (omega (arith, room, any-room setting.bus 10 8))
    (commands-reach setting (reboot_request 2) 0 jump_told core core 2 [] (jump-proper setting.bus) (answers (packet_limit setting.bus) (reboot_request 2) core core 2 [] none refl refl row))

-- RW is started, where it can be
pub record CanTry (setting : Setting) (core : Core) : Type 0 where
  pub runs : Bool
  pub after : Core
  pub flash_is : after.flash ≡ core.flash
  pub pin_is : after.pin ≡ core.pin
  pub none : after.live.erase ≡ None
  pub started : runs ≡ true → after.live.copy ≡ Rw
  pub failed : runs ≡ false → has_vector core.flash Rw ≡ false
  pub starts : Reaches setting (Starts setting) core (Ok runs) after 233

fails-with : (setting : Setting) (core after : Core) (room : ℕ) → core.live.erase ≡ None → core.live.copy ≡ Ro → room ≤ 111 → Reaches setting (Then (Jumps setting) (JumpLeads setting)) core (Ok false) after room → Reaches setting (Starts setting) core (Ok false) after 233
fails-with setting core after room none ro few goes =
    more-reaches setting (Starts setting) core (Ok false) after (122 + room) 233 (omega (arith, few))
    (then-reaches setting (AsksCopy setting) (λ told. When told (Gives (Ok true)) (Then (Jumps setting) (JumpLeads setting))) core core after (runs_rw core.live.copy) (Ok false) 122 room (copy-quick setting core none)
    (when-reaches setting (runs_rw core.live.copy) false (Gives (Ok true)) (Then (Jumps setting) (JumpLeads setting)) core (Ok false) after room (ap runs_rw ro) goes))

fails-again : (setting : Setting) (core : Core) → core.live.erase ≡ None → has_vector core.flash Rw ≡ false → Reaches setting (JumpsAgain setting) core (Ok false) (booted core.flash core.pin ColdReset false) (41 + (24 + 0))
fails-again setting core none outside =
    let boot = booted core.flash core.pin ColdReset false in
    then-reaches setting (Colds setting) (λ reset. Then (Jumps setting) (λ jump. Gives (last_jump_told jump))) core boot boot tt (Ok false) 41 (24 + 0) (cold-reaches setting core none)
    (then-reaches setting (Jumps setting) (λ jump. Gives (last_jump_told jump)) boot boot boot Failed (Ok false) 24 0 (failed-reaches setting boot refl refl (and-false (boot.live.ro_now && boot.pin)) outside) (gives-reaches setting (Ok false) boot))

try-by : (setting : Setting) (core : Core) (copy : ImageCopy) (denied : Bool) → core.live.copy ≡ copy → is_denied core Rw ≡ denied → core.live.erase ≡ None → has_vector core.flash Rw ≡ false → CanTry setting core
try-by setting core Rw denied copy_is denied_is none outside = record {
  runs = true;
  after = core;
  flash_is = refl;
  pin_is = refl;
  none = none;
  started = λ runs. copy_is;
  failed = λ never. outside;
  starts = start-with setting core core true 0 none (ap runs_rw copy_is) (omega arith) (gives-reaches setting (Ok true) core);
}
try-by setting core Ro false copy_is denied_is none outside = record {
  runs = false;
  after = core;
  flash_is = refl;
  pin_is = refl;
  none = none;
  started = λ never. absurd (cc);
  failed = λ fails. outside;
  starts = fails-with setting core core (24 + 0) none copy_is (omega arith)
      (then-reaches setting (Jumps setting) (JumpLeads setting) core core core Failed (Ok false) 24 0 (failed-reaches setting core none copy_is denied_is outside) (gives-reaches setting (Ok false) core));
}
try-by setting core Ro true copy_is denied_is none outside = record {
  runs = false;
  after = booted core.flash core.pin ColdReset false;
  flash_is = refl;
  pin_is = refl;
  none = refl;
  started = λ never. absurd (cc);
  failed = λ fails. outside;
  starts = fails-with setting core (booted core.flash core.pin ColdReset false) (24 + (41 + (24 + 0))) none copy_is (omega arith)
      (then-reaches setting (Jumps setting) (JumpLeads setting) core core (booted core.flash core.pin ColdReset false) Denied (Ok false) 24 (41 + (24 + 0)) (denied-reaches setting core none copy_is denied_is) (fails-again setting core none outside));
}

by-vector : (setting : Setting) (core : Core) (inside : Bool) → has_vector core.flash Rw ≡ inside → core.live.erase ≡ None → CanTry setting core
by-vector setting core true is none =
    let can = can-start setting core none is in
    record {
      runs = true;
      after = can.after;
      flash_is = can.started.flash_is;
      pin_is = can.started.pin_is;
      none = can.started.none;
      started = λ runs. can.started.runs;
      failed = λ never. absurd (cc);
      starts = can.starts;
    }
by-vector setting core false is none = try-by setting core core.live.copy (is_denied core Rw) refl refl none is

pub can-try : (setting : Setting) (core : Core) → core.live.erase ≡ None → CanTry setting core
can-try setting core none = by-vector setting core (has_vector core.flash Rw) refl none
