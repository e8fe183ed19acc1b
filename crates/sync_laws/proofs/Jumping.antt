-- A jump to RW that nothing disturbs.
use Rattle.std.proofs.Common.{◌≡◌, refl, ap, ◌∙◌, subst, ℕ, ◌+◌, ◌-◌, ◌≤◌, ◌&&◌, Bool, true, false, not, nat_lt, if◌then◌else◌, List, [], ◌∷◌, ◌++◌, length, replicate, Option, Some, None, Ok, arith}
use Rattle.std.proofs.lemmas.Bool.Decides.{leb_tells}
use Rattle.ec_types.specs.LittleEndian.{u32_at}
use Rattle.ec_types.specs.Tables.{packet_limit}
use Rattle.ec_types.specs.declared.image.Fit.TheVariants.{Yes, Short, Long, Vector}
use Rattle.ec_types.specs.declared.image.ImageCopy.{ImageCopy}
use Rattle.ec_types.specs.declared.image.ImageCopy.TheVariants.{Ro, Rw}
use Rattle.ec_model.specs.Answer.{Answered, done, refused}
use Rattle.ec_model.specs.Asks.{Setting}
use Rattle.ec_model.specs.Boot.{booted}
use Rattle.ec_model.specs.Image.{fit_of, padded}
use Rattle.ec_model.specs.Jump.{same_copy, is_denied, vector_in, has_vector, jumped}
use Rattle.ec_model.specs.Ranges.{rw_range, part}
use Rattle.ec_model.specs.Table.{Core}
use Rattle.ec_model.specs.declared.live.EraseJob.{EraseJob}
use Rattle.ec_types.specs.declared.bus.BusKind.{BusKind}
use Rattle.ec_types.specs.declared.bus.BusKind.TheVariants.{Lpc, I2c, Spi}
use Rattle.ec_types.specs.declared.reset.ResetCause.TheVariants.{Cold as ColdReset}
use Rattle.command_laws.specs.Idle.{after_ticks}
use Rattle.command_laws.specs.Restarting.{blocks_left, restarted, restart_room}
use Rattle.command_laws.specs.Room.{command_room}
use Rattle.sync_rules.specs.declared.ending.Jump.TheVariants.{Jumped, Denied}
use Rattle.sync_rules.specs.Parts.{Gives, Then, When, Colds}
use Rattle.sync_rules.specs.Replies.{jump_told, last_jump_told}
use Rattle.sync_rules.specs.Requests.{reboot_request}
use Rattle.sync_rules.specs.Steps.{Jumps, JumpLeads, JumpsAgain, AsksCopy, Starts}
use Rattle.sync_laws.specs.Calm.{Reaches}
use Rattle.sync_laws.proofs.Calmly.{commands-reach, colds-reach, then-reaches, gives-reaches, when-reaches}
use Rattle.sync_laws.proofs.Looked.{more-reaches, success-room, answer-room}
use Rattle.sync_laws.proofs.Proper.{jump-proper}
use Rattle.sync_laws.proofs.Rows.{unless_pending, reboot-row}
use Rattle.sync_laws.proofs.Sealing.{any-room}
use Rattle.sync_laws.proofs.Surveying.{succeeds, answers, runs_rw}
use Rattle.sync_laws.proofs.KeptSteps.{copy-quick}

-- an image that fits has a head, and its vector lies in RW
yes-facts : (short long outside : Bool) → (if short then Short else if long then Long else if outside then Vector else Yes) ≡ Yes → (short ≡ false) × (outside ≡ false)
yes-facts true long outside is = absurd (cc)
yes-facts false true outside is = absurd (cc)
yes-facts false false true is = absurd (cc)
yes-facts false false false is = (refl, refl)

-- the vector is in the head, whatever comes behind
head-vector : (image behind : List ℕ) → 8 ≤ length image → u32_at 4 (image ++ behind) ≡ u32_at 4 image
head-vector (a ∷ b ∷ c ∷ d ∷ e ∷ f ∷ g ∷ h ∷ rest) behind long = refl
head-vector [] behind long = absurd (omega (arith, long))
head-vector (a ∷ []) behind long = absurd (omega (arith, long))
head-vector (a ∷ b ∷ []) behind long = absurd (omega (arith, long))
head-vector (a ∷ b ∷ c ∷ []) behind long = absurd (omega (arith, long))
head-vector (a ∷ b ∷ c ∷ d ∷ []) behind long = absurd (omega (arith, long))
head-vector (a ∷ b ∷ c ∷ d ∷ e ∷ []) behind long = absurd (omega (arith, long))
head-vector (a ∷ b ∷ c ∷ d ∷ e ∷ f ∷ []) behind long = absurd (omega (arith, long))
head-vector (a ∷ b ∷ c ∷ d ∷ e ∷ f ∷ g ∷ []) behind long = absurd (omega (arith, long))

-- RW that holds a fitting image can be jumped to
not-false : (test : Bool) → not test ≡ false → test ≡ true
not-false true is = refl
not-false false is = absurd (cc)

pub vector-held : (image : List ℕ) (flash : List ℕ) → fit_of image (length flash) ≡ Yes → part (rw_range (length flash)) flash ≡ padded image (length flash) → has_vector flash Rw ≡ true
vector-held image flash fits holds =
    let size = length flash in
    let facts = yes-facts (nat_lt (length image) 8) (nat_lt (rw_range size).size (length image)) (not (vector_in (rw_range size) (u32_at 4 image))) fits in
    let long : 8 ≤ length image = grind (arith, leb_tells, facts.0) in
    ap (λ (bytes : List ℕ). vector_in (rw_range size) (u32_at 4 bytes)) holds
    ∙ ap (vector_in (rw_range size)) (head-vector image (replicate ((rw_range size).size - length image) 0xFF) long)
    ∙ not-false (vector_in (rw_range size) (u32_at 4 image)) facts.1

-- a jump from RO that is not denied
pub ro-differs : (copy : ImageCopy) → copy ≡ Ro → same_copy Rw copy ≡ false
ro-differs Ro is = refl
ro-differs Rw is = absurd (cc)

jump-by : (core : Core) (same denied vector : Bool) → same ≡ false → denied ≡ false → vector ≡ true →
    (if same then done core else if denied then refused core 4 else if not vector then refused core 2 else done (jumped Rw core)) ≡ Answered (jumped Rw core) 0 []
jump-by core true denied vector other free has = absurd (cc)
jump-by core false true vector other free has = absurd (cc)
jump-by core false false false other free has = absurd (cc)
jump-by core false false true other free has = refl

pub jump-reaches : (setting : Setting) (core : Core) → core.live.erase ≡ None → core.live.copy ≡ Ro → is_denied core Rw ≡ false → has_vector core.flash Rw ≡ true → Reaches setting (Jumps setting) core (Ok Jumped) (jumped Rw core) 24
jump-reaches setting core none ro free has =
    let row = reboot-row core (packet_limit setting.bus) 2 ∙ ap (unless_pending core) (jump-by core (same_copy Rw core.live.copy) (is_denied core Rw) (has_vector core.flash Rw) (ro-differs core.live.copy ro) free has) in
    let room = success-room setting.bus (reboot_request 2) core (jumped Rw core) [] none row in
    more-reaches setting (Jumps setting) core (Ok Jumped) (jumped Rw core) (command_room setting.bus (reboot_request 2) core) 24 (omega (arith, room, any-room setting.bus 10 8))
    (commands-reach setting (reboot_request 2) 0 jump_told core (jumped Rw core) 0 [] (jump-proper setting.bus) (succeeds (packet_limit setting.bus) (reboot_request 2) core (jumped Rw core) [] none row))

-- one that is denied
denied-by : (core : Core) (same denied vector : Bool) → same ≡ false → denied ≡ true →
    (if same then done core else if denied then refused core 4 else if not vector then refused core 2 else done (jumped Rw core)) ≡ Answered core 4 []
denied-by core true denied vector other is = absurd (cc)
denied-by core false true vector other is = refl
denied-by core false false vector other is = absurd (cc)

pub denied-reaches : (setting : Setting) (core : Core) → core.live.erase ≡ None → core.live.copy ≡ Ro → is_denied core Rw ≡ true → Reaches setting (Jumps setting) core (Ok Denied) core 24
denied-reaches setting core none ro denied =
    let row = reboot-row core (packet_limit setting.bus) 2 ∙ ap (unless_pending core) (denied-by core (same_copy Rw core.live.copy) (is_denied core Rw) (has_vector core.flash Rw) (ro-differs core.live.copy ro) denied) in
    let room = answer-room setting.bus (reboot_request 2) core core 4 [] none refl refl refl row in
    more-reaches setting (Jumps setting) core (Ok Denied) core (command_room setting.bus (reboot_request 2) core) 24 (omega (arith, room, any-room setting.bus 10 8))
    (commands-reach setting (reboot_request 2) 0 jump_told core core 4 [] (jump-proper setting.bus) (answers (packet_limit setting.bus) (reboot_request 2) core core 4 [] none refl refl row))

-- a restart where no erase is pending
none-left : (core : Core) → core.live.erase ≡ None → restarted core ≡ booted core.flash core.pin ColdReset false
none-left core none = ap (λ (blocks : ℕ). booted (after_ticks blocks core).flash (after_ticks blocks core).pin ColdReset false) (ap blocks_left none)

cold-few : (bus : BusKind) (erase : Option EraseJob) → erase ≡ None → restart_room bus erase ≤ 41
cold-few Lpc None is = omega arith
cold-few I2c None is = omega arith
cold-few Spi None is = omega arith
cold-few bus (Some job) is = absurd (cc)

pub cold-reaches : (setting : Setting) (core : Core) → core.live.erase ≡ None → Reaches setting (Colds setting) core (Ok tt) (booted core.flash core.pin ColdReset false) 41
cold-reaches setting core none =
    subst (λ (after : Core). Reaches setting (Colds setting) core (Ok tt) after 41) (none-left core none)
    (more-reaches setting (Colds setting) core (Ok tt) (restarted core) (restart_room setting.bus core.live.erase) 41 (cold-few setting.bus core.live.erase none) (colds-reach setting core))

-- the first jump behind a boot is not denied
pub and-false : (test : Bool) → (test && false) ≡ false
and-false true = refl
and-false false = refl

-- where a start of RW leads
pub record IsStarted (core after : Core) : Type 0 where
  pub flash_is : after.flash ≡ core.flash
  pub pin_is : after.pin ≡ core.pin
  pub none : after.live.erase ≡ None
  pub runs : after.live.copy ≡ Rw

-- RW is started, whatever runs
pub record CanStart (setting : Setting) (core : Core) : Type 0 where
  pub after : Core
  pub started : IsStarted core after
  pub starts : Reaches setting (Starts setting) core (Ok true) after 233

pub start-with : (setting : Setting) (core after : Core) (runs : Bool) (room : ℕ) → core.live.erase ≡ None → runs_rw core.live.copy ≡ runs → room ≤ 111 → Reaches setting (When runs (Gives (Ok true)) (Then (Jumps setting) (JumpLeads setting))) core (Ok true) after room →
    Reaches setting (Starts setting) core (Ok true) after 233
start-with setting core after runs room none is few goes =
    more-reaches setting (Starts setting) core (Ok true) after (122 + room) 233 (omega (arith, few))
    (then-reaches setting (AsksCopy setting) (λ told. When told (Gives (Ok true)) (Then (Jumps setting) (JumpLeads setting))) core core after (runs_rw core.live.copy) (Ok true) 122 room (copy-quick setting core none)
    (when-reaches setting (runs_rw core.live.copy) runs (Gives (Ok true)) (Then (Jumps setting) (JumpLeads setting)) core (Ok true) after room is goes))

start-denied : (setting : Setting) (core : Core) → core.live.erase ≡ None → has_vector core.flash Rw ≡ true → Reaches setting (JumpsAgain setting) core (Ok true) (jumped Rw (booted core.flash core.pin ColdReset false)) (41 + (24 + 0))
start-denied setting core none has =
    let boot = booted core.flash core.pin ColdReset false in
    let free : is_denied boot Rw ≡ false = and-false (boot.live.ro_now && boot.pin) in
    then-reaches setting (Colds setting) (λ reset. Then (Jumps setting) (λ jump. Gives (last_jump_told jump))) core boot (jumped Rw boot) tt (Ok true) 41 (24 + 0) (cold-reaches setting core none)
    (then-reaches setting (Jumps setting) (λ jump. Gives (last_jump_told jump)) boot (jumped Rw boot) (jumped Rw boot) Jumped (Ok true) 24 0 (jump-reaches setting boot refl refl free has) (gives-reaches setting (Ok true) (jumped Rw boot)))

start-by : (setting : Setting) (core : Core) (copy : ImageCopy) (denied : Bool) → core.live.copy ≡ copy → is_denied core Rw ≡ denied → core.live.erase ≡ None → has_vector core.flash Rw ≡ true → CanStart setting core
start-by setting core Rw denied copy_is denied_is none has = record {
  after = core;
  started = record { flash_is = refl; pin_is = refl; none = none; runs = copy_is };
  starts = start-with setting core core true 0 none (ap runs_rw copy_is) (omega arith) (gives-reaches setting (Ok true) core);
}
start-by setting core Ro false copy_is denied_is none has = record {
  after = jumped Rw core;
  started = record { flash_is = refl; pin_is = refl; none = none; runs = refl };
  starts = start-with setting core (jumped Rw core) false (24 + 0) none (ap runs_rw copy_is) (omega arith)
      (then-reaches setting (Jumps setting) (JumpLeads setting) core (jumped Rw core) (jumped Rw core) Jumped (Ok true) 24 0 (jump-reaches setting core none copy_is denied_is has) (gives-reaches setting (Ok true) (jumped Rw core)));
}
start-by setting core Ro true copy_is denied_is none has = record {
  after = jumped Rw (booted core.flash core.pin ColdReset false);
  started = record { flash_is = refl; pin_is = refl; none = refl; runs = refl };
  starts = start-with setting core (jumped Rw (booted core.flash core.pin ColdReset false)) false (24 + (41 + (24 + 0))) none (ap runs_rw copy_is) (omega arith)
      (then-reaches setting (Jumps setting) (JumpLeads setting) core core (jumped Rw (booted core.flash core.pin ColdReset false)) Denied (Ok true) 24 (41 + (24 + 0)) (denied-reaches setting core none copy_is denied_is) (start-denied setting core none has));
}

pub can-start : (setting : Setting) (core : Core) → core.live.erase ≡ None → has_vector core.flash Rw ≡ true → CanStart setting core
can-start setting core none has = start-by setting core core.live.copy (is_denied core Rw) refl refl none has
