-- The survey of a controller that nothing disturbs, and on which no erase is pending.
use Rattle.std.proofs.Common.{◌≡◌, refl, sym, ap, ◌∙◌, subst, ℕ, ◌^◌, ◌/◌, ◌<◌, ◌==◌, Bool, true, false, if◌then◌else◌, List, length, replicate, Option, Some, None, Result, Ok, arith}
use Rattle.std.specs.Prelude.{is_some}
use Rattle.std.proofs.lemmas.List.{length-replicate}
use Rattle.ec_types.specs.LittleEndian.{u32_at}
use Rattle.ec_types.specs.Tables.{packet_limit}
use Rattle.ec_types.specs.declared.bus.BusKind.{BusKind}
use Rattle.ec_types.specs.declared.bus.BusKind.TheVariants.{Lpc, I2c, Spi}
use Rattle.ec_types.specs.declared.image.ImageCopy.{ImageCopy}
use Rattle.ec_types.specs.declared.image.ImageCopy.TheVariants.{Ro, Rw}
use Rattle.ec_model.specs.declared.live.EraseJob.{EraseJob}
use Rattle.ec_model.specs.Answer.{Outcome, Answered, refused}
use Rattle.ec_model.specs.Asks.{Setting, packet_of}
use Rattle.ec_model.specs.Bodies.{version_say, proto_info_say, flash_info_say1, region_info_say}
use Rattle.ec_model.specs.Handle.{handled}
use Rattle.ec_model.specs.InfoRows.{version_text, raw_version, copy_number}
use Rattle.ec_model.specs.Packet.{RequestView}
use Rattle.ec_model.specs.Ranges.{is_flash_size}
use Rattle.ec_model.specs.Rounds.{protocol_request}
use Rattle.ec_model.specs.Table.{Core}
use Rattle.flash_dev.specs.Flash.{block_size}
use Rattle.ec_model.specs.Tries.{resend_request}
use Rattle.exchange_laws.proofs.Response.{eq-true}
use Rattle.command_laws.specs.Carried.{carried, led_on, handled_idle}
use Rattle.command_laws.specs.Commands.{IsProper}
use Rattle.command_laws.specs.Room.{command_room}
use Rattle.command_laws.proofs.PastErase.{led-off}
use Rattle.sync_rules.specs.declared.ending.Stop.{Stop}
use Rattle.sync_rules.specs.Parts.{Commands, on_success}
use Rattle.sync_rules.specs.Replies.{limits_told, size_told, region_told, runs_rw_told}
use Rattle.sync_rules.specs.Requests.{version_request, flash_info_request, region_request}
use Rattle.sync_rules.specs.Steps.{AsksLimits, AsksSize, AsksRegion, AsksCopy}
use Rattle.sync_rules.proofs.Fields.{current-read, copy-told}
use Rattle.sync_laws.specs.Calm.{Reaches}
use Rattle.sync_laws.proofs.Calmly.{commands-reach}
use Rattle.sync_laws.proofs.Proper.{limits-proper, size-proper, region-proper, copy-proper, versions-length, version-length}
use Rattle.sync_laws.proofs.Rows.{unless_pending, limits-row, size-row, region-row, copy-row}

-- a command that succeeds at once, where no erase is pending
free-by : (core : Core) (outcome : Outcome) (erase : Option EraseJob) → erase ≡ None → (if is_some erase then refused core 16 else outcome) ≡ outcome
free-by core outcome None is = refl
free-by core outcome (Some job) is = absurd (cc)

pub is-free : (core : Core) (outcome : Outcome) → core.live.erase ≡ None → unless_pending core outcome ≡ outcome
is-free core outcome none = free-by core outcome core.live.erase none

-- a command that is answered at once, neither that an erase is pending nor that it goes on
pub answers : (limit : ℕ) (request : RequestView) (core after : Core) (status : ℕ) (body : List ℕ) → core.live.erase ≡ None → (status == 16) ≡ false → (status == 8) ≡ false →
    handled core limit (packet_of request) ≡ unless_pending core (Answered after status body) → carried limit request core ≡ Answered after status body
answers limit request core after status body none free done is =
    ap (λ (outcome : Outcome). led_on 8 (handled_idle limit resend_request) (led_on 16 (handled_idle limit request) outcome)) (is ∙ free-by core (Answered after status body) core.live.erase none)
    ∙ ap (led_on 8 (handled_idle limit resend_request)) (led-off 16 status (handled_idle limit request) after body free) ∙ led-off 8 status (handled_idle limit resend_request) after body done

pub succeeds : (limit : ℕ) (request : RequestView) (core after : Core) (body : List ℕ) → core.live.erase ≡ None → handled core limit (packet_of request) ≡ unless_pending core (Answered after 0 body) → carried limit request core ≡ Answered after 0 body
succeeds limit request core after body none is = answers limit request core after 0 body none refl refl is

-- a command that has to succeed, and does
pub success-reaches : {A : Type 0} → (setting : Setting) (request : RequestView) (want : ℕ) (told : List ℕ → Result A Stop) (core after : Core) (body : List ℕ) (given : Result A Stop) → IsProper setting.bus request want →
    core.live.erase ≡ None → handled core (packet_limit setting.bus) (packet_of request) ≡ unless_pending core (Answered after 0 body) → told body ≡ given →
    Reaches setting (Commands setting request want (on_success told)) core given after (command_room setting.bus request core)
success-reaches setting request want told core after body given proper none is gives =
    subst (λ (result : Result _ Stop). Reaches setting (Commands setting request want (on_success told)) core result after (command_room setting.bus request core)) gives
    (commands-reach setting request want (on_success told) core after 0 body proper (succeeds (packet_limit setting.bus) request core after body none is))

-- the limits of each bus
pub limits-are : (bus : BusKind) → limits_told (packet_limit bus) (proto_info_say 8 (packet_limit bus) (packet_limit bus) 1) ≡ Ok tt
limits-are Lpc = refl
limits-are I2c = refl
limits-are Spi = refl

pub limits-reach : (setting : Setting) (core : Core) → core.live.erase ≡ None → Reaches setting (AsksLimits setting) core (Ok tt) core (command_room setting.bus protocol_request core)
limits-reach setting core none =
    success-reaches setting protocol_request 12 (limits_told (packet_limit setting.bus)) core core (proto_info_say 8 (packet_limit setting.bus) (packet_limit setting.bus) 1) (Ok tt) (limits-proper setting.bus) none
    (limits-row core (packet_limit setting.bus)) (limits-are setting.bus)

-- the size of the flash
size-is : (size : ℕ) → is_flash_size size ≡ true → size < 2 ^ 32 → size_told (flash_info_say1 size 4 block_size block_size 64 0) ≡ Ok size
size-is size is small =
    let read : u32_at 0 (flash_info_say1 size 4 block_size block_size 64 0) ≡ size = omega (arith, small) in
    rw (read, is) refl

pub size-reaches : (setting : Setting) (core : Core) → core.live.erase ≡ None → is_flash_size (length core.flash) ≡ true → length core.flash < 2 ^ 32 → Reaches setting (AsksSize setting) core (Ok (length core.flash)) core (command_room setting.bus flash_info_request core)
size-reaches setting core none is small =
    success-reaches setting flash_info_request 24 size_told core core (flash_info_say1 (length core.flash) 4 block_size block_size 64 0) (Ok (length core.flash)) (size-proper setting.bus) none
    (size-row core (packet_limit setting.bus)) (size-is (length core.flash) is small)

-- the active region
region-is : (first count size : ℕ) → first ≡ size / 2 → count ≡ size / 2 → size < 2 ^ 32 → region_told size (region_info_say first count) ≡ Ok tt
region-is first count size at_is long_is small =
    let at : u32_at 0 (region_info_say first count) ≡ size / 2 = omega (arith, small, at_is) in
    let long : u32_at 4 (region_info_say first count) ≡ size / 2 = omega (arith, small, long_is) in
    rw (at, long, eq-true (size / 2) (size / 2) refl) refl

pub region-reaches : (setting : Setting) (core : Core) → core.live.erase ≡ None → length core.flash < 2 ^ 32 → Reaches setting (AsksRegion setting (length core.flash)) core (Ok tt) core (command_room setting.bus region_request core)
region-reaches setting core none small =
    success-reaches setting region_request 8 (region_told (length core.flash)) core core (region_info_say (length core.flash / 2) (length core.flash / 2)) (Ok tt) (region-proper setting.bus) none
    (region-row core (packet_limit setting.bus)) (region-is (length core.flash / 2) (length core.flash / 2) (length core.flash) refl refl small)

-- the image that runs
abbrev pub runs_rw : ImageCopy → Bool
runs_rw Ro = false
runs_rw Rw = true

copy-is : (copy : ImageCopy) → runs_rw copy ≡ (copy_number copy == 2)
copy-is Ro = refl
copy-is Rw = refl

copy-small : (copy : ImageCopy) → copy_number copy < 2 ^ 32
copy-small Ro = omega arith
copy-small Rw = omega arith

pub copy-reaches : (setting : Setting) (core : Core) → core.live.erase ≡ None → Reaches setting (AsksCopy setting) core (Ok (runs_rw core.live.copy)) core (command_room setting.bus version_request core)
copy-reaches setting core none =
    let ro = raw_version Ro core.flash in
    let rw_raw = raw_version Rw core.flash in
    let body = version_say (version_text ro) (version_text rw_raw) (replicate 32 0) (copy_number core.live.copy) in
    let read = current-read body (version_text ro) (version_text rw_raw) (replicate 32 0) (copy_number core.live.copy) (version-length ro) (version-length rw_raw) (length-replicate {A = ℕ} 32 0) (copy-small core.live.copy) refl in
    success-reaches setting version_request 100 runs_rw_told core core body (Ok (runs_rw core.live.copy)) (copy-proper setting.bus) none
    (copy-row core (packet_limit setting.bus)) (sym (copy-told body (copy_number core.live.copy) (runs_rw core.live.copy) (versions-length ro rw_raw (copy_number core.live.copy)) read (copy-is core.live.copy)))
