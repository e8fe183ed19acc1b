-- The last steps of a round that nothing disturbs: the locks, the jumps, the hash and the image that runs.
use Rattle.std.proofs.Common.{◌≡◌, refl, ap, ℕ, ◌+◌, ◌<◌, ◌≤◌, ◌^◌, ◌||◌, Bool, true, false, if◌then◌else◌, List, [], length, None, Result, Ok, arith}
use Rattle.ec_types.specs.LittleEndian.{u32_at, bit_if}
use Rattle.ec_types.specs.Tables.{packet_limit}
use Rattle.ec_types.specs.declared.bus.BusKind.{BusKind}
use Rattle.ec_types.specs.declared.bus.BusKind.TheVariants.{Lpc, I2c, Spi}
use Rattle.ec_model.specs.Answer.{Answered}
use Rattle.ec_model.specs.Asks.{Setting, packet_of}
use Rattle.ec_model.specs.Bodies.{flash_protect_say}
use Rattle.ec_model.specs.Handle.{handled}
use Rattle.ec_model.specs.Operations.{Operation, after_operations}
use Rattle.ec_model.specs.Packet.{RequestView}
use Rattle.ec_model.specs.ProtectRow.{protect_operations, storing_operations, locks_set, protected, protect_view}
use Rattle.ec_model.specs.Stored.{stored, same_bits}
use Rattle.ec_model.specs.declared.live.AtBoot.{AtBoot}
use Rattle.ec_model.specs.Table.{Core}
use Rattle.host_framing.specs.Room.{send_room}
use Rattle.command_laws.specs.Commands.{IsProper}
use Rattle.command_laws.specs.Room.{command_room}
use Rattle.sync_rules.specs.declared.ending.Stop.{Stop}
use Rattle.sync_rules.specs.Parts.{Commands, on_success}
use Rattle.sync_rules.specs.Replies.{confirmed, flags_told}
use Rattle.sync_rules.specs.Requests.{protect_request, reboot_request}
use Rattle.sync_rules.specs.Steps.{Protects, Confirms}
use Rattle.sync_laws.specs.Calm.{Reaches}
use Rattle.sync_laws.proofs.Looked.{more-reaches, success-room}
use Rattle.sync_laws.proofs.Proper.{protect-proper, disable-proper}
use Rattle.sync_laws.proofs.Rows.{unless_pending, protect-row, reboot-row}
use Rattle.sync_laws.proofs.Surveying.{success-reaches}

-- a command that succeeds at once, with a bound on its calls
pub quick-reaches : {A : Type 0} → (setting : Setting) (request : RequestView) (want : ℕ) (told : List ℕ → Result A Stop) (core after : Core) (body : List ℕ) (given : Result A Stop) (most : ℕ) → IsProper setting.bus request want → core.live.erase ≡ None →
    handled core (packet_limit setting.bus) (packet_of request) ≡ unless_pending core (Answered after 0 body) → told body ≡ given → send_room setting.bus (length (packet_of request)) (8 + length body) ≤ most →
    Reaches setting (Commands setting request want (on_success told)) core given after most
quick-reaches setting request want told core after body given most proper none row is few =
    let room = success-room setting.bus request core after body none row in
    more-reaches setting (Commands setting request want (on_success told)) core given after (command_room setting.bus request core) most (omega (arith, room, few)) (success-reaches setting request want told core after body given proper none row is)

-- the room of any send
pub any-room : (bus : BusKind) (sent heard : ℕ) → send_room bus sent heard ≤ sent + heard + 6
any-room Lpc sent heard = omega arith
any-room I2c sent heard = omega arith
any-room Spi sent heard = omega arith

-- stored bits are the same as themselves
pub same-self : (bits : AtBoot) → same_bits bits bits ≡ true
same-self bits = by bits.ro bits.all where
  by : (ro all : Bool) → same_bits (record { ro = ro; all = all }) (record { ro = ro; all = all }) ≡ true
  by true true = refl
  by true false = refl
  by false true = refl
  by false false = refl

-- the locks alone store nothing
pub nothing-stored : (core : Core) → protect_operations core 6 6 ≡ []
nothing-stored core = ap (λ (same : Bool). if same || core.live.ro_now then [] else storing_operations core.flash (stored core.flash)) (same-self (stored core.flash))

pub only-locks : (core : Core) → protected 6 6 core ≡ locks_set 6 6 core
only-locks core = ap (λ (operations : List Operation). locks_set 6 6 (after_operations operations core)) (nothing-stored core)

-- a flag is no more than its mask
bit-few : (mask : ℕ) (test : Bool) → bit_if mask test ≤ mask
bit-few mask true = omega arith
bit-few mask false = omega arith

pub flags-small : (core : Core) → (protect_view core).flags < 2 ^ 32
flags-small core = omega (
  arith,
  bit-few 0x01 (stored core.flash).ro,
  bit-few 0x02 core.live.ro_now,
  bit-few 0x04 core.live.all_now,
  bit-few 0x08 core.pin,
  bit-few 0x20 core.live.pstate_bad,
  bit-few 0x40 (stored core.flash).all,
)

pub flags-are : (flags valid writable : ℕ) → flags < 2 ^ 32 → flags_told (flash_protect_say flags valid writable) ≡ Ok flags
flags-are flags valid writable small = let read : u32_at 0 (flash_protect_say flags valid writable) ≡ flags = omega (arith, small) in rw read refl

-- the controller with its locks
pub locks-reach : (setting : Setting) (core : Core) → core.live.erase ≡ None → Reaches setting (Protects setting 6) core (Ok (protect_view (protected 6 6 core)).flags) (protected 6 6 core) 42
locks-reach setting core none =
    let view = protect_view (protected 6 6 core) in
    quick-reaches setting (protect_request 6) 12 flags_told core (protected 6 6 core) (flash_protect_say view.flags view.valid view.writable) (Ok view.flags) 42 (protect-proper setting.bus 6) none
    (protect-row core (packet_limit setting.bus) 6) (flags-are view.flags view.valid view.writable (flags-small (protected 6 6 core))) (omega (arith, any-room setting.bus 16 20))

-- the controller without jumps
abbrev pub without_jumps : Core → Core
without_jumps core = record core { live = record core.live { jump_off = true } }

pub disable-reaches : (setting : Setting) (core : Core) → core.live.erase ≡ None → Reaches setting (Confirms setting (reboot_request 5)) core (Ok tt) (without_jumps core) 24
disable-reaches setting core none =
    quick-reaches setting (reboot_request 5) 0 confirmed core (without_jumps core) [] (Ok tt) 24 (disable-proper setting.bus) none (reboot-row core (packet_limit setting.bus) 5) refl (omega (arith, any-room setting.bus 10 8))
