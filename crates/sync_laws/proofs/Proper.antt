-- The sync's requests are proper: they fit any bus, and a success has as many bytes as are wanted.
use Rattle.std.proofs.Common.{◌≡◌, refl, sym, ap, ◌∙◌, ℕ, ◌-◌, ◌<◌, ◌≤◌, Bool, true, false, if◌then◌else◌, List, [], ◌∷◌, ◌++◌, length, take, replicate, Ok, arith, not}
use Rattle.std.specs.Prelude.{is_some, take_while}
use Rattle.std.proofs.lemmas.List.{length-append, length-replicate, length-take}
use Rattle.ec_types.specs.LittleEndian.{u32_bytes}
use Rattle.ec_types.specs.Tables.{packet_limit}
use Rattle.ec_types.specs.declared.bus.BusKind.{BusKind}
use Rattle.ec_types.specs.declared.bus.BusKind.TheVariants.{Lpc, I2c, Spi}
use Rattle.ec_types.specs.declared.image.ImageCopy.TheVariants.{Ro, Rw}
use Rattle.ec_model.specs.Answer.{Outcome, Answered, refused}
use Rattle.ec_model.specs.Asks.{packet_of}
use Rattle.ec_model.specs.Bodies.{version_say, flash_protect_ask, region_info_ask, reboot_ask}
use Rattle.ec_model.specs.Handle.{handled}
use Rattle.ec_model.specs.InfoRows.{is_shown, version_text, raw_version, copy_number, proto_info_row, flash_info_row, region_info_row, version_row}
use Rattle.ec_model.specs.Packet.{RequestView}
use Rattle.ec_model.specs.ProtectRow.{flash_protect_row}
use Rattle.ec_model.specs.declared.live.HashView.{HashView}
use Rattle.ec_model.specs.declared.live.HashView.TheVariants.{Idle, Busy, Done}
use Rattle.ec_model.specs.HashRow.{hash_bytes, vboot_hash_row}
use Rattle.ec_model.specs.Jump.{same_copy, is_denied, has_vector, jumped}
use Rattle.ec_model.specs.RebootRow.{jump_row, reboot_row}
use Rattle.ec_model.proofs.GuardSteps.{if_cases}
use Rattle.ec_model.specs.Rounds.{protocol_request}
use Rattle.ec_model.specs.Table.{Core, IsHashable}
use Rattle.exchange_laws.specs.Served.{is_cold}
use Rattle.exchange_laws.proofs.Spelled.{plain-spelled}
use Rattle.command_laws.specs.Commands.{Fits, IsProper}
use Rattle.command_laws.specs.Carried.{IsWanted}
use Rattle.command_laws.proofs.Answering.{IsSound, sound-valid}
use Rattle.sync_rules.specs.Requests.{version_request, flash_info_request, protect_request, region_request, hash_request, reboot_request}
use Rattle.sync_laws.proofs.Rows.{unless_pending, hash_body, limits-row, size-row, region-row, copy-row, protect-row, hash-row, reboot-row}

-- every bus carries 128 bytes
large : (bus : BusKind) → 128 ≤ packet_limit bus
large Lpc = omega arith
large I2c = omega arith
large Spi = omega arith

-- a short request fits any bus
pub fits-any : (bus : BusKind) (number version : ℕ) (body : List ℕ) → number < 65536 → length body ≤ 120 → is_cold (Ok (record { command = number; version = version; body = body })) ≡ false →
    Fits bus (record { command = number; version = version; body = body })
fits-any bus number version body small short other = record {
  plain = plain-spelled number version body small (omega (arith, short)) other;
  short = omega (arith, short, large bus);
}

-- an answer that is a success has so many bytes
abbrev pub HasLength : ℕ → Outcome → Type 0
HasLength want outcome = (after : Core) (body : List ℕ) → outcome ≡ Answered after 0 body → length body ≡ want

told-length : (want : ℕ) (core : Core) (bytes : List ℕ) → length bytes ≡ want → HasLength want (Answered core 0 bytes)
told-length want core bytes long after body same = let bytes_are : body ≡ bytes = cc in ap (λ (xs : List ℕ). length xs) bytes_are ∙ long

-- a refusal while an erase is pending is none
pending-by : (want : ℕ) (core : Core) (outcome : Outcome) (pending : Bool) → HasLength want outcome → HasLength want (if pending then refused core 16 else outcome)
pending-by want core outcome true long after body same = absurd (let never : ◌≡◌ {A = ℕ} 16 0 = cc in omega (arith, never))
pending-by want core outcome false long after body same = long after body same

pub wanted-of : (bus : BusKind) (request : RequestView) (want : ℕ) (rows : Core → ℕ → Outcome) → ((core : Core) (limit : ℕ) → handled core limit (packet_of request) ≡ unless_pending core (rows core limit)) →
    ((core : Core) (limit : ℕ) → HasLength want (rows core limit)) → IsWanted bus request want
wanted-of bus request want rows is long core after state body valid kind comes =
    pending-by want core (rows core (packet_limit bus)) (is_some core.live.erase) (long core (packet_limit bus)) after body (sym (is core (packet_limit bus)) ∙ comes)

-- GET_PROTOCOL_INFO
pub limits-proper : (bus : BusKind) → IsProper bus protocol_request 12
limits-proper bus = record {
  fits = fits-any bus 0x0B 0 [] (omega arith) (omega arith) refl;
  number = omega arith;
  body = omega arith;
  steady = refl;
  wanted = wanted-of bus protocol_request 12 proto_info_row limits-row (λ core limit. told-length 12 core _ refl);
}

-- FLASH_INFO
pub size-proper : (bus : BusKind) → IsProper bus flash_info_request 24
size-proper bus = record {
  fits = fits-any bus 0x10 1 [] (omega arith) (omega arith) refl;
  number = omega arith;
  body = omega arith;
  steady = refl;
  wanted = wanted-of bus flash_info_request 24 (λ core limit. flash_info_row core 1) size-row (λ core limit. told-length 24 core _ refl);
}

-- FLASH_REGION_INFO
pub region-proper : (bus : BusKind) → IsProper bus region_request 8
region-proper bus = record {
  fits = fits-any bus 0x16 1 (region_info_ask 1) (omega arith) (omega arith) refl;
  number = omega arith;
  body = omega arith;
  steady = refl;
  wanted = wanted-of bus region_request 8 (λ core limit. region_info_row core (region_info_ask 1)) region-row (λ core limit. told-length 8 core _ refl);
}

-- GET_VERSION
pub version-length : (raw : List ℕ) → length (version_text raw) ≡ 32
version-length raw =
    let shown = take 31 (take_while is_shown raw) in
    omega (arith, length-take 31 (take_while is_shown raw), length-append shown (replicate (32 - length shown) 0), length-replicate {A = ℕ} (32 - length shown) 0)

pub versions-length : (ro rw_version : List ℕ) (current : ℕ) → length (version_say (version_text ro) (version_text rw_version) (replicate 32 0) current) ≡ 100
versions-length ro rw_version current =
    let one = version_text ro in
    let two = version_text rw_version in
    omega (arith, version-length ro, version-length rw_version, length-append ((one ++ two) ++ replicate 32 0) (u32_bytes current), length-append (one ++ two) (replicate 32 0), length-append one two, length-replicate {A = ℕ} 32 0)

pub copy-proper : (bus : BusKind) → IsProper bus version_request 100
copy-proper bus = record {
  fits = fits-any bus 2 0 [] (omega arith) (omega arith) refl;
  number = omega arith;
  body = omega arith;
  steady = refl;
  wanted = wanted-of bus version_request 100 (λ core limit. version_row core) copy-row (λ core limit. told-length 100 core _ (versions-length (raw_version Ro core.flash) (raw_version Rw core.flash) (copy_number core.live.copy)));
}

-- FLASH_PROTECT
pub protect-proper : (bus : BusKind) (bits : ℕ) → IsProper bus (protect_request bits) 12
protect-proper bus bits = record {
  fits = fits-any bus 0x15 1 (flash_protect_ask bits bits) (omega arith) (omega arith) refl;
  number = omega arith;
  body = omega arith;
  steady = refl;
  wanted = wanted-of bus (protect_request bits) 12 (λ core limit. flash_protect_row core (flash_protect_ask bits bits)) (λ core limit. protect-row core limit bits) (λ core limit. told-length 12 _ _ refl);
}

-- VBOOT_HASH START
pub start-proper : (bus : BusKind) → IsProper bus (hash_request 2) 76
start-proper bus = record {
  fits = fits-any bus 0x2A 0 (hash_body 2) (omega arith) (omega arith) refl;
  number = omega arith;
  body = omega arith;
  steady = refl;
  wanted = wanted-of bus (hash_request 2) 76 (λ core limit. vboot_hash_row core (hash_body 2)) (λ core limit. hash-row core limit 2) (λ core limit. told-length 76 _ _ refl);
}

-- what shows a hash
pub shown-length : (size : ℕ) (hash : HashView) (nonce : List ℕ) → IsHashable size hash nonce → length (hash_bytes hash) ≡ 76
shown-length size Idle nonce hashable = refl
shown-length size (Busy at count left) nonce hashable = refl
shown-length size (Done at count digest) nonce hashable =
    let body = digest ++ replicate 32 0 in
    omega (arith, hashable.2, length-append digest (replicate 32 0), length-append ((1 ∷ 0 ∷ 32 ∷ 0 ∷ []) ++ u32_bytes at ++ u32_bytes count) body)

-- VBOOT_HASH GET
pub look-proper : (bus : BusKind) → IsProper bus (hash_request 0) 76
look-proper bus = record {
  fits = fits-any bus 0x2A 0 (hash_body 0) (omega arith) (omega arith) refl;
  number = omega arith;
  body = omega arith;
  steady = refl;
  wanted = λ core after state body valid kind comes.
      let sound : IsSound bus core = record { state = state; valid = valid; kind_is = kind } in
      pending-by 76 core (vboot_hash_row core (hash_body 0)) (is_some core.live.erase) (told-length 76 core (hash_bytes core.live.hash) (shown-length (length core.flash) core.live.hash core.nonce (sound-valid bus core sound).hash)) after body (sym (hash-row core (packet_limit bus) 0) ∙ comes);
}

-- REBOOT_EC DISABLE_JUMP
pub disable-proper : (bus : BusKind) → IsProper bus (reboot_request 5) 0
disable-proper bus = record {
  fits = fits-any bus 0xD2 0 (reboot_ask 5 0) (omega arith) (omega arith) refl;
  number = omega arith;
  body = omega arith;
  steady = refl;
  wanted = wanted-of bus (reboot_request 5) 0 (λ core limit. reboot_row core (reboot_ask 5 0)) (λ core limit. reboot-row core limit 5) (λ core limit. told-length 0 _ [] refl);
}

-- REBOOT_EC JUMP_RW
empty-length : (core : Core) (status : ℕ) → HasLength 0 (Answered core status [])
empty-length core status after body same = let none : body ≡ [] = cc in ap (λ (bytes : List ℕ). length bytes) none

jump-length : (core : Core) → HasLength 0 (jump_row Rw core)
jump-length core =
    if_cases (HasLength 0) (same_copy Rw core.live.copy) _ _ (λ runs. empty-length core 0)
    (λ other. if_cases (HasLength 0) (is_denied core Rw) _ _ (λ denied. empty-length core 4)
    (λ granted. if_cases (HasLength 0) (not (has_vector core.flash Rw)) _ _ (λ outside. empty-length core 2) (λ inside. empty-length (jumped Rw core) 0)))

pub jump-proper : (bus : BusKind) → IsProper bus (reboot_request 2) 0
jump-proper bus = record {
  fits = fits-any bus 0xD2 0 (reboot_ask 2 0) (omega arith) (omega arith) refl;
  number = omega arith;
  body = omega arith;
  steady = refl;
  wanted = wanted-of bus (reboot_request 2) 0 (λ core limit. reboot_row core (reboot_ask 2 0)) (λ core limit. reboot-row core limit 2) (λ core limit. jump-length core);
}
