-- The commands that tell what is so.
use Rattle.std.specs.Prelude.{ℕ, ◌+◌, ◌-◌, ◌%◌, ◌^◌, Bool, not, ◌&&◌, ◌==◌, nat_lt, nat_le, min, if◌then◌else◌, List, [], ◌++◌, length, take, drop, replicate, take_while, slice_index, Option, Some, None, is_some, codes}
use Rattle.ec_types.specs.LittleEndian.{u16_at, u32_at, bit_if}
use Rattle.ec_types.specs.declared.image.ImageCopy.{ImageCopy}
use Rattle.ec_types.specs.declared.image.ImageCopy.TheVariants.{Ro, Rw}
use Rattle.flash_dev.specs.Flash.{block_size}
use Rattle.ec_model.specs.Ranges.{Range, copy_range, part, region_range}
use Rattle.ec_model.specs.Bodies.{proto_say, hello_say, version_say, chip_say, cmd_versions_say, comms_say, test_say, proto_info_say, flash_info_say0, flash_info_say1, region_info_say, sysinfo_say}
use Rattle.ec_model.specs.Commands.{known}
use Rattle.ec_model.specs.Table.{Core}
use Rattle.ec_model.specs.Jump.{is_locked}
use Rattle.ec_model.specs.Answer.{Outcome, Answered, refused, told}

-- bytes, padded with zeros
abbrev pub zero_padded : ℕ → List ℕ → List ℕ
zero_padded size bytes = bytes ++ replicate (size - length bytes) 0

-- whether a byte is shown in a version
abbrev pub is_shown : ℕ → Bool
is_shown byte = nat_le 0x20 byte && nat_le byte 0x7E

-- a version as it is told: its bytes before the first that is not shown, at most 31, and then zeros
abbrev pub version_text : List ℕ → List ℕ
version_text raw = zero_padded 32 (take 31 (take_while is_shown raw))

-- the version in an image's head
abbrev pub raw_version : ImageCopy → List ℕ → List ℕ
raw_version copy flash = part (record { at = (copy_range copy (length flash)).at + 8; size = 32 }) flash

-- an image, as a number
abbrev pub copy_number : ImageCopy → ℕ
copy_number Ro = 1
copy_number Rw = 2

-- PROTO_VERSION
abbrev pub proto_row : Core → Outcome
proto_row core = told core (proto_say 2)

-- HELLO
abbrev pub hello_row : Core → List ℕ → Outcome
hello_row core body = told core (hello_say ((u32_at 0 body + 0x01020304) % 2 ^ 32))

-- GET_VERSION
abbrev pub version_row : Core → Outcome
version_row core =
    told core (version_say (version_text (raw_version Ro core.flash)) (version_text (raw_version Rw core.flash))
    (replicate 32 0) (copy_number core.live.copy))

-- GET_CHIP_INFO
abbrev pub chip_row : Core → Outcome
chip_row core =
    told core (chip_say (zero_padded 32 (codes "bench")) (zero_padded 32 (codes "ecbench")) (zero_padded 32 (codes "1")))

-- the answer with a mask, if there is one
abbrev pub mask_told : Core → Option ℕ → Outcome
mask_told core None = refused core 3
mask_told core (Some mask) = told core (cmd_versions_say mask)

-- GET_CMD_VERSIONS
abbrev pub cmd_versions_row : Core → ℕ → List ℕ → Outcome
cmd_versions_row core version body = mask_told core (known (if version == 0 then slice_index body 0 else u16_at 0 body))

-- GET_COMMS_STATUS
abbrev pub comms_row : Core → Outcome
comms_row core = told core (comms_say (bit_if 0x01 (is_some core.live.erase)))

-- TEST_PROTOCOL
abbrev pub test_row : Core → List ℕ → Outcome
test_row core body =
    if nat_lt 20 (u32_at 0 body) then refused core 3 else
    if u32_at 0 body == 0 then told core (test_say (take (min (u32_at 4 body) 32) (drop 8 body))) else
    refused core (u32_at 0 body)

-- GET_PROTOCOL_INFO
abbrev pub proto_info_row : Core → ℕ → Outcome
proto_info_row core limit = told core (proto_info_say 8 limit limit 1)

-- FLASH_INFO
abbrev pub flash_info_row : Core → ℕ → Outcome
flash_info_row core version =
    told core (if version == 0
    then flash_info_say0 (length core.flash) 4 block_size block_size
    else flash_info_say1 (length core.flash) 4 block_size block_size 64 0)

-- the answer with a range, if there is one
abbrev pub range_told : Core → Option Range → Outcome
range_told core None = refused core 3
range_told core (Some range) = told core (region_info_say range.at range.size)

-- FLASH_REGION_INFO
abbrev pub region_info_row : Core → List ℕ → Outcome
region_info_row core body = range_told core (region_range (u32_at 0 body) (length core.flash))

-- SYSINFO
abbrev pub sysinfo_row : Core → Outcome
sysinfo_row core =
    told core (sysinfo_say core.live.flags (copy_number core.live.copy)
    (bit_if 0x01 (is_locked core) + bit_if 0x04 (not core.live.jump_off) + bit_if 0x08 core.live.jumped))

-- RESEND_RESPONSE
abbrev pub resend_row : Core → Outcome
resend_row core = Answered (record core { live = record core.live { saved = 9 } }) core.live.saved []
