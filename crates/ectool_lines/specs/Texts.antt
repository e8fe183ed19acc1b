-- The texts that lines print.
use Rattle.std.specs.Prelude.{ℕ, ◌==◌, if◌then◌else◌, List, [], ◌∷◌, ◌++◌, length, take, drop, slice_index, codes}
pub use Rattle.bench_io.specs.Texts.{printed, hex_text, field_text}
use Rattle.ec_types.specs.LittleEndian.{u16_at, u32_at}
use Rattle.std.specs.Fmt.{decimal}
use Rattle.hex.specs.Hex.{encode_lower}
use Rattle.ec_types.specs.Tables.{status_name}
use Rattle.ec_model.specs.Tries.{Said, Answered, SaidNoPower, SaidUpset, SaidShort}
use Rattle.ectool_lines.specs.declared.tool.Tool.{Tool}
use Rattle.ectool_lines.specs.declared.tool.Tool.TheVariants.{Hello, Version, ChipInfo, CmdVersions, ProtoInfo, FlashInfo, RegionInfo, FlashRead, FlashWrite, FlashErase, FlashProtect, Hash, HashAbort, HashStart, HashRange, Sysinfo, Reboot, RebootCold, Test, Resend}

-- a status by its number and its name
abbrev pub status_text : ℕ → List ℕ
status_text status = codes "EC result " ++ decimal status ++ codes " (" ++ status_name status ++ codes ")"

-- what is printed where a command was no success
abbrev pub refusal_text : Said → List ℕ
refusal_text (Answered status body) = status_text status
refusal_text SaidNoPower = codes "EC has no power"
refusal_text SaidUpset = codes "EC did not answer"
refusal_text SaidShort = codes "EC did not answer"

-- an image by its number: 1 is RO, and any other one RW
abbrev pub image_text : ℕ → List ℕ
image_text current = if current == 1 then codes "RO" else codes "RW"

-- GET_VERSION's reply, on three lines
abbrev pub version_text : (ro rw_version : List ℕ) (current : ℕ) → List ℕ
version_text ro rw_version current =
    codes "RO version:    " ++ field_text ro ++ codes "\nRW version:    " ++ field_text rw_version
    ++ codes "\nFirmware copy: " ++ image_text current

-- GET_CHIP_INFO's reply
abbrev pub chip_text : (vendor name revision : List ℕ) → List ℕ
chip_text vendor name revision =
    codes "vendor " ++ field_text vendor ++ codes " name " ++ field_text name ++ codes " revision " ++ field_text revision

-- GET_PROTOCOL_INFO's reply
abbrev pub proto_info_text : (versions max_request max_response flags : ℕ) → List ℕ
proto_info_text versions max_request max_response flags =
    codes "versions " ++ hex_text versions ++ codes " request " ++ decimal max_request
    ++ codes " response " ++ decimal max_response ++ codes " flags " ++ hex_text flags

-- FLASH_INFO's reply of version 1
abbrev pub flash_info_text : (size write erase protect ideal flags : ℕ) → List ℕ
flash_info_text size write erase protect ideal flags =
    codes "size " ++ decimal size ++ codes " write " ++ decimal write ++ codes " erase " ++ decimal erase
    ++ codes " protect " ++ decimal protect ++ codes " ideal " ++ decimal ideal ++ codes " flags " ++ hex_text flags

-- FLASH_PROTECT's reply
abbrev pub protection_text : (flags valid writable : ℕ) → List ℕ
protection_text flags valid writable =
    codes "flags " ++ hex_text flags ++ codes " valid " ++ hex_text valid ++ codes " writable " ++ hex_text writable

-- VBOOT_HASH's reply, by its status: 1 is done, 2 busy, and any other one none
abbrev pub hash_text : (status offset size : ℕ) (digest : List ℕ) → List ℕ
hash_text status offset size digest =
    if status == 1
    then codes "hash done offset " ++ decimal offset ++ codes " size " ++ decimal size ++ codes " sha256 " ++ encode_lower (take 32 digest) else
    if status == 2 then codes "hash busy" else codes "hash none"

-- the same by the columns of the reply
abbrev pub hash_reply : List ℕ → List ℕ
hash_reply body = hash_text (slice_index body 0) (u32_at 4 body) (u32_at 8 body) (drop 12 body)

-- SYSINFO's reply, on three lines
abbrev pub sysinfo_text : (reset_flags current flags : ℕ) → List ℕ
sysinfo_text reset_flags current flags =
    codes "reset flags " ++ hex_text reset_flags ++ codes "\ncopy " ++ image_text current ++ codes "\nflags " ++ hex_text flags

-- behind a restart, which has no reply, SYSINFO's reply on one line
abbrev pub restart_text : List ℕ → List ℕ
restart_text [] = []
restart_text (byte ∷ body) = codes "reset flags " ++ hex_text (u32_at 0 (byte ∷ body))

-- what the reply to one of its commands gives to a line's text
abbrev pub reply_text : Tool → List ℕ → List ℕ
reply_text Hello body = []
reply_text Version body = version_text (take 32 body) (take 32 (drop 32 body)) (u32_at 96 body)
reply_text ChipInfo body = chip_text (take 32 body) (take 32 (drop 32 body)) (take 32 (drop 64 body))
reply_text (CmdVersions number) body = codes "versions " ++ hex_text (u32_at 0 body)
reply_text ProtoInfo body = proto_info_text (u32_at 0 body) (u16_at 4 body) (u16_at 6 body) (u32_at 8 body)
reply_text FlashInfo body =
    flash_info_text (u32_at 0 body) (u32_at 4 body) (u32_at 8 body) (u32_at 12 body) (u32_at 16 body) (u32_at 20 body)
reply_text (RegionInfo region) body =
    codes "offset " ++ decimal (u32_at 0 body) ++ codes " size " ++ decimal (u32_at 4 body)
reply_text (FlashRead at size) body = encode_lower body
reply_text (FlashWrite at bytes) body = []
reply_text (FlashErase at size) body = []
reply_text (FlashProtect mask flags) body = protection_text (u32_at 0 body) (u32_at 4 body) (u32_at 8 body)
reply_text Hash body = hash_reply body
reply_text HashAbort body = []
reply_text (HashStart image nonce) body = hash_reply body
reply_text (HashRange at size) body = hash_reply body
reply_text Sysinfo body = sysinfo_text (u32_at 0 body) (u32_at 4 body) (u32_at 8 body)
reply_text (Reboot cmd) body = []
reply_text RebootCold body = restart_text body
reply_text (Test ec_result ret_len bytes) body = encode_lower body
reply_text Resend body = []

-- what all the replies give, in their order
abbrev pub replies_text : Tool → List (List ℕ) → List ℕ
replies_text tool [] = []
replies_text tool (body ∷ bodies) = reply_text tool body ++ replies_text tool bodies

-- how the text of a line ends that was a success
abbrev pub closing_text : Tool → List ℕ
closing_text Hello = codes "EC says hello!"
closing_text (FlashWrite at bytes) = codes "wrote " ++ decimal (length bytes) ++ codes " bytes"
closing_text (FlashErase at size) = codes "erased " ++ decimal size ++ codes " bytes"
closing_text HashAbort = codes "ok"
closing_text (Reboot cmd) = codes "ok"
closing_text Resend = codes "ok"
closing_text other = []

-- how the commands of a line ended: all in success, with these bodies of their replies; or one of them not
pub data LineEnd : Type 0 where
  Succeeded : List (List ℕ) → LineEnd
  Stopped : Said → LineEnd

-- the text of a line
abbrev pub line_text : Tool → LineEnd → List ℕ
line_text tool (Succeeded bodies) = replies_text tool bodies ++ closing_text tool
line_text tool (Stopped said) = refusal_text said
