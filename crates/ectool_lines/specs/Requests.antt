-- The commands that a line sends.
use Rattle.std.specs.Prelude.{ℕ, zero, suc, ◌+◌, ◌-◌, ◌*◌, ◌/◌, ◌%◌, ◌^◌, Bool, ◌&&◌, ◌==◌, min, if◌then◌else◌, List, [], ◌∷◌, ◌++◌, length, take, drop}
use Rattle.ec_model.specs.Packet.{RequestView, request_packet}
use Rattle.exchange_laws.specs.Served.{is_cold_body}
use Rattle.command_laws.specs.Carried.{tells_any}
use Rattle.flash_dev.specs.declared.geometry.Region.{Region}
use Rattle.flash_dev.specs.declared.geometry.Region.TheVariants.{Ro, Active, WpRo, Update}
use Rattle.ec_types.specs.declared.image.ImageCopy.{ImageCopy}
use Rattle.ec_types.specs.declared.image.ImageCopy.TheVariants as copy
use Rattle.ec_model.specs.Bodies.{hello_ask, cmd_versions_ask1, region_info_ask, test_ask, flash_read_ask, flash_write_ask, flash_erase_ask, flash_protect_ask, vboot_hash_ask, reboot_ask}
use Rattle.ec_model.specs.InfoRows.{zero_padded}
use Rattle.ectool_lines.specs.declared.tool.Tool.{Tool}
use Rattle.ectool_lines.specs.declared.tool.Tool.TheVariants.{Hello, Version, ChipInfo, CmdVersions, ProtoInfo, FlashInfo, RegionInfo, FlashRead, FlashWrite, FlashErase, FlashProtect, Hash, HashAbort, HashStart, HashRange, Sysinfo, Reboot, RebootCold, Test, Resend}

-- a command as it is sent: its number, its version, its body, and how many bytes a reply has that is a success
pub record Asked : Type 0 where
  pub command : ℕ
  pub version : ℕ
  pub body : List ℕ
  pub want : ℕ

-- how a command goes: it is sent once; or it restarts the controller; or it is tried, up to three times
pub data Way : Type 0 where
  Once Restart Try : Way

-- whether a command is a COLD
abbrev pub is_cold : Asked → Bool
is_cold asked = (asked.command == 0xD2) && is_cold_body asked.body

-- TEST_PROTOCOL and RESEND_RESPONSE are sent once, a COLD restarts the controller, and any other command is tried
abbrev pub way_of : Asked → Way
way_of asked = if tells_any asked.command then Once else if is_cold asked then Restart else Try

-- the request of a command
abbrev pub request_of : Asked → RequestView
request_of asked = record { command = asked.command; version = asked.version; body = asked.body }

-- the packet that sends a command
abbrev pub packet_of : Asked → List ℕ
packet_of asked = request_packet asked.command asked.version asked.body

-- f 0, f 1 and so on, so many of them
abbrev pub first_of : {T : Type 0} → ℕ → (ℕ → T) → List T
first_of zero f = []
first_of (suc count) f = first_of count f ++ f count ∷ []

-- in how many parts so many bytes go, with at most so many in each; no bytes go in one
abbrev pub parts_of : (most size : ℕ) → ℕ
parts_of most size = if size == 0 then 1 else (size - 1) / most + 1

-- HELLO with the host's number
abbrev pub hello_command : Asked
hello_command = record { command = 0x01; version = 0; body = hello_ask 0xA0B0C0D0; want = 4 }

-- FLASH_READ of so many bytes from a place on, which is taken modulo 2 ^ 32
abbrev pub read_command : (at size : ℕ) → Asked
read_command at size = record { command = 0x11; version = 0; body = flash_read_ask (at % 2 ^ 32) size; want = size }

-- FLASH_WRITE of these bytes from a place on, which is taken modulo 2 ^ 32
abbrev pub write_command : (at : ℕ) (bytes : List ℕ) → Asked
write_command at bytes = record { command = 0x12; version = 1; body = flash_write_ask (at % 2 ^ 32) bytes; want = 0 }

-- a command without a body
abbrev pub question : (command version want : ℕ) → Asked
question command version want = record { command = command; version = version; body = []; want = want }

-- a region by its number
abbrev pub region_number : Region → ℕ
region_number Ro = 0
region_number Active = 1
region_number WpRo = 2
region_number Update = 3

-- TEST_PROTOCOL with these bytes, padded with zeros, for a reply of so many of them
abbrev pub test_command : (ec_result ret_len : ℕ) (bytes : List ℕ) → Asked
test_command ec_result ret_len bytes =
    record { command = 0x0A; version = 0; body = test_ask ec_result ret_len (zero_padded 32 bytes); want = ret_len }

-- the offset by which VBOOT_HASH names an image
abbrev pub image_offset : ImageCopy → ℕ
image_offset copy.Ro = 0xFFFFFFFE
image_offset copy.Rw = 0xFFFFFFFD

-- VBOOT_HASH with this cmd, on a range and behind a nonce, which is padded with zeros; its type and what is reserved are zero
abbrev pub hash_command : (cmd offset size : ℕ) (nonce : List ℕ) (want : ℕ) → Asked
hash_command cmd offset size nonce want = record {
  command = 0x2A;
  version = 0;
  body = vboot_hash_ask cmd 0 (length nonce) 0 offset size (zero_padded 64 nonce);
  want = want;
}

-- a hash of this range is started, behind a nonce
abbrev pub hash_start_command : (offset size : ℕ) (nonce : List ℕ) → Asked
hash_start_command offset size nonce = hash_command 2 offset size nonce 76

-- a COLD
abbrev pub cold_command : Asked
cold_command = record { command = 0xD2; version = 0; body = reboot_ask 4 0; want = 0 }

-- a COLD, and then SYSINFO
abbrev pub restart_command : (k : ℕ) → Asked
restart_command zero = cold_command
restart_command (suc k) = question 0x1C 0 12

-- how many commands a line sends on a bus with this packet limit
abbrev pub count_of : (limit : ℕ) → Tool → ℕ
count_of limit (FlashRead at size) = parts_of (limit - 8) size
count_of limit (FlashWrite at bytes) = parts_of (limit - 16) (length bytes)
count_of limit RebootCold = 2
count_of limit other = 1

-- command k of a line, counted from 0: part k of what is read or written
abbrev pub command_of : (limit : ℕ) → Tool → (k : ℕ) → Asked
command_of limit Hello k = hello_command
command_of limit Version k = question 0x02 0 100
command_of limit ChipInfo k = question 0x05 0 96
command_of limit (CmdVersions number) k = record { command = 0x08; version = 1; body = cmd_versions_ask1 number; want = 4 }
command_of limit ProtoInfo k = question 0x0B 0 12
command_of limit FlashInfo k = question 0x10 1 24
command_of limit (RegionInfo region) k =
    record { command = 0x16; version = 1; body = region_info_ask (region_number region); want = 8 }
command_of limit (FlashErase at size) k = record { command = 0x13; version = 0; body = flash_erase_ask at size; want = 0 }
command_of limit (FlashProtect mask flags) k =
    record { command = 0x15; version = 1; body = flash_protect_ask mask flags; want = 12 }
command_of limit Hash k = hash_command 0 0 0 [] 76
command_of limit HashAbort k = hash_command 1 0 0 [] 0
command_of limit (HashStart image nonce) k = hash_start_command (image_offset image) 0 nonce
command_of limit (HashRange at size) k = hash_start_command at size []
command_of limit Sysinfo k = question 0x1C 0 12
command_of limit (Reboot cmd) k = record { command = 0xD2; version = 0; body = reboot_ask cmd 0; want = 0 }
command_of limit RebootCold k = restart_command k
command_of limit (Test ec_result ret_len bytes) k = test_command ec_result ret_len bytes
command_of limit Resend k = question 0xDB 0 0
command_of limit (FlashRead at size) k =
    read_command (at + k * (limit - 8)) (min (limit - 8) (size - k * (limit - 8)))
command_of limit (FlashWrite at bytes) k =
    write_command (at + k * (limit - 16)) (take (limit - 16) (drop (k * (limit - 16)) bytes))

-- the commands of a line, in their order
abbrev pub commands_of : (limit : ℕ) → Tool → List Asked
commands_of limit tool = first_of (count_of limit tool) (command_of limit tool)
