-- The requests of a sync, but for GET_PROTOCOL_INFO and those of a restart.
use Rattle.std.specs.Prelude.{ℕ, List, [], replicate}
use Rattle.ec_model.specs.Bodies.{flash_erase_ask, flash_write_ask, flash_protect_ask, region_info_ask, vboot_hash_ask, reboot_ask}
use Rattle.ec_model.specs.Packet.{RequestView}
use Rattle.ec_model.specs.Ranges.{Range}

-- GET_VERSION
abbrev pub version_request : RequestView
version_request = record { command = 0x0002; version = 0; body = [] }

-- FLASH_INFO
abbrev pub flash_info_request : RequestView
flash_info_request = record { command = 0x0010; version = 1; body = [] }

-- FLASH_WRITE
abbrev pub write_request : ℕ → List ℕ → RequestView
write_request at bytes = record { command = 0x0012; version = 1; body = flash_write_ask at bytes }

-- FLASH_ERASE
abbrev pub erase_request : Range → RequestView
erase_request range = record { command = 0x0013; version = 0; body = flash_erase_ask range.at range.size }

-- FLASH_PROTECT, which sets these bits
abbrev pub protect_request : ℕ → RequestView
protect_request bits = record { command = 0x0015; version = 1; body = flash_protect_ask bits bits }

-- FLASH_REGION_INFO of the active region
abbrev pub region_request : RequestView
region_request = record { command = 0x0016; version = 1; body = region_info_ask 1 }

-- VBOOT_HASH: the hash of RW is started, or shown
abbrev pub hash_request : ℕ → RequestView
hash_request cmd = record { command = 0x002A; version = 0; body = vboot_hash_ask cmd 0 0 0 0xFFFFFFFD 0 (replicate 64 0) }

-- REBOOT_EC
abbrev pub reboot_request : ℕ → RequestView
reboot_request cmd = record { command = 0x00D2; version = 0; body = reboot_ask cmd 0 }
