-- Whole exchanges on I2C as the host sees them.
use Rattle.std.specs.Prelude.{ℕ, List, [], ◌∷◌, ◌++◌, map, length, slice_index}
use Rattle.ec_model.specs.declared.event.Access.TheVariants.{I2cStartWrite, I2cStartRead, I2cWrite, I2cRead, I2cStop}
use Rattle.ec_model.specs.declared.event.Event.TheVariants.{Access}
use Rattle.ec_model.specs.declared.event.Entry.{Entry}
use Rattle.ec_model.specs.declared.event.Entry.TheVariants.{Step}
use Rattle.flash_dev.specs.declared.hurt.Hurt.TheVariants.{Whole}
use Rattle.ec_examples.specs.Entries.{plain}

-- a stop, which brings I2C to rest
abbrev pub stopped : ℕ → List Entry
stopped answer = plain (Access I2cStop) answer ∷ []

-- a packet that is sent on I2C, and its response
abbrev pub i2c_exchange : (request response : List ℕ) → List Entry
i2c_exchange request response =
    plain (Access I2cStartWrite) 0 ∷ [] ++ map (λ byte. plain (Access (I2cWrite byte)) 0) (0xDA ∷ request)
    ++ plain (Access I2cStartRead) 0 ∷ plain (Access I2cRead) (slice_index response 2) ∷ plain (Access I2cRead) (length response) ∷ []
    ++ map (λ byte. plain (Access I2cRead) byte) response ++ stopped 0

-- GET_PROTOCOL_INFO, and its response: versions 8, packets of 128 bytes each way, and flags 1
abbrev pub protocol_request : List ℕ
protocol_request = 0x03 ∷ 0xF2 ∷ 0x0B ∷ 0x00 ∷ 0x00 ∷ 0x00 ∷ 0x00 ∷ 0x00 ∷ []

abbrev pub protocol_response : List ℕ
protocol_response =
    0x03 ∷ 0xE8 ∷ 0x00 ∷ 0x00 ∷ 0x0C ∷ 0x00 ∷ 0x00 ∷ 0x00 ∷ 0x08 ∷ 0x00 ∷ 0x00 ∷ 0x00 ∷ 0x80 ∷ 0x00 ∷ 0x80 ∷ 0x00 ∷ 0x01 ∷ 0x00 ∷ 0x00 ∷ 0x00 ∷ []

-- a round that ends behind its first command
abbrev pub short_round : List Entry
short_round = stopped 0 ++ i2c_exchange protocol_request protocol_response

-- FLASH_INFO version 1, and its response
abbrev pub info_request : List ℕ
info_request = 0x03 ∷ 0xEC ∷ 0x10 ∷ 0x00 ∷ 0x01 ∷ 0x00 ∷ 0x00 ∷ 0x00 ∷ []

abbrev pub info_response : List ℕ
info_response =
    0x03 ∷ 0x80 ∷ 0x00 ∷ 0x00 ∷ 0x18 ∷ 0x00 ∷ 0x00 ∷ 0x00 ∷ 0 ∷ 0 ∷ 1 ∷ 0 ∷ 4 ∷ 0 ∷ 0 ∷ 0 ∷ 0 ∷ 0x10 ∷ 0 ∷ 0 ∷ 0 ∷ 0x10 ∷ 0 ∷ 0 ∷ 64 ∷ 0 ∷ 0 ∷ 0 ∷ 0 ∷ 0 ∷ 0 ∷ 0 ∷ []

-- a start that is seen as not taken, since its 0 arrives as 5, and the stop behind it
abbrev pub untaken : List Entry
untaken = Step (Access I2cStartWrite) 0 0 5 Whole ∷ stopped 0

-- a round that goes on with FLASH_INFO, whose first start is seen so
abbrev pub tried_round : List Entry
tried_round = short_round ++ (untaken ++ i2c_exchange info_request info_response)
