-- The entries of a HELLO on each bus, and of a COLD.
use Rattle.std.specs.Prelude.{ℕ, List, [], ◌∷◌, ◌++◌, take, map, replicate}
use Rattle.ec_types.specs.declared.bus.BusKind.TheVariants.{Lpc, I2c, Spi}
use Rattle.ec_model.specs.declared.event.Access.TheVariants.{PortIn, I2cStartWrite, I2cStartRead, I2cWrite, I2cRead, I2cStop, SpiSelect, SpiByte, SpiDeselect}
use Rattle.ec_model.specs.declared.event.WorldReset.TheVariants.{Pin}
use Rattle.ec_model.specs.declared.event.Event.{Event}
use Rattle.ec_model.specs.declared.event.Event.TheVariants.{Access, Tick, Reset}
use Rattle.ec_model.specs.declared.event.Entry.{Entry}
use Rattle.ec_model.specs.declared.event.Entry.TheVariants.{Step}
use Rattle.flash_dev.specs.declared.hurt.Hurt.TheVariants.{Whole}
use Rattle.ec_examples.specs.Events.{powered, port_outs, port_ins, spi_bytes}
use Rattle.ec_examples.specs.Entries.{plain, entries_of, lpc_asked, lpc_exchange, waited, read_ports}

-- HELLO with 0xA0B0C0D0
abbrev pub hello_request : List ℕ
hello_request = 0x03 ∷ 0x18 ∷ 0x01 ∷ 0x00 ∷ 0x00 ∷ 0x00 ∷ 0x04 ∷ 0x00 ∷ 0xD0 ∷ 0xC0 ∷ 0xB0 ∷ 0xA0 ∷ []

-- its response
abbrev pub hello_response : List ℕ
hello_response = 0x03 ∷ 0x0F ∷ 0x00 ∷ 0x00 ∷ 0x04 ∷ 0x00 ∷ 0x00 ∷ 0x00 ∷ 0xD4 ∷ 0xC3 ∷ 0xB2 ∷ 0xA1 ∷ []

-- a reset by its pin
abbrev pub reset_event : Event
reset_event = Reset Pin

-- the request, up to the command byte
abbrev pub lpc_written : List Event
lpc_written = Access (PortIn 0x204) ∷ [] ++ port_outs 0x800 hello_request ++ port_outs 0x204 (0xDA ∷ [])

-- the request, up to its last byte
abbrev pub i2c_written : List Event
i2c_written = Access I2cStartWrite ∷ [] ++ map (λ byte. Access (I2cWrite byte)) (0xDA ∷ hello_request)

abbrev pub hello_lpc : List ℕ → List Entry
hello_lpc flash =
    entries_of (powered flash Lpc) (lpc_written ++ Tick ∷ Access (PortIn 0x204) ∷ Access (PortIn 0x200) ∷ [] ++ port_ins 0x800 12)

abbrev pub hello_i2c : List ℕ → List Entry
hello_i2c flash = entries_of (powered flash I2c) (i2c_written ++ Access I2cStartRead ∷ [] ++ replicate 14 (Access I2cRead) ++ Access I2cStop ∷ [])

abbrev pub hello_spi : List ℕ → List Entry
hello_spi flash =
    entries_of (powered flash Spi) (Access SpiSelect ∷ [] ++ spi_bytes hello_request ++ spi_bytes (0 ∷ []) ++ Tick ∷ [] ++ spi_bytes (replicate 13 0)
    ++ Access SpiDeselect ∷ [])

-- a reset behind the command byte
abbrev pub reset_lpc : List ℕ → List Entry
reset_lpc flash =
    entries_of (powered flash Lpc) (lpc_written ++ reset_event ∷ Tick ∷ Access (PortIn 0x204) ∷ Access (PortIn 0x200) ∷ [] ++ port_ins 0x800 8)

-- a reset before the read
abbrev pub reset_i2c : List ℕ → List Entry
reset_i2c flash =
    entries_of (powered flash I2c) (i2c_written ++ reset_event ∷ Access I2cStartRead ∷ Access I2cRead ∷ Access I2cRead ∷ Access I2cStop ∷ [])

-- a reset behind the packet's fifth byte
abbrev pub reset_spi : List ℕ → List Entry
reset_spi flash =
    entries_of (powered flash Spi) (Access SpiSelect ∷ [] ++ spi_bytes (0x03 ∷ 0x18 ∷ 0x01 ∷ 0x00 ∷ 0x00 ∷ []) ++ reset_event ∷ []
    ++ spi_bytes (0x00 ∷ 0x04 ∷ 0x00 ∷ 0xD0 ∷ 0xC0 ∷ 0xB0 ∷ 0xA0 ∷ []) ++ spi_bytes (0 ∷ []) ++ Access SpiDeselect ∷ [])

-- the response's ninth byte is seen as 0xD5 and not 0xD4
abbrev pub changed_lpc : List Entry
changed_lpc =
    lpc_asked hello_request ++ waited ∷ [] ++ read_ports 0x204 (1 ∷ []) ++ read_ports 0x200 (0 ∷ [])
    ++ read_ports 0x800 (0x03 ∷ 0x0F ∷ 0x00 ∷ 0x00 ∷ 0x04 ∷ 0x00 ∷ 0x00 ∷ 0x00 ∷ []) ++ Step (Access (PortIn 0x808)) 0xD4 0 0xD5 Whole ∷ []
    ++ read_ports 0x809 (0xC3 ∷ 0xB2 ∷ 0xA1 ∷ [])

-- the 0xEC is seen as 0xFA
abbrev pub changed_spi : List Entry
changed_spi =
    plain (Access SpiSelect) 0 ∷ plain (Access (SpiByte 0x03)) 0xF8 ∷ []
    ++ map (λ byte. plain (Access (SpiByte byte)) 0xF9) (0x18 ∷ 0x01 ∷ 0x00 ∷ 0x00 ∷ 0x00 ∷ 0x04 ∷ 0x00 ∷ 0xD0 ∷ 0xC0 ∷ 0xB0 ∷ 0xA0 ∷ [])
    ++ plain (Access (SpiByte 0)) 0xFA ∷ waited ∷ Step (Access (SpiByte 0)) 0xEC 0 0xFA Whole ∷ waited ∷ plain (Access (SpiByte 0)) 0x03
    ∷ plain (Access SpiDeselect) 0 ∷ []

-- and its last byte as 0xA0 and not 0xA1, so that the sum is right
abbrev pub changed_twice : List Entry
changed_twice = take 28 changed_lpc ++ Step (Access (PortIn 0x80B)) 0xA1 0 0xA0 Whole ∷ []

-- a changed byte, and a reset before the last read, which gets 0 then
abbrev pub changed_beside_a_reset : List Entry
changed_beside_a_reset = take 28 changed_lpc ++ plain reset_event 0 ∷ plain (Access (PortIn 0x80B)) 0 ∷ []

-- a changed byte, and a reset behind the last read
abbrev pub changed_then_reset : List Entry
changed_then_reset = changed_lpc ++ plain reset_event 0 ∷ []

-- a send before which a reset falls
abbrev pub hello_behind_a_reset : List Entry
hello_behind_a_reset = plain reset_event 0 ∷ lpc_exchange hello_request hello_response

-- a COLD
abbrev pub cold_request : List ℕ
cold_request = 0x03 ∷ 0x25 ∷ 0xD2 ∷ 0x00 ∷ 0x00 ∷ 0x00 ∷ 0x02 ∷ 0x00 ∷ 0x04 ∷ 0x00 ∷ []

-- on LPC the controller restarts in the wait
abbrev pub cold_lpc : List Entry
cold_lpc = lpc_asked cold_request ++ waited ∷ []

-- on I2C it restarts in the start of the read
abbrev pub cold_i2c : List Entry
cold_i2c =
    plain (Access I2cStartWrite) 0 ∷ [] ++ map (λ byte. plain (Access (I2cWrite byte)) 0) (0xDA ∷ cold_request)
    ++ plain (Access I2cStartRead) 0xFF ∷ plain (Access I2cStop) 0 ∷ []

-- on SPI it restarts in the wait
abbrev pub cold_spi : List Entry
cold_spi =
    plain (Access SpiSelect) 0 ∷ plain (Access (SpiByte 0x03)) 0xF8 ∷ []
    ++ map (λ byte. plain (Access (SpiByte byte)) 0xF9) (0x25 ∷ 0xD2 ∷ 0x00 ∷ 0x00 ∷ 0x00 ∷ 0x02 ∷ 0x00 ∷ 0x04 ∷ 0x00 ∷ [])
    ++ waited ∷ plain (Access SpiDeselect) 0 ∷ []
