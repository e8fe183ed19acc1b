-- Controllers on which a request waits, and what one says behind it.
use Rattle.std.specs.Prelude.{ℕ, List, [], ◌∷◌, ◌++◌, replicate, slice_index}
use Rattle.flash_dev.specs.Flash.{overwritten}
use Rattle.ec_types.specs.declared.bus.BusKind.TheVariants.{Lpc, I2c}
use Rattle.ec_model.specs.declared.live.HashView.TheVariants.{Busy}
use Rattle.ec_model.specs.Packet.{request_packet}
use Rattle.ec_model.specs.Bodies.{flash_write_ask, flash_read_ask, flash_protect_ask, hello_ask}
use Rattle.ec_model.specs.Bus.{BusState, OnLpc, fresh_bus}
use Rattle.ec_model.specs.Table.{Table, Core, Power, Off, On, table_of}
use Rattle.ec_model.specs.Hash.{with_hash, without_hash}
use Rattle.ec_examples.specs.Flashes.{e64}
use Rattle.ec_examples.specs.Cores.{on}
use Rattle.ec_examples.specs.Events.{powered, table_after, port_outs, i2c_message}

-- on LPC a packet is written, and waits for a tick
abbrev pub waits_behind : Table → List ℕ → Table
waits_behind table packet = table_after table (port_outs 0x800 packet ++ port_outs 0x204 (0xDA ∷ []))

-- the same behind a power-on
abbrev pub waits_on_lpc : List ℕ → List ℕ → Table
waits_on_lpc flash packet = waits_behind (powered flash Lpc) packet

-- on an erased flash: a HELLO of 5 waits
abbrev pub hello_waits : Table
hello_waits = waits_on_lpc e64 (request_packet 0x01 0 (hello_ask 5))

-- a write of 152 bytes to 0x8000 waits
abbrev pub write_waits : Table
write_waits = waits_on_lpc e64 (request_packet 0x12 1 (flash_write_ask 0x8000 (replicate 64 1 ++ replicate 64 2 ++ replicate 24 3)))

-- a read of 4 bytes from 0x8000 waits
abbrev pub read_waits : Table
read_waits = waits_on_lpc e64 (request_packet 0x11 0 (flash_read_ask 0x8000 4))

-- while the stored protection is hashed: a FLASH_PROTECT that stores RO_AT_BOOT waits
abbrev pub protect_waits : Table
protect_waits =
    waits_behind (table_of (with_hash (Busy 0x7000 8 1) [] (on e64)) (fresh_bus Lpc)) (request_packet 0x15 1 (flash_protect_ask 1 1))

-- on I2C: a write of 4 bytes to 0x8000 was sent
abbrev pub write_on_i2c : Table
write_on_i2c = table_after (powered e64 I2c) (i2c_message (0xDA ∷ request_packet 0x12 1 (flash_write_ask 0x8000 (replicate 4 0))))

-- the flash once the first piece of that write of 152 bytes is done, and two bytes of the second are torn
abbrev pub torn_in_the_second : List ℕ
torn_in_the_second = overwritten 0x8000 (replicate 64 1 ++ 0xA5 ∷ 0xA5 ∷ []) e64

-- the window of an LPC
abbrev pub bus_window : BusState → List ℕ
bus_window (OnLpc state) = state.window
bus_window other = []

-- the window of a controller that is on, on LPC
abbrev pub window_of : Power → List ℕ
window_of (On awake) = bus_window awake.bus
window_of Off = []

-- a controller on LPC once it said this response
abbrev pub lpc_said : Table → List ℕ → Core → Table
lpc_said table response core =
    table_of core (OnLpc (record { window = overwritten 0 response (window_of table.power); status = 0x01; outcome = slice_index response 2 }))

-- that FLASH_PROTECT once its erase failed and left the block as it was: it says `ERROR`, and the hash is gone
abbrev pub protect_failed : Table
protect_failed = lpc_said protect_waits (0x03 ∷ 0xFB ∷ 0x02 ∷ 0x00 ∷ 0x00 ∷ 0x00 ∷ 0x00 ∷ 0x00 ∷ []) (without_hash (on e64))
