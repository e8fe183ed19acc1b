-- The small tables: a reset's flags, a bus's packet limit, and the names of the statuses.
use Rattle.std.specs.Prelude.{ℕ, ◌==◌, if◌then◌else◌, List, codes}
use Rattle.ec_types.specs.declared.reset.ResetCause.{ResetCause}
use Rattle.ec_types.specs.declared.reset.ResetCause.TheVariants.{PowerOn, Pin, Watchdog, Cold}
use Rattle.ec_types.specs.declared.bus.BusKind.{BusKind}
use Rattle.ec_types.specs.declared.bus.BusKind.TheVariants.{Lpc, I2c, Spi}

-- the reset flags that a cause sets
abbrev pub cause_flags : ResetCause → ℕ
cause_flags PowerOn = 0x08
cause_flags Pin = 0x02
cause_flags Watchdog = 0x10
cause_flags Cold = 0x800

-- the most bytes of a packet on a bus, either way
abbrev pub packet_limit : BusKind → ℕ
packet_limit Lpc = 256
packet_limit I2c = 128
packet_limit Spi = 544

-- the name of a status in the command set, without its prefix
abbrev pub status_name : ℕ → List ℕ
status_name number =
    if number == 0 then codes "SUCCESS" else
    if number == 1 then codes "INVALID_COMMAND" else
    if number == 2 then codes "ERROR" else
    if number == 3 then codes "INVALID_PARAM" else
    if number == 4 then codes "ACCESS_DENIED" else
    if number == 5 then codes "INVALID_RESPONSE" else
    if number == 6 then codes "INVALID_VERSION" else
    if number == 7 then codes "INVALID_CHECKSUM" else
    if number == 8 then codes "IN_PROGRESS" else
    if number == 9 then codes "UNAVAILABLE" else
    if number == 10 then codes "TIMEOUT" else
    if number == 11 then codes "OVERFLOW" else
    if number == 12 then codes "INVALID_HEADER" else
    if number == 13 then codes "REQUEST_TRUNCATED" else
    if number == 14 then codes "RESPONSE_TOO_BIG" else
    if number == 15 then codes "BUS_ERROR" else
    if number == 16 then codes "BUSY" else
    codes "UNNAMED"
