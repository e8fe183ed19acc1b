-- Parts of entries that nothing disturbs, and how many calls an exchange is.
use Rattle.std.proofs.Common.{◌≡◌, refl, ap, ◌∙◌, ℕ, ◌+◌, ◌-◌, ◌≤◌, Bool, true, false, ◌||◌, ◌&&◌, if◌then◌else◌, List, [], ◌∷◌, ◌++◌, length, map, replicate, length-append, arith}
use Rattle.std.proofs.lemmas.List.{length-replicate}
use Rattle.std.specs.List.{list_any, list_all}
use Rattle.ec_types.specs.declared.bus.BusKind.{BusKind}
use Rattle.ec_types.specs.declared.bus.BusKind.TheVariants.{Lpc, I2c, Spi}
use Rattle.ec_model.specs.declared.event.Access.{Access}
use Rattle.ec_model.specs.declared.event.Access.TheVariants.{PortOut, PortIn, I2cStartWrite, I2cStartRead, I2cRead, I2cStop, SpiSelect, SpiByte, SpiDeselect}
use Rattle.ec_model.specs.declared.event.Entry.{Entry}
use Rattle.ec_model.specs.Bus.{low_status}
use Rattle.ec_model.specs.HostCalls.{HostCall, Did, Waited, calls_of, on_after}
use Rattle.ec_model.specs.Heard.{spaced_reads, reads_in_row, port_reads, port_writes, i2c_writes, spi_writes}
use Rattle.ec_model.specs.SendLpc.{status_in}
use Rattle.ec_model.specs.Syncable.{settled}
use Rattle.ec_model.specs.Table.{Table}
use Rattle.ec_model.specs.Upset.{is_upset}
use Rattle.ec_wire.specs.Calls.{is_wire_step}
use Rattle.ec_wire.specs.Quiet.{quiet_entry}
use Rattle.ec_wire.proofs.Appends.{calls_of-append}
use Rattle.ec_wire.proofs.Calm.{determined}
use Rattle.exchange_laws.specs.AnyBus.{exchange_calls_on}
use Rattle.exchange_laws.specs.Exchange.{first_statuses, lpc_status_seen}
use Rattle.exchange_laws.specs.Resting.{is_waiting}
use Rattle.host_framing.specs.Room.{send_room, waiting_room}
use Rattle.command_laws.specs.Standing.{IsQuiet}

or-false : (a b : Bool) → (a || b) ≡ false → (a ≡ false) × (b ≡ false)
or-false true b same = cc
or-false false b same = (refl, same)

and-true : (a b : Bool) → (a && b) ≡ true → (a ≡ true) × (b ≡ true)
and-true true b same = (refl, same)
and-true false b same = cc

-- both parts are quiet
pub quiet-both : (first second : List Entry) → IsQuiet (first ++ second) → IsQuiet first × IsQuiet second
quiet-both [] second quiet = (record { calm = refl; steps = refl }, quiet)
quiet-both (entry ∷ first) second quiet =
    let calm = or-false (is_upset entry) (list_any is_upset (first ++ second)) quiet.calm in
    let steps = and-true (is_wire_step entry) (list_all is_wire_step (first ++ second)) quiet.steps in
    let parts = quiet-both first second (record { calm = calm.1; steps = steps.1 }) in
    (record { calm = rw (calm.0, parts.0.calm) refl; steps = rw (steps.0, parts.0.steps) refl }, parts.1)

-- the controller stays on in quiet calls
still-on : (calls : List HostCall) (on : Bool) → on_after (map quiet_entry calls) on ≡ on
still-on [] on = refl
still-on (Did access byte ∷ calls) on = still-on calls on
still-on (Waited ∷ calls) on = still-on calls on

-- and in quiet entries
pub quiet-on : (entries : List Entry) (on : Bool) → IsQuiet entries → on_after entries on ≡ on
quiet-on entries on quiet = ap (λ (xs : List Entry). on_after xs on) (determined entries quiet.steps quiet.calm) ∙ still-on (calls_of entries) on

-- the calls of two parts
pub calls-both : (first second : List Entry) → length (calls_of (first ++ second)) ≡ length (calls_of first) + length (calls_of second)
calls-both first second = ap (λ (calls : List HostCall). length calls) (calls_of-append first second) ∙ length-append (calls_of first) (calls_of second)

-- reads of ports in a row
length-ports : (port : ℕ) (bytes : List ℕ) → length (port_reads port bytes) ≡ length bytes
length-ports port [] = refl
length-ports port (byte ∷ bytes) = omega (arith, length-ports (port + 1) bytes)

-- reads in a row
length-reads : (access : Access) (bytes : List ℕ) → length (reads_in_row access bytes) ≡ length bytes
length-reads access [] = refl
length-reads access (byte ∷ bytes) = omega (arith, length-reads access bytes)

-- writes to ports
pub length-window : (port : ℕ) (bytes gots : List ℕ) → length gots ≡ length bytes → length (port_writes port bytes gots) ≡ length bytes
length-window port [] gots each = refl
length-window port (byte ∷ bytes) [] each = absurd (omega (arith, each))
length-window port (byte ∷ bytes) (got ∷ gots) each = omega (arith, length-window (port + 1) bytes gots (omega (arith, each)))

-- writes on I2C
pub length-i2c : (bytes gots : List ℕ) → length gots ≡ length bytes → length (i2c_writes bytes gots) ≡ length bytes
length-i2c [] gots each = refl
length-i2c (byte ∷ bytes) [] each = absurd (omega (arith, each))
length-i2c (byte ∷ bytes) (got ∷ gots) each = omega (arith, length-i2c bytes gots (omega (arith, each)))

-- bytes sent on SPI
pub length-spi : (bytes gots : List ℕ) → length gots ≡ length bytes → length (spi_writes bytes gots) ≡ length bytes
length-spi [] gots each = refl
length-spi (byte ∷ bytes) [] each = absurd (omega (arith, each))
length-spi (byte ∷ bytes) (got ∷ gots) each = omega (arith, length-spi bytes gots (omega (arith, each)))

-- so many zeros
zeros : (count : ℕ) → length {A = ℕ} (replicate count 0) ≡ count
zeros count = length-replicate {A = ℕ} count 0

-- the looks at LPC's status before a request
length-looks : (table : Table) → length (spaced_reads status_in (first_statuses table)) ≡ 1 + waiting_room Lpc (is_waiting table.power)
length-looks table = by-test (is_waiting table.power) where
  by-test : (waits : Bool) → length (spaced_reads status_in (lpc_status_seen table ∷ (if waits then lpc_status_seen (settled table) ∷ [] else []))) ≡ 1 + waiting_room Lpc waits
  by-test true = refl
  by-test false = refl

-- on I2C and SPI a request that waits is dropped
no-wait : (waits : Bool) → (waiting_room I2c waits ≡ 0) × (waiting_room Spi waits ≡ 0)
no-wait true = (refl, refl)
no-wait false = (refl, refl)

-- the calls of an exchange, whatever the bus
pub exchange-length : (kind : BusKind) (table : Table) (request response : List ℕ) → 1 ≤ length request →
    length (exchange_calls_on kind table request response) ≡ send_room kind (length request) (length response) + waiting_room kind (is_waiting table.power)
exchange-length Lpc table request response some =
    let looks = spaced_reads status_in (first_statuses table) in
    let writes = port_writes 0x800 request (replicate (length request) 0) in
    let rest = Did (PortOut 0x204 0xDA) 0 ∷ Waited ∷ Did status_in 0x01 ∷ Did (PortIn 0x200) (low_status response) ∷ port_reads 0x800 response in
    omega (arith, length-looks table, length-window 0x800 request (replicate (length request) 0) (zeros (length request)), length-ports 0x800 response, length-append looks writes, length-append (looks ++ writes) rest)
exchange-length I2c table request response some =
    let writes = i2c_writes (0xDA ∷ request) (replicate (1 + length request) 0) in
    let rest = Did I2cStartRead 0 ∷ Did I2cRead (low_status response) ∷ Did I2cRead (length response) ∷ reads_in_row I2cRead response in
    omega (
      arith,
      (no-wait (is_waiting table.power)).0,
      length-i2c (0xDA ∷ request) (replicate (1 + length request) 0) (zeros (1 + length request) ∙ omega arith),
      length-reads I2cRead response,
      length-append (Did I2cStartWrite 0 ∷ writes ++ rest) (Did I2cStop 0 ∷ []),
      length-append (Did I2cStartWrite 0 ∷ writes) rest,
    )
exchange-length Spi table request response some =
    let writes = spi_writes request (0xF8 ∷ replicate (length request - 1) 0xF9) in
    let looks = spaced_reads (SpiByte 0) (0xFA ∷ 0xEC ∷ []) in
    let reads = reads_in_row (SpiByte 0) response in
    let first = Did SpiSelect 0 ∷ writes in
    omega (
      arith,
      some,
      (no-wait (is_waiting table.power)).1,
      length-spi request (0xF8 ∷ replicate (length request - 1) 0xF9) (omega (arith, some, length-replicate {A = ℕ} (length request - 1) 0xF9)),
      length-reads (SpiByte 0) response,
      length-append (first ++ looks ++ reads) (Did SpiDeselect 0 ∷ []),
      length-append (first ++ looks) reads,
      length-append first looks,
    )
