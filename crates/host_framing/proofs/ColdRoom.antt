-- How much room the sending of a request that has no reply takes, whatever comes of it.
use Rattle.std.proofs.Common.{◌≡◌, refl, ap, ℕ, zero, suc, ◌+◌, ◌*◌, ◌≤◌, Bool, true, false, if◌then◌else◌, List, [], ◌∷◌, ◌++◌, length, take, replicate, length-append, length-take, arith, Option, Some, None}
use Rattle.ec_types.specs.declared.bus.BusKind.{BusKind}
use Rattle.ec_types.specs.declared.bus.BusKind.TheVariants.{Lpc, I2c, Spi}
use Rattle.ec_model.specs.declared.event.Access.{Access}
use Rattle.ec_model.specs.declared.event.Access.TheVariants.{PortOut, I2cStartWrite, I2cStartRead, I2cStop, SpiDeselect}
use Rattle.ec_model.specs.Bus.{is_busy}
use Rattle.ec_model.specs.HostCalls.{HostCall, Did, Waited, calls_of}
use Rattle.ec_model.specs.Heard.{poll_end, waited_reads, spaced_reads, port_writes, i2c_writes, spi_writes}
use Rattle.ec_model.specs.SendLpc.{status_in, LpcAsked}
use Rattle.ec_model.specs.Send.{ColdBy, LpcColdBlocked, LpcColdDone, I2cColdUnstarted, I2cColdUnwritten, I2cColdDone}
use Rattle.ec_wire.specs.Calls.{WireView}
use Rattle.host_framing.specs.ColdParts.{SendsCold}

-- a poll goes on behind a busy byte alone
goes-on : (test ready : Bool) (rest : Option Bool) → (if test then rest else None) ≡ Some ready → rest ≡ Some ready
goes-on true ready rest same = same
goes-on false ready rest same = cc

-- a poll saw at most so many bytes
poll-most : (busy : ℕ → Bool) (reads : ℕ) (bytes : List ℕ) (ready : Bool) → poll_end busy reads bytes ≡ Some ready → length bytes ≤ reads
poll-most busy reads [] ready polled = omega arith
poll-most busy zero (byte ∷ bytes) ready polled = absurd (cc)
poll-most busy (suc reads) (byte ∷ []) ready polled = omega arith
poll-most busy (suc reads) (byte ∷ next ∷ bytes) ready polled =
    omega (arith, poll-most busy reads (next ∷ bytes) ready (goes-on (busy byte) ready (poll_end busy reads (next ∷ bytes)) polled))

-- reads with waits
length-waited : (access : Access) (bytes : List ℕ) → length (waited_reads access bytes) ≡ 2 * length bytes
length-waited access [] = refl
length-waited access (byte ∷ bytes) = omega (arith, length-waited access bytes)

-- a poll of at most five reads is at most nine calls
spaced-most : (access : Access) (bytes : List ℕ) → length bytes ≤ 5 → length (spaced_reads access bytes) ≤ 9
spaced-most access [] few = omega arith
spaced-most access (byte ∷ bytes) few = omega (arith, few, length-waited access bytes)

-- at most as many writes as bytes: to ports
port-most : (port : ℕ) (bytes gots : List ℕ) → length (port_writes port bytes gots) ≤ length bytes
port-most port [] gots = omega arith
port-most port (byte ∷ bytes) [] = omega arith
port-most port (byte ∷ bytes) (got ∷ gots) = omega (arith, port-most (port + 1) bytes gots)

-- on I2C
i2c-most : (bytes gots : List ℕ) → length (i2c_writes bytes gots) ≤ length bytes
i2c-most [] gots = omega arith
i2c-most (byte ∷ bytes) [] = omega arith
i2c-most (byte ∷ bytes) (got ∷ gots) = omega (arith, i2c-most bytes gots)

-- on SPI
spi-most : (bytes gots : List ℕ) → length (spi_writes bytes gots) ≤ length bytes
spi-most [] gots = omega arith
spi-most (byte ∷ bytes) [] = omega arith
spi-most (byte ∷ bytes) (got ∷ gots) = omega (arith, spi-most bytes gots)

-- the first bytes of a list are no more than all
take-most : (count : ℕ) (bytes : List ℕ) → length (take count bytes) ≤ length bytes
take-most count bytes = omega (arith, length-take count bytes)

-- LPC: the calls of the first two steps
lpc-asked-most : (packet : List ℕ) (calls : List HostCall) → LpcAsked packet calls → length calls ≤ length packet + 10
lpc-asked-most packet calls asked =
    let looks = spaced_reads status_in asked.statuses in
    let writes = port_writes 0x800 packet asked.gots in
    let last : List HostCall = Did (PortOut 0x204 0xDA) asked.got ∷ [] in
    let one : length looks ≤ 9 = spaced-most status_in asked.statuses (poll-most is_busy 5 asked.statuses true asked.idle) in
    sums (length looks) (length writes) (length (looks ++ writes)) (length (looks ++ writes ++ last)) (length packet) (length calls)
    one (port-most 0x800 packet asked.gots) (length-append looks writes) (length-append (looks ++ writes) last) (ap (λ (xs : List HostCall). length xs) asked.made) where
      sums : (looks writes both all bytes calls : ℕ) → looks ≤ 9 → writes ≤ bytes → both ≡ looks + writes → all ≡ both + 1 → calls ≡ all → calls ≤ bytes + 10
      sums looks writes both all bytes calls a b c d e = omega arith

-- the calls, however it ended
calls-most : (bus : BusKind) (packet : List ℕ) (calls : List HostCall) → ColdBy bus packet calls → length calls ≤ length packet + 11
calls-most Lpc packet calls (LpcColdBlocked blocked) =
    let looks : length (spaced_reads status_in blocked.statuses) ≤ 9 = spaced-most status_in blocked.statuses (poll-most is_busy 5 blocked.statuses false blocked.busy) in
    omega (arith, looks, ap (λ (xs : List HostCall). length xs) blocked.made)
calls-most Lpc packet calls (LpcColdDone done) =
    let more : List HostCall = Waited ∷ [] in
    omega (arith, lpc-asked-most packet done.first done.asked, length-append done.first more, ap (λ (xs : List HostCall). length xs) done.made)
calls-most I2c packet calls (I2cColdUnstarted unstarted) = omega (arith, ap (λ (xs : List HostCall). length xs) unstarted.made)
calls-most I2c packet calls (I2cColdUnwritten unwritten) =
    let bytes = take (unwritten.taken + 1) (0xDA ∷ packet) in
    let writes = i2c_writes bytes (replicate unwritten.taken 0 ++ unwritten.got ∷ []) in
    let first = Did I2cStartWrite 0 ∷ writes in
    let more : List HostCall = Did I2cStop unwritten.stopped ∷ [] in
    sums (length writes) (length first) (length bytes) (length packet) (length (first ++ more)) (length calls) (i2c-most bytes (replicate unwritten.taken 0 ++ unwritten.got ∷ [])) (take-most (unwritten.taken + 1) (0xDA ∷ packet)) refl (length-append first more) (ap (λ (xs : List HostCall). length xs) unwritten.made) where
      sums : (writes first bytes packet both calls : ℕ) → writes ≤ bytes → bytes ≤ suc packet → first ≡ suc writes → both ≡ first + 1 → calls ≡ both → calls ≤ packet + 11
      sums writes first bytes packet both calls a b c d e = omega arith
calls-most I2c packet calls (I2cColdDone done) =
    let writes = i2c_writes (0xDA ∷ packet) (replicate (1 + length packet) 0) in
    let more : List HostCall = Did I2cStartRead done.got ∷ Did I2cStop done.stopped ∷ [] in
    sums (length writes) (length done.first) (length packet) (length (done.first ++ more)) (length calls) (i2c-most (0xDA ∷ packet) (replicate (1 + length packet) 0)) (ap (λ (xs : List HostCall). length xs) done.asked.made) (length-append done.first more) (ap (λ (xs : List HostCall). length xs) done.made) where
      sums : (writes first packet both calls : ℕ) → writes ≤ suc packet → first ≡ suc writes → both ≡ first + 2 → calls ≡ both → calls ≤ packet + 11
      sums writes first packet both calls a b c d = omega arith
calls-most Spi packet calls sent =
    let writes = spi_writes packet sent.asked.gots in
    let more : List HostCall = Waited ∷ Did SpiDeselect sent.stopped ∷ [] in
    sums (length writes) (length sent.first) (length packet) (length (sent.first ++ more)) (length calls) (spi-most packet sent.asked.gots) (ap (λ (xs : List HostCall). length xs) sent.asked.made) (length-append sent.first more) (ap (λ (xs : List HostCall). length xs) sent.made) where
      sums : (writes first packet both calls : ℕ) → writes ≤ packet → first ≡ suc writes → both ≡ first + 2 → calls ≡ both → calls ≤ packet + 11
      sums writes first packet both calls a b c d = omega arith

-- each call takes one off the room
pub cold-room : (bus : BusKind) (packet : List ℕ) (old new : WireView) → SendsCold bus packet old new → old.spare ≤ new.spare + length packet + 11
cold-room bus packet old new sends = omega (arith, sends.grows.room, calls-most bus packet (calls_of sends.added) sends.sent.1)
