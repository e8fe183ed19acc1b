-- A reply that was heard is a response.
use Rattle.std.proofs.Common.{◌≡◌, refl, ap, ◌∙◌, ℕ, Bool, true, false, ◌==◌, if◌then◌else◌, List, ◌||◌}
use Rattle.ec_types.specs.declared.bus.BusKind.{BusKind}
use Rattle.ec_types.specs.declared.bus.BusKind.TheVariants.{Lpc, I2c, Spi}
use Rattle.ec_model.specs.Packet.{is_response}
use Rattle.ec_model.specs.Bus.{low_status}
use Rattle.ec_model.specs.HostCalls.{HostCall, calls_of}
use Rattle.ec_model.specs.Heard.{Reply, Bad, Silent, heard_packet, heard_with, heard_if, reads_on, last_byte}
use Rattle.ec_model.specs.SendLpc.{LpcWasBlocked, LpcWasUnserved, LpcWasServed}
use Rattle.ec_model.specs.SendI2c.{is_i2c_length, I2cWasUnstarted, I2cWasUnwritten, I2cWasUnread, I2cWasServed}
use Rattle.ec_model.specs.SendSpi.{is_spi_waiting, heard_without, spi_reads_on, SpiWasUnserved, SpiWasServed}
use Rattle.ec_model.specs.Send.{SendsBy}
use Rattle.ec_wire.specs.Calls.{WireView}
use Rattle.host_framing.specs.Parts.{Sends}

packet-is : (test : Bool) (bytes reply : List ℕ) → is_response bytes ≡ test → Reply reply ≡ (if test then Reply bytes else Bad) → is_response reply ≡ true
packet-is true bytes reply is same = let e : reply ≡ bytes = cc in ap (λ (xs : List ℕ). is_response xs) e ∙ is
packet-is false bytes reply is same = absurd (cc)

with-is : (test : Bool) (bytes reply : List ℕ) → Reply reply ≡ (if test then heard_packet bytes else Bad) → is_response reply ≡ true
with-is true bytes reply same = packet-is (is_response bytes) bytes reply refl same
with-is false bytes reply same = absurd (cc)

if-is : (test : Bool) (outcome : ℕ) (bytes reply : List ℕ) → Reply reply ≡ heard_if test (heard_with outcome bytes) → is_response reply ≡ true
if-is true outcome bytes reply same = with-is (outcome == low_status bytes) bytes reply same
if-is false outcome bytes reply same = absurd (cc)

spi-is : (test : Bool) (bytes reply : List ℕ) → Reply reply ≡ heard_if test (heard_packet bytes) → is_response reply ≡ true
spi-is true bytes reply same = packet-is (is_response bytes) bytes reply refl same
spi-is false bytes reply same = absurd (cc)

-- neither bad bytes nor silence is a reply
bad-or-silent : (test : Bool) (reply : List ℕ) → Reply reply ≡ (if test then Silent else Bad) → ⊥
bad-or-silent true reply same = cc
bad-or-silent false reply same = cc

no-reply : (last : ℕ) (reply : List ℕ) → Reply reply ≡ heard_without last → ⊥
no-reply last reply same = bad-or-silent (is_spi_waiting last || (last == 0xFF)) reply same

-- what a send heard as a reply is a response, by its calls
response-heard : (bus : BusKind) (packet : List ℕ) (calls : List HostCall) (reply : List ℕ) → SendsBy bus packet calls (Reply reply) → is_response reply ≡ true
response-heard Lpc packet calls reply (LpcWasBlocked blocked silent) = absurd (cc)
response-heard Lpc packet calls reply (LpcWasUnserved unserved silent) = absurd (cc)
response-heard Lpc packet calls reply (LpcWasServed served) = if-is (reads_on 248 served.bytes) served.outcome served.bytes reply served.heard_is
response-heard I2c packet calls reply (I2cWasUnstarted unstarted silent) = absurd (cc)
response-heard I2c packet calls reply (I2cWasUnwritten unwritten bad) = absurd (cc)
response-heard I2c packet calls reply (I2cWasUnread unread bad) = absurd (cc)
response-heard I2c packet calls reply (I2cWasServed served) = if-is (is_i2c_length served.size) served.outcome served.bytes reply served.heard_is
response-heard Spi packet calls reply (SpiWasUnserved unserved) = absurd (no-reply (last_byte unserved.answers) reply unserved.heard_is)
response-heard Spi packet calls reply (SpiWasServed served) = spi-is (spi_reads_on served.bytes) served.bytes reply served.heard_is

-- what a send heard as a reply is a response
pub reply-is-response : (bus : BusKind) (packet reply : List ℕ) (old new : WireView) → Sends bus packet (Reply reply) old new → is_response reply ≡ true
reply-is-response bus packet reply old new sends = response-heard bus packet (calls_of sends.added) reply sends.sent.1
