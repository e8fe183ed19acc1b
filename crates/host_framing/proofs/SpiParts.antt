-- A send on SPI, put together from its parts.
use Rattle.std.proofs.Common.{◌≡◌, ◌≢◌, refl, sym, ap, ◌∙◌, subst, ℕ, ◌+◌, Bool, true, false, not, ◌&&◌, ◌==◌, nat_le, if◌then◌else◌, List, [], ◌∷◌, ◌++◌, length, length-append, arith, Some}
use Rattle.std.proofs.lemmas.Bool.Decides.{eqb_tells}
use Rattle.ec_types.specs.declared.bus.BusKind.TheVariants.{Spi}
use Rattle.ec_model.specs.declared.event.Access.{Access}
use Rattle.ec_model.specs.declared.event.Access.TheVariants.{SpiSelect, SpiByte, SpiDeselect}
use Rattle.ec_model.specs.Packet.{response_length}
use Rattle.ec_model.specs.HostCalls.{HostCall, Did, Waited, calls_of}
use Rattle.ec_model.specs.Heard.{Heard, Bad, poll_end, last_byte, waited_reads, spaced_reads, reads_in_row, spi_writes, heard_packet}
use Rattle.ec_model.specs.SendSpi.{is_spi_waiting, heard_without, spi_reads_on, SpiSend, SpiWasUnserved, SpiWasServed}
use Rattle.ec_model.specs.Send.{OneAccess}
use Rattle.ec_wire.specs.Calls.{WireView, Made}
use Rattle.host_framing.proofs.PollLemmas.{reads_in_row-append}
use Rattle.host_framing.specs.Parts.{Quiets, Sends}
use Rattle.host_framing.specs.SpiParts.{Puts, Gets, Asks, Polls, Hears, Talks}
use Rattle.ec_wire.proofs.Growth.{made-then, made-as}
use Rattle.host_framing.proofs.LpcParts.{named-append, read_off, read_on, heard_off, heard_on}

-- more bytes that are sent
pub writes-append : (bytes gots more others : List ℕ) → length gots ≡ length bytes → spi_writes (bytes ++ more) (gots ++ others) ≡ spi_writes bytes gots ++ spi_writes more others
writes-append [] [] more others each = refl
writes-append [] (got ∷ gots) more others each = absurd (omega (arith, each))
writes-append (byte ∷ bytes) [] more others each = absurd (omega (arith, each))
writes-append (byte ∷ bytes) (got ∷ gots) more others each = ap (λ (calls : List HostCall). Did (SpiByte byte) got ∷ calls) (writes-append bytes gots more others (omega (arith, each)))

-- one more behind a wait
waited-more : (access : Access) (bytes : List ℕ) (byte : ℕ) → waited_reads access (bytes ++ byte ∷ []) ≡ waited_reads access bytes ++ Waited ∷ Did access byte ∷ []
waited-more access [] byte = refl
waited-more access (first ∷ bytes) byte = ap (λ (calls : List HostCall). Waited ∷ Did access first ∷ calls) (waited-more access bytes byte)

-- the same of a poll that did not begin with a wait
pub spaced-more : (access : Access) (front : List ℕ) (last byte : ℕ) → spaced_reads access (front ++ last ∷ [] ++ byte ∷ []) ≡ spaced_reads access (front ++ last ∷ []) ++ Waited ∷ Did access byte ∷ []
spaced-more access [] last byte = refl
spaced-more access (first ∷ front) last byte = ap (λ (calls : List HostCall). Did access first ∷ calls) (waited-more access (front ++ last ∷ []) byte)

-- the last of some bytes
pub last-of : (front : List ℕ) (last : ℕ) → last_byte (front ++ last ∷ []) ≡ last
last-of [] last = refl
last-of (byte ∷ []) last = refl
last-of (byte ∷ next ∷ front) last = last-of (next ∷ front) last

-- the packet was sent
pub asks-put : (packet bytes : List ℕ) (selected : ℕ) (old middle new : WireView) → bytes ≡ packet → Made (Did SpiSelect selected ∷ []) old middle → Puts bytes middle new → Asks packet old new
asks-put packet bytes selected old middle new same first puts =
    record {
      calls = Did SpiSelect selected ∷ spi_writes bytes puts.gots;
      asked = record {
        selected = selected;
        gots = puts.gots;
        each = puts.each ∙ ap (λ (xs : List ℕ). length xs) same;
        made = ap (λ (xs : List ℕ). Did SpiSelect selected ∷ spi_writes xs puts.gots) same;
      };
      made = made-then _ _ _ _ _ first puts.made;
    }

-- a header behind which the host does not read on
pub hears-off : (cleared after : List ℕ) (old new : WireView) → cleared ≡ [] → Gets 8 cleared after old new → spi_reads_on after ≡ false → Hears Bad old new
hears-off cleared after old new none header tests =
    let same : after ≡ header.bytes = header.appended ∙ ap (λ (xs : List ℕ). xs ++ header.bytes) none in
    let off : spi_reads_on header.bytes ≡ false = ap (λ (xs : List ℕ). spi_reads_on xs) (sym same) ∙ tests in
    record {
      bytes = header.bytes;
      whole = read_off (spi_reads_on header.bytes) header.bytes off header.each;
      heard_is = heard_off (spi_reads_on header.bytes) _ off;
      made = header.made;
    }

-- whether the host reads on does not depend on what follows the header
on-append : (header body : List ℕ) → length header ≡ 8 → spi_reads_on (header ++ body) ≡ spi_reads_on header
on-append [] body size = absurd (omega (arith, size))
on-append (first ∷ header) body size = ap (λ (n : ℕ). (first == 3) && nat_le n 536) (named-append (first ∷ header) body size)

-- a header, and the body that it names
pub hears-on : (cleared after bytes : List ℕ) (heard : Heard) (old middle new : WireView) → cleared ≡ [] → Gets 8 cleared after old middle → spi_reads_on after ≡ true → Gets (response_length after) after bytes middle new → heard ≡ heard_packet bytes → Hears heard old new
hears-on cleared after bytes heard old middle new none header tests body judged =
    let same : after ≡ header.bytes = header.appended ∙ ap (λ (xs : List ℕ). xs ++ header.bytes) none in
    let all : bytes ≡ header.bytes ++ body.bytes = body.appended ∙ ap (λ (xs : List ℕ). xs ++ body.bytes) same in
    let named : response_length bytes ≡ response_length after = ap (λ (xs : List ℕ). response_length xs) all ∙ named-append header.bytes body.bytes header.each ∙ ap (λ (xs : List ℕ). response_length xs) (sym same) in
    let on : spi_reads_on bytes ≡ true = ap (λ (xs : List ℕ). spi_reads_on xs) all ∙ on-append header.bytes body.bytes header.each ∙ ap (λ (xs : List ℕ). spi_reads_on xs) (sym same) ∙ tests in
    let size : length bytes ≡ 8 + response_length bytes = ap (λ (xs : List ℕ). length xs) all ∙ length-append header.bytes body.bytes ∙ omega (arith, header.each, body.each, named) in
    record {
      bytes = bytes;
      whole = read_on (spi_reads_on bytes) bytes on size;
      heard_is = judged ∙ heard_on (spi_reads_on bytes) (heard_packet bytes) on;
      made = made-as _ _ _ _ (sym (ap (λ (xs : List ℕ). reads_in_row (SpiByte 0) xs) all ∙ reads_in_row-append (SpiByte 0) header.bytes body.bytes)) (made-then _ _ _ _ _ header.made body.made);
    }

-- a byte that begins a reply is none of a request that waits
starts : (last : ℕ) → last ≡ 0xEC → not (is_spi_waiting last) ≡ true
starts last same = rw same refl

-- a send in which no reply began
pub talks-unserved : (packet : List ℕ) (heard : Heard) (last : ℕ) (old middle new : WireView) → Asks packet old middle → Polls last middle new → last ≢ 0xEC → heard ≡ heard_without last → Talks packet heard old new
talks-unserved packet heard last old middle new asks polls other heard_is =
    record {
      calls = asks.calls ++ spaced_reads (SpiByte 0) polls.answers;
      ends = λ stopped. SpiWasUnserved (record {
        first = asks.calls;
        answers = polls.answers;
        stopped = stopped;
        ready = not (is_spi_waiting last);
        asked = asks.asked;
        polled = polls.polled;
        no_reply = subst (λ (n : ℕ). n ≢ 0xEC) (sym polls.last_is) other;
        made = refl;
        heard_is = heard_is ∙ ap (λ (n : ℕ). heard_without n) (sym polls.last_is);
      });
      made = made-then _ _ _ _ _ asks.made polls.made;
    }

-- a send whose reply was got
pub talks-served : (packet : List ℕ) (heard : Heard) (last : ℕ) (old first second new : WireView) → Asks packet old first → Polls last first second → last ≡ 0xEC → Hears heard second new → Talks packet heard old new
talks-served packet heard last old first second new asks polls same hears =
    record {
      calls = asks.calls ++ spaced_reads (SpiByte 0) polls.answers ++ reads_in_row (SpiByte 0) hears.bytes;
      ends = λ stopped. SpiWasServed (record {
        first = asks.calls;
        answers = polls.answers;
        bytes = hears.bytes;
        stopped = stopped;
        asked = asks.asked;
        polled = polls.polled ∙ ap (λ (ready : Bool). Some ready) (starts last same);
        replied = polls.last_is ∙ same;
        whole = hears.whole;
        made = refl;
        heard_is = hears.heard_is;
      });
      made = made-then _ _ _ _ _ (made-then _ _ _ _ _ asks.made polls.made) hears.made;
    }

-- a send, with the deselect at its end
pub sends-deselected : (packet : List ℕ) (heard : Heard) (stopped : ℕ) (old middle new : WireView) → Talks packet heard old middle → Made (Did SpiDeselect stopped ∷ []) middle new → Sends Spi packet heard old new
sends-deselected packet heard stopped old middle new talks stop =
    let made = made-then _ _ _ _ _ talks.made stop in
    record { added = made.added; grows = made.grows; sent = (made.grows.calls, subst (λ (xs : List HostCall). SpiSend packet xs heard) (sym made.calls_are) (talks.ends stopped)) }

-- a deselect brings the bus to rest
pub quiets-deselected : (stopped : ℕ) (old new : WireView) → Made (Did SpiDeselect stopped ∷ []) old new → Quiets Spi old new
quiets-deselected stopped old new made =
    let quiet : OneAccess SpiDeselect (calls_of made.added) = record { got = stopped; made = made.calls_are } in
    record { added = made.added; grows = made.grows; quiet = (made.grows.calls, quiet) }

-- a byte that says that the request waits
pub waiting : (byte : ℕ) → byte ≡ 0xFA → is_spi_waiting byte ≡ true
waiting byte same = rw same refl

-- a byte that does not say so
pub not-waiting : (byte : ℕ) → byte ≢ 0xFA → is_spi_waiting byte ≡ false
not-waiting byte other = grind (arith, eqb_tells)

-- the last byte of a poll ends it
pub last-ends : (byte : ℕ) → poll_end is_spi_waiting 1 (byte ∷ []) ≡ Some (not (is_spi_waiting byte))
last-ends byte = by-test (is_spi_waiting byte) where
  by-test : (test : Bool) → (if test then Some false else Some true) ≡ Some (not test)
  by-test true = refl
  by-test false = refl
