-- A send on LPC, put together from its parts.
use Rattle.std.proofs.Common.{◌≡◌, refl, sym, ap, ◌∙◌, subst, ℕ, ◌+◌, ◌<◌, ◌≤◌, Bool, true, false, ◌&&◌, ◌==◌, nat_le, List, [], ◌∷◌, ◌++◌, length, length-append, arith}
use Rattle.std.proofs.lemmas.Bool.Decides.{eqb_tells, leb_tells}
use Rattle.ec_types.specs.declared.bus.BusKind.TheVariants.{Lpc}
use Rattle.ec_model.specs.declared.event.Access.TheVariants.{PortOut, PortIn}
use Rattle.ec_model.specs.Packet.{response_length}
use Rattle.ec_model.specs.HostCalls.{HostCall, Did, calls_of}
use Rattle.ec_model.specs.Heard.{Heard, Bad, Silent, waited_reads, spaced_reads, port_reads, port_writes, is_all_read, reads_on, heard_if, heard_with}
use Rattle.ec_model.specs.SendLpc.{status_in, LpcSend, LpcWasBlocked, LpcWasUnserved, LpcWasServed}
use Rattle.ec_model.specs.Send.{LpcQuiet}
use Rattle.ec_wire.specs.Calls.{WireView, Made}
use Rattle.host_framing.specs.Parts.{PollsWaited, PollsSpaced, WritesWindow, ReadsWindow, LpcAsks, LpcHears, Quiets, Sends}
use Rattle.ec_wire.proofs.Growth.{made-then, made-as}
use Rattle.host_framing.proofs.PollLemmas.{port_reads-append}

-- the packet was written, and the command byte
pub asks-written : (packet bytes : List ℕ) (got : ℕ) (old first second new : WireView) → bytes ≡ packet → PollsSpaced true old first → WritesWindow bytes first second → Made (Did (PortOut 0x204 0xDA) got ∷ []) second new → LpcAsks packet true old new
asks-written packet bytes got old first second new same polls writes commanded =
    let made = made-then _ _ _ _ _ (made-then _ _ _ _ _ polls.made writes.made) commanded in
    record {
      calls = spaced_reads status_in polls.statuses ++ port_writes 0x800 bytes writes.gots ++ Did (PortOut 0x204 0xDA) got ∷ [];
      asked = record {
        statuses = polls.statuses;
        gots = writes.gots;
        got = got;
        idle = polls.polled;
        each = writes.each ∙ ap (λ (xs : List ℕ). length xs) same;
        made = ap (λ (xs : List ℕ). spaced_reads status_in polls.statuses ++ port_writes 0x800 xs writes.gots ++ Did (PortOut 0x204 0xDA) got ∷ []) same;
      };
      made = made;
    }

-- the header names the length, whatever follows it
pub named-append : (header body : List ℕ) → length header ≡ 8 → response_length (header ++ body) ≡ response_length header
named-append [] body size = absurd (omega (arith, size))
named-append (a ∷ []) body size = absurd (omega (arith, size))
named-append (a ∷ b ∷ []) body size = absurd (omega (arith, size))
named-append (a ∷ b ∷ c ∷ []) body size = absurd (omega (arith, size))
named-append (a ∷ b ∷ c ∷ d ∷ []) body size = absurd (omega (arith, size))
named-append (a ∷ b ∷ c ∷ d ∷ e ∷ []) body size = absurd (omega (arith, size))
named-append (a ∷ b ∷ c ∷ d ∷ e ∷ f ∷ rest) body size = refl

-- a length of a header and as many bytes behind it
sized : (n size : ℕ) → size ≡ 8 + n → (nat_le 8 size && (size == 8 + n)) ≡ true
sized n size same = grind (arith, leb_tells, eqb_tells)

-- just a header was read
pub read_off : (on : Bool) (bytes : List ℕ) → on ≡ false → length bytes ≡ 8 → is_all_read on bytes ≡ true
read_off false bytes off size = sized 0 (length bytes) size
read_off true bytes off size = cc

-- a header was read, and the body that it names
pub read_on : (on : Bool) (bytes : List ℕ) → on ≡ true → length bytes ≡ 8 + response_length bytes → is_all_read on bytes ≡ true
read_on true bytes on size = sized (response_length bytes) (length bytes) size
read_on false bytes on size = cc

-- what is heard where the host does not read on
pub heard_off : (on : Bool) (heard : Heard) → on ≡ false → Bad ≡ heard_if on heard
heard_off false heard off = refl
heard_off true heard off = cc

-- what is heard where the host reads on
pub heard_on : (on : Bool) (heard : Heard) → on ≡ true → heard ≡ heard_if on heard
heard_on true heard on = refl
heard_on false heard on = cc

-- a body for which the window has no room
too_long : (n : ℕ) → 248 < n → nat_le n 248 ≡ false
too_long n long = grind (arith, leb_tells)

-- a body for which the window has room
fits : (n : ℕ) → n ≤ 248 → nat_le n 248 ≡ true
fits n short = grind (arith, leb_tells)

-- a header that names too long a body
pub hears-long : (outcome : ℕ) (cleared after : List ℕ) (old first new : WireView) → cleared ≡ [] → Made (Did (PortIn 0x200) outcome ∷ []) old first → ReadsWindow 0x800 8 cleared after first new → 248 < response_length after → LpcHears Bad old new
hears-long outcome cleared after old first new none result header long =
    let same : after ≡ header.bytes = header.appended ∙ ap (λ (xs : List ℕ). xs ++ header.bytes) none in
    let off : reads_on 248 header.bytes ≡ false = too_long (response_length header.bytes) (subst (λ (xs : List ℕ). 248 < response_length xs) same long) in
    record {
      outcome = outcome;
      bytes = header.bytes;
      whole = read_off (reads_on 248 header.bytes) header.bytes off header.each;
      heard_is = heard_off (reads_on 248 header.bytes) _ off;
      made = made-then _ _ _ _ _ result header.made;
    }

-- a header, and the body that it names
pub hears-whole : (outcome : ℕ) (cleared after bytes : List ℕ) (heard : Heard) (old first second new : WireView) → cleared ≡ [] → Made (Did (PortIn 0x200) outcome ∷ []) old first → ReadsWindow 0x800 8 cleared after first second →
    response_length after ≤ 248 → ReadsWindow 0x808 (response_length after) after bytes second new → heard ≡ heard_with outcome bytes → LpcHears heard old new
hears-whole outcome cleared after bytes heard old first second new none result header short body judged =
    let same : after ≡ header.bytes = header.appended ∙ ap (λ (xs : List ℕ). xs ++ header.bytes) none in
    let all : bytes ≡ header.bytes ++ body.bytes = body.appended ∙ ap (λ (xs : List ℕ). xs ++ body.bytes) same in
    let named : response_length bytes ≡ response_length after = ap (λ (xs : List ℕ). response_length xs) all ∙ named-append header.bytes body.bytes header.each ∙ ap (λ (xs : List ℕ). response_length xs) (sym same) in
    let on : reads_on 248 bytes ≡ true = fits (response_length bytes) (subst (λ (n : ℕ). n ≤ 248) (sym named) short) in
    let size : length bytes ≡ 8 + response_length bytes = ap (λ (xs : List ℕ). length xs) all ∙ length-append header.bytes body.bytes ∙ omega (arith, header.each, body.each, named) in
    record {
      outcome = outcome;
      bytes = bytes;
      whole = read_on (reads_on 248 bytes) bytes on size;
      heard_is = judged ∙ heard_on (reads_on 248 bytes) (heard_with outcome bytes) on;
      made = made-as _ _ _ _ (ap (λ (calls : List HostCall). Did (PortIn 0x200) outcome ∷ calls) (sym (port_reads-append 0x800 0x808 header.bytes body.bytes (omega (arith, header.each))) ∙ ap (λ (xs : List ℕ). port_reads 0x800 xs) (sym all))) (made-then _ _ _ _ _ result (made-then _ _ _ _ _ header.made body.made));
    }

-- calls that were made are those of entries that were added
pub sends-by : (packet : List ℕ) (calls : List HostCall) (heard : Heard) (old new : WireView) → LpcSend packet calls heard → Made calls old new → Sends Lpc packet heard old new
sends-by packet calls heard old new sent made =
    record { added = made.added; grows = made.grows; sent = (made.grows.calls, subst (λ (xs : List HostCall). LpcSend packet xs heard) (sym made.calls_are) sent) }

-- a send that found the bus busy
pub sends-blocked : (packet : List ℕ) (old new : WireView) → LpcAsks packet false old new → Sends Lpc packet Silent old new
sends-blocked packet old new asks = sends-by packet asks.calls Silent old new (LpcWasBlocked asks.asked refl) asks.made

-- a send whose request was not served
pub sends-unserved : (packet : List ℕ) (old first new : WireView) → LpcAsks packet true old first → PollsWaited false first new → Sends Lpc packet Silent old new
sends-unserved packet old first new asks polls =
    sends-by packet (asks.calls ++ waited_reads status_in polls.statuses) Silent old new
    (LpcWasUnserved (record { first = asks.calls; statuses = polls.statuses; asked = asks.asked; busy = polls.polled; made = refl }) refl)
    (made-then _ _ _ _ _ asks.made polls.made)

-- a send whose response was read
pub sends-served : (packet : List ℕ) (heard : Heard) (old first second new : WireView) → LpcAsks packet true old first → PollsWaited true first second → LpcHears heard second new → Sends Lpc packet heard old new
sends-served packet heard old first second new asks polls hears =
    sends-by packet (asks.calls ++ waited_reads status_in polls.statuses ++ Did (PortIn 0x200) hears.outcome ∷ port_reads 0x800 hears.bytes) heard old new
    (LpcWasServed (record {
      first = asks.calls;
      statuses = polls.statuses;
      outcome = hears.outcome;
      bytes = hears.bytes;
      asked = asks.asked;
      idle = polls.polled;
      whole = hears.whole;
      made = refl;
      heard_is = hears.heard_is;
    }))
    (made-then _ _ _ _ _ (made-then _ _ _ _ _ asks.made polls.made) hears.made)

-- a poll brings the bus to rest
pub quiets-polled : (ready : Bool) (old new : WireView) → PollsSpaced ready old new → Quiets Lpc old new
quiets-polled ready old new polls =
    let quiet : LpcQuiet (calls_of polls.made.added) = record { statuses = polls.statuses; ready = ready; polled = polls.polled; made = polls.made.calls_are } in
    record { added = polls.made.added; grows = polls.made.grows; quiet = (polls.made.grows.calls, quiet) }
