-- An exchange on LPC is a send, and so is one with a changed byte.
use Rattle.std.proofs.Common.{◌≡◌, refl, sym, ap, ◌∙◌, ℕ, suc, ◌+◌, true, List, [], ◌∷◌, ◌++◌, map, length, replicate, slice_index, append_assoc}
use Rattle.ec_types.specs.declared.bus.BusKind.TheVariants.{Lpc}
use Rattle.ec_model.specs.declared.event.Access.TheVariants.{PortOut, PortIn}
use Rattle.ec_model.specs.declared.event.Event.{Event}
use Rattle.ec_model.specs.declared.event.Event.TheVariants.{Access, Tick}
use Rattle.ec_model.specs.declared.event.Entry.{Entry}
use Rattle.ec_model.specs.declared.event.Entry.TheVariants.{Step, Mark}
use Rattle.ec_model.specs.HostCalls.{HostCall, Did, Waited, calls_of, call_before, are_calls}
use Rattle.ec_model.specs.Heard.{Heard, Reply, Bad, is_all_read, reads_on, heard_if, heard_with, port_writes, port_reads, spaced_reads, waited_reads}
use Rattle.ec_model.specs.SendLpc.{LpcWasServed, status_in}
use Rattle.ec_model.specs.Send.{Send}
use Rattle.ec_examples.specs.Sends.{hello_request, changed_lpc, changed_twice, changed_beside_a_reset}
use Rattle.ec_examples.specs.Entries.{plain, written_ports, read_ports, lpc_asked, lpc_exchange, waited}

-- the calls of one entry, before others
call-append : (event : Event) (meant seen : ℕ) (calls more : List HostCall) → call_before event meant seen (calls ++ more) ≡ call_before event meant seen calls ++ more
call-append (Access access) meant seen calls more = refl
call-append Tick meant seen calls more = refl
call-append other meant seen calls more = refl

pub calls_of-append : (first second : List Entry) → calls_of (first ++ second) ≡ calls_of first ++ calls_of second
calls_of-append [] second = refl
calls_of-append (Step event answer meant seen hurt ∷ first) second =
    ap (call_before event meant seen) (calls_of-append first second) ∙ call-append event meant seen (calls_of first) (calls_of second)
calls_of-append (Mark line ∷ first) second = calls_of-append first second

calls_of-written : (port : ℕ) (bytes : List ℕ) → calls_of (written_ports port bytes) ≡ port_writes port bytes (map (λ byte. 0) bytes)
calls_of-written port [] = refl
calls_of-written port (byte ∷ bytes) = ap (λ (calls : List HostCall). Did (PortOut port byte) 0 ∷ calls) (calls_of-written (port + 1) bytes)

calls_of-read : (port : ℕ) (bytes : List ℕ) → calls_of (read_ports port bytes) ≡ port_reads port bytes
calls_of-read port [] = refl
calls_of-read port (byte ∷ bytes) = ap (λ (calls : List HostCall). Did (PortIn port) byte ∷ calls) (calls_of-read (port + 1) bytes)

length-zeros : (bytes : List ℕ) → length {A = ℕ} (map (λ byte. 0) bytes) ≡ length bytes
length-zeros [] = refl
length-zeros (byte ∷ bytes) = ap suc (length-zeros bytes)

-- calls behind calls are calls
calls-behind : (first second : List Entry) → are_calls first ≡ true → are_calls second ≡ true → are_calls (first ++ second) ≡ true
calls-behind [] second before behind = behind
calls-behind (Mark line ∷ first) second before behind = cc
calls-behind (Step event answer meant seen hurt ∷ []) [] before behind = before
calls-behind (Step event answer meant seen hurt ∷ []) (entry ∷ second) before behind = behind
calls-behind (Step event answer meant seen hurt ∷ entry ∷ first) second before behind = calls-behind (entry ∷ first) second before behind

written-are-calls : (port : ℕ) (bytes : List ℕ) → are_calls (written_ports port bytes) ≡ true
written-are-calls port [] = refl
written-are-calls port (byte ∷ []) = refl
written-are-calls port (byte ∷ next ∷ bytes) = written-are-calls (port + 1) (next ∷ bytes)

read-are-calls : (port : ℕ) (bytes : List ℕ) → are_calls (read_ports port bytes) ≡ true
read-are-calls port [] = refl
read-are-calls port (byte ∷ []) = refl
read-are-calls port (byte ∷ next ∷ bytes) = read-are-calls (port + 1) (next ∷ bytes)

-- an exchange ends in a call
exchange-is-calls : (request response : List ℕ) → are_calls (lpc_exchange request response) ≡ true
exchange-is-calls request response =
    calls-behind (lpc_asked request) (waited ∷ plain (Access (PortIn 0x204)) 1 ∷ plain (Access (PortIn 0x200)) (slice_index response 2) ∷ read_ports 0x800 response)
    (calls-behind (read_ports 0x204 (0 ∷ []) ++ written_ports 0x800 request) (written_ports 0x204 (0xDA ∷ []))
    (calls-behind (read_ports 0x204 (0 ∷ [])) (written_ports 0x800 request) refl (written-are-calls 0x800 request)) refl)
    (calls-behind (waited ∷ plain (Access (PortIn 0x204)) 1 ∷ plain (Access (PortIn 0x200)) (slice_index response 2) ∷ []) (read_ports 0x800 response) refl
    (read-are-calls 0x800 response))

-- the calls of what is sent
calls_of-asked : (request : List ℕ) → calls_of (lpc_asked request) ≡ spaced_reads status_in (0 ∷ []) ++ port_writes 0x800 request (map (λ byte. 0) request) ++ Did (PortOut 0x204 0xDA) 0 ∷ []
calls_of-asked request =
    ap (λ (calls : List HostCall). Did status_in 0 ∷ calls)
    (calls_of-append (written_ports 0x800 request) (written_ports 0x204 (0xDA ∷ []))
    ∙ ap (λ (calls : List HostCall). calls ++ Did (PortOut 0x204 0xDA) 0 ∷ []) (calls_of-written 0x800 request))

-- a response that is read whole, and heard
pub lpc_exchange-sent : (request response : List ℕ) → is_all_read (reads_on 248 response) response ≡ true
    → Reply response ≡ heard_if (reads_on 248 response) (heard_with (slice_index response 2) response)
    → Send Lpc (lpc_exchange request response) request (Reply response)
lpc_exchange-sent request response whole heard = (
  exchange-is-calls request response,
  LpcWasServed (record {
    first = calls_of (lpc_asked request);
    statuses = 1 ∷ [];
    outcome = slice_index response 2;
    bytes = response;
    asked = record { statuses = 0 ∷ []; gots = map (λ byte. 0) request; got = 0; idle = refl; each = length-zeros request; made = calls_of-asked request };
    idle = refl;
    whole = whole;
    made = calls_of-append (lpc_asked request) (waited ∷ plain (Access (PortIn 0x204)) 1 ∷ plain (Access (PortIn 0x200)) (slice_index response 2) ∷ read_ports 0x800 response)
        ∙ ap (λ (calls : List HostCall). calls_of (lpc_asked request) ++ Waited ∷ Did status_in 1 ∷ Did (PortIn 0x200) (slice_index response 2) ∷ calls) (calls_of-read 0x800 response)
        ∙ sym (append_assoc (calls_of (lpc_asked request)) (Waited ∷ Did status_in 1 ∷ []) (Did (PortIn 0x200) (slice_index response 2) ∷ port_reads 0x800 response));
    heard_is = heard;
  }),
)

-- the calls of a HELLO whose response was seen so
abbrev pub hello_calls : List ℕ → List HostCall
hello_calls bytes = calls_of (lpc_asked hello_request) ++ waited_reads status_in (1 ∷ []) ++ Did (PortIn 0x200) 0 ∷ port_reads 0x800 bytes

-- a HELLO whose response was seen so, and was heard so
pub hello-sent : (entries : List Entry) (bytes : List ℕ) (heard : Heard) → are_calls entries ≡ true → calls_of entries ≡ hello_calls bytes
    → is_all_read (reads_on 248 bytes) bytes ≡ true → heard ≡ heard_if (reads_on 248 bytes) (heard_with 0 bytes) → Send Lpc entries hello_request heard
hello-sent entries bytes heard ends made whole heard_is = (
  ends,
  LpcWasServed (record {
    first = calls_of (lpc_asked hello_request);
    statuses = 1 ∷ [];
    outcome = 0;
    bytes = bytes;
    asked = record { statuses = 0 ∷ []; gots = replicate 12 0; got = 0; idle = refl; each = refl; made = refl };
    idle = refl;
    whole = whole;
    made = made;
    heard_is = heard_is;
  }),
)

-- the response with a changed byte is read, and is none
pub changed-sent : Send Lpc changed_lpc hello_request Bad
changed-sent = hello-sent changed_lpc (0x03 ∷ 0x0F ∷ 0x00 ∷ 0x00 ∷ 0x04 ∷ 0x00 ∷ 0x00 ∷ 0x00 ∷ 0xD5 ∷ 0xC3 ∷ 0xB2 ∷ 0xA1 ∷ []) Bad refl refl refl refl

-- so is one that was cut short by a reset
pub beside-sent : Send Lpc changed_beside_a_reset hello_request Bad
beside-sent = hello-sent changed_beside_a_reset (0x03 ∷ 0x0F ∷ 0x00 ∷ 0x00 ∷ 0x04 ∷ 0x00 ∷ 0x00 ∷ 0x00 ∷ 0xD5 ∷ 0xC3 ∷ 0xB2 ∷ 0x00 ∷ []) Bad refl refl refl refl

-- two changed bytes are read, and leave a response
abbrev pub twice_bytes : List ℕ
twice_bytes = 0x03 ∷ 0x0F ∷ 0x00 ∷ 0x00 ∷ 0x04 ∷ 0x00 ∷ 0x00 ∷ 0x00 ∷ 0xD5 ∷ 0xC3 ∷ 0xB2 ∷ 0xA0 ∷ []

pub twice-sent : Send Lpc changed_twice hello_request (Reply twice_bytes)
twice-sent = hello-sent changed_twice twice_bytes (Reply twice_bytes) refl refl refl refl
