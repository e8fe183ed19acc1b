-- How much room an undisturbed send takes, and how much on LPC.
use Rattle.std.proofs.Common.{◌≡◌, refl, sym, ap, ◌∙◌, ℕ, ◌+◌, ◌≤◌, Bool, true, false, if◌then◌else◌, List, [], ◌∷◌, ◌++◌, length, length-append, replicate, arith}
use Rattle.std.proofs.lemmas.List.{length-replicate}
use Rattle.ec_types.specs.Tables.{packet_limit}
use Rattle.ec_types.specs.declared.bus.BusKind.{BusKind}
use Rattle.ec_types.specs.declared.bus.BusKind.TheVariants.{Lpc}
use Rattle.ec_model.specs.declared.event.Access.TheVariants.{PortOut, PortIn}
use Rattle.ec_model.specs.Packet.{response_packet}
use Rattle.ec_model.specs.Bus.{low_status}
use Rattle.ec_model.specs.HostCalls.{HostCall, Did, Waited, calls_of}
use Rattle.ec_model.specs.Heard.{Heard, Reply, spaced_reads, port_reads, port_writes}
use Rattle.ec_model.specs.SendLpc.{status_in}
use Rattle.ec_model.specs.Send.{SendsBy}
use Rattle.ec_model.specs.Syncable.{settled}
use Rattle.ec_model.specs.Run.{IsRun}
use Rattle.ec_model.specs.Table.{Table, Awake, On, Valid, core_of}
use Rattle.ec_model.specs.Answer.{Answered}
use Rattle.ec_model.specs.Handle.{handled}
use Rattle.ec_model.specs.Upset.{IsUndisturbed}
use Rattle.ec_wire.specs.Calls.{WireView, Agrees}
use Rattle.ec_model.proofs.RunLaws.{run-kind}
use Rattle.exchange_laws.specs.Calm.{CallsLead}
use Rattle.exchange_laws.specs.Exchange.{lpc_status_seen, first_statuses, lpc_exchange_calls}
use Rattle.exchange_laws.specs.Resting.{is_waiting}
use Rattle.exchange_laws.specs.Served.{IsPlain, ServesPacket}
use Rattle.exchange_laws.proofs.LpcExchange.{lpc-exchange}
use Rattle.exchange_laws.proofs.LpcSend.{lpc-calm}
use Rattle.host_framing.specs.Parts.{Sends}
use Rattle.host_framing.specs.Clean.{since}
use Rattle.host_framing.specs.Room.{send_room, waiting_room, TakesRoom, TakesWhereCalm}
use Rattle.host_framing.proofs.CleanLemmas.{OnOrOff, IsOff, IsOn, on-or-off, off-on, changes-map, lead-since}

-- the calls of a send that heard a response, counted
pub record Counts (bus : BusKind) (packet : List ℕ) (heard : Heard) (told : Table) (calls : List HostCall) : Type 0 where
  pub response : List ℕ
  pub heard_is : heard ≡ Reply response
  pub size : length calls ≡ send_room bus (length packet) (length response) + waiting_room bus (is_waiting told.power)

-- what is counted of a send to a controller that is on
abbrev pub CountsOn : BusKind → List ℕ → Heard → List HostCall → Type 0
CountsOn bus packet heard calls = (told : Table) (awake : Awake) (left : Table) → Valid told → told.power ≡ On awake → told.kind ≡ bus → left.kind ≡ bus → CallsLead told calls left → Counts bus packet heard told calls

-- each call takes one off the room
takes-counted : (bus : BusKind) (packet : List ℕ) (heard : Heard) (told : Table) (calls : List HostCall) (old new : WireView) → old.bus ≡ bus → new.spare + length calls ≡ old.spare → Counts bus packet heard told calls → TakesRoom packet heard told old new
takes-counted bus packet heard told calls old new kind room counts =
    rw (counts.heard_is, kind) (sums new.spare (send_room bus (length packet) (length counts.response)) (waiting_room bus (is_waiting told.power)) (length calls) old.spare counts.size room) where
      sums : (left sent waits taken all : ℕ) → taken ≡ sent + waits → left + taken ≡ all → left + sent + waits ≡ all
      sums left sent waits taken all is room = omega arith

-- the same by whether the controller is on
takes-by : (bus : BusKind) (packet : List ℕ) (heard : Heard) (told left : Table) (calls : List HostCall) (old new : WireView) → CountsOn bus packet heard calls → OnOrOff told → old.bus ≡ bus → left.kind ≡ bus → Agrees old.bus old.on told → old.on ≡ true → new.spare + length calls ≡ old.spare → CallsLead told calls left →
    TakesRoom packet heard told old new
takes-by bus packet heard told left calls old new law (IsOff off) kind same agrees on room lead = let dark = off-on old told off agrees in absurd (cc)
takes-by bus packet heard told left calls old new law (IsOn awake is) kind same agrees on room lead = takes-counted bus packet heard told calls old new kind room (law told awake left agrees.valid is (agrees.kind_is ∙ kind) same lead)

-- the same on a wire
pub takes-calm : (bus : BusKind) (packet : List ℕ) (heard : Heard) (old new : WireView) → old.bus ≡ bus → (sends : Sends bus packet heard old new) → CountsOn bus packet heard (calls_of sends.added) → TakesWhereCalm packet heard old new
takes-calm bus packet heard old new kind sends law =
    changes-map _ _ old.table new.table (λ (told left : Table) (run : IsRun told sends.added left) (agrees : Agrees old.bus old.on told) (on : old.on ≡ true) (calm : IsUndisturbed (since old new)).
    takes-by bus packet heard told left (calls_of sends.added) old new law (on-or-off told told.power refl) kind (run-kind told sends.added left agrees.valid run ∙ agrees.kind_is ∙ kind) agrees on sends.grows.room (lead-since sends.added old new told left sends.grows run calm)) sends.grows.run

-- reads of ports in a row
length-reads : (port : ℕ) (bytes : List ℕ) → length (port_reads port bytes) ≡ length bytes
length-reads port [] = refl
length-reads port (byte ∷ bytes) = omega (arith, length-reads (port + 1) bytes)

-- writes to ports in a row
length-writes : (port : ℕ) (bytes gots : List ℕ) → length gots ≡ length bytes → length (port_writes port bytes gots) ≡ length bytes
length-writes port [] gots each = refl
length-writes port (byte ∷ bytes) [] each = absurd (omega (arith, each))
length-writes port (byte ∷ bytes) (got ∷ gots) each = omega (arith, length-writes (port + 1) bytes gots (omega (arith, each)))

-- the looks before a request
length-first : (table : Table) → length (spaced_reads status_in (first_statuses table)) ≡ 1 + waiting_room Lpc (is_waiting table.power)
length-first table = by-test (is_waiting table.power) where
  by-test : (waits : Bool) → length (spaced_reads status_in (lpc_status_seen table ∷ (if waits then lpc_status_seen (settled table) ∷ [] else []))) ≡ 1 + waiting_room Lpc waits
  by-test true = refl
  by-test false = refl

-- the calls of an exchange
length-exchange : (table : Table) (request response : List ℕ) → length (lpc_exchange_calls (first_statuses table) request response) ≡ send_room Lpc (length request) (length response) + waiting_room Lpc (is_waiting table.power)
length-exchange table request response =
    let looks = spaced_reads status_in (first_statuses table) in
    let writes = port_writes 0x800 request (replicate (length request) 0) in
    let rest = Did (PortOut 0x204 0xDA) 0 ∷ Waited ∷ Did status_in 0x01 ∷ Did (PortIn 0x200) (low_status response) ∷ port_reads 0x800 response in
    let four : length rest ≡ 4 + length response = omega (arith, length-reads 0x800 response) in
    sums (length looks) (length writes) (length rest) (length (looks ++ writes)) (length (looks ++ writes ++ rest)) (waiting_room Lpc (is_waiting table.power)) (length request) (length response)
    (length-first table) (length-writes 0x800 request (replicate (length request) 0) (length-replicate {A = ℕ} (length request) 0)) four (length-append looks writes) (length-append (looks ++ writes) rest) where
      sums : (looks writes rest both all waits request response : ℕ) → looks ≡ 1 + waits → writes ≡ request → rest ≡ 4 + response → both ≡ looks + writes → all ≡ both + rest → all ≡ request + response + 5 + waits
      sums looks writes rest both all waits request response a b c d e = omega arith

-- the calls of an undisturbed send to a controller that is on
lpc-counts : (packet : List ℕ) (heard : Heard) (calls : List HostCall) (told left : Table) → Valid told → told.kind ≡ Lpc → left.kind ≡ Lpc → IsPlain packet → length packet ≤ 256 → SendsBy Lpc packet calls heard → CallsLead told calls left → ServesPacket packet (settled told) heard left →
    Counts Lpc packet heard told calls
lpc-counts packet heard calls told left valid kind behind plain short sent lead serves =
    let reply = response_packet serves.status serves.body in
    let same : handled (core_of (settled told) serves.awake) 256 packet ≡ Answered serves.after serves.status serves.body = ap (λ (bus : BusKind). handled (core_of (settled told) serves.awake) (packet_limit bus) packet) (sym behind ∙ serves.kind) ∙ serves.handled_is in
    let exchange = lpc-exchange told serves.awake packet calls heard left serves.after serves.status serves.body valid kind serves.on plain short sent lead same in
    record { response = reply; heard_is = serves.heard_is; size = ap (λ (xs : List HostCall). length xs) exchange.calls_are ∙ length-exchange told packet reply }

-- LPC: the room that an undisturbed send takes
pub lpc-takes : (packet : List ℕ) (heard : Heard) (old new : WireView) → old.bus ≡ Lpc → IsPlain packet → length packet ≤ 256 → Sends Lpc packet heard old new → TakesWhereCalm packet heard old new
lpc-takes packet heard old new kind plain short sends =
    takes-calm Lpc packet heard old new kind sends (λ told awake left valid on is behind lead.
    lpc-counts packet heard (calls_of sends.added) told left valid is behind plain short sends.sent.1 lead (lpc-calm told awake packet (calls_of sends.added) heard left valid on is plain short sends.sent.1 lead))
