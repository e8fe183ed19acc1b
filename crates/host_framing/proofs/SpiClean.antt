-- Undisturbed calls of a wire on SPI, and how much room a send takes.
use Rattle.std.proofs.Common.{◌≡◌, refl, sym, ap, ◌∙◌, subst, ℕ, ◌+◌, ◌-◌, ◌≤◌, List, [], ◌∷◌, ◌++◌, length, length-append, replicate, arith}
use Rattle.std.proofs.lemmas.List.{length-replicate}
use Rattle.ec_types.specs.Tables.{packet_limit}
use Rattle.ec_types.specs.declared.bus.BusKind.{BusKind}
use Rattle.ec_types.specs.declared.bus.BusKind.TheVariants.{Spi}
use Rattle.ec_model.specs.declared.event.Access.{Access}
use Rattle.ec_model.specs.declared.event.Access.TheVariants.{SpiSelect, SpiByte, SpiDeselect}
use Rattle.ec_model.specs.Packet.{response_packet}
use Rattle.ec_model.specs.HostCalls.{HostCall, Did, calls_of}
use Rattle.ec_model.specs.Heard.{Heard, spaced_reads, reads_in_row, spi_writes}
use Rattle.ec_model.specs.Send.{SendsBy}
use Rattle.ec_model.specs.Run.{IsRun}
use Rattle.ec_model.specs.Table.{Table, Awake, On, Valid, core_of}
use Rattle.ec_model.specs.Answer.{Answered}
use Rattle.ec_model.specs.Handle.{handled}
use Rattle.ec_wire.specs.Calls.{WireView, Agrees}
use Rattle.exchange_laws.specs.Calm.{CallsLead}
use Rattle.exchange_laws.specs.Served.{IsPlain, ServesPacket}
use Rattle.exchange_laws.specs.Transaction.{spi_transaction}
use Rattle.exchange_laws.proofs.Settled.{bus-facts}
use Rattle.exchange_laws.proofs.SpiSend.{spi-settled, spi-calm, spi-exchange, spi-quiet}
use Rattle.exchange_laws.proofs.SpiOff.{spi-off}
use Rattle.exchange_laws.proofs.SpiRests.{spi-rests as rests-behind}
use Rattle.host_framing.specs.Parts.{Sends, Quiets}
use Rattle.host_framing.specs.Clean.{ServesWhereCalm, SettlesWhereCalm, CausedWhereCalm, RestsBehind}
use Rattle.host_framing.specs.Room.{send_room, TakesWhereCalm}
use Rattle.host_framing.proofs.CleanLemmas.{changes-map, serves-calm, caused-calm, settles-calm}
use Rattle.host_framing.proofs.LpcRoom.{Counts, takes-calm}

-- an undisturbed send to a controller that is on
pub spi-serves : (packet : List ℕ) (heard : Heard) (old new : WireView) → old.bus ≡ Spi → IsPlain packet → length packet ≤ 544 → Sends Spi packet heard old new → ServesWhereCalm packet heard old new
spi-serves packet heard old new kind plain short sends =
    serves-calm Spi packet heard old new kind sends (λ told awake left valid on is lead. spi-calm told awake packet (calls_of sends.added) heard left valid on is plain short sends.sent.1 lead)

-- what an undisturbed send heard
pub spi-caused : (packet : List ℕ) (heard : Heard) (old new : WireView) → old.bus ≡ Spi → IsPlain packet → length packet ≤ 544 → Sends Spi packet heard old new → CausedWhereCalm heard old new
spi-caused packet heard old new kind plain short sends =
    caused-calm Spi packet heard old new kind sends (λ told awake left valid on is lead. spi-calm told awake packet (calls_of sends.added) heard left valid on is plain short sends.sent.1 lead)
    (λ told left off lead. spi-off told packet (calls_of sends.added) heard left off sends.sent.1 lead)

-- an undisturbed deselect
pub spi-settles : (old new : WireView) → old.bus ≡ Spi → Quiets Spi old new → SettlesWhereCalm old new
spi-settles old new kind quiets =
    settles-calm Spi old new kind quiets (λ told awake left valid on is lead. spi-quiet told awake (calls_of quiets.added) left valid on is quiets.quiet.1 lead)

-- no request waits behind a send
pub spi-rests : (packet : List ℕ) (heard : Heard) (old new : WireView) → old.bus ≡ Spi → Sends Spi packet heard old new → RestsBehind old new
spi-rests packet heard old new kind sends =
    changes-map _ _ old.table new.table (λ (told left : Table) (run : IsRun told sends.added left) (agrees : Agrees old.bus old.on told).
    rests-behind told sends.added packet heard left agrees.valid (agrees.kind_is ∙ kind) sends.sent.1 run) sends.grows.run

-- bytes that are sent
length-writes : (bytes gots : List ℕ) → length gots ≡ length bytes → length (spi_writes bytes gots) ≡ length bytes
length-writes [] gots each = refl
length-writes (byte ∷ bytes) [] each = absurd (omega (arith, each))
length-writes (byte ∷ bytes) (got ∷ gots) each = omega (arith, length-writes bytes gots (omega (arith, each)))

-- bytes that are got
length-reads : (access : Access) (bytes : List ℕ) → length (reads_in_row access bytes) ≡ length bytes
length-reads access [] = refl
length-reads access (byte ∷ bytes) = omega (arith, length-reads access bytes)

-- one answer for each byte of a request
each-got : (request : List ℕ) → 8 ≤ length request → length {A = ℕ} (0xF8 ∷ replicate (length request - 1) 0xF9) ≡ length request
each-got request long = omega (arith, long, length-replicate {A = ℕ} (length request - 1) 0xF9)

-- the calls of an exchange
length-transaction : (request response : List ℕ) → 8 ≤ length request → length (spi_transaction request response) ≡ send_room Spi (length request) (length response)
length-transaction request response long =
    let writes = spi_writes request (0xF8 ∷ replicate (length request - 1) 0xF9) in
    let first = Did SpiSelect 0 ∷ writes in
    let polls = spaced_reads (SpiByte 0) (0xFA ∷ 0xEC ∷ []) in
    let reads = reads_in_row (SpiByte 0) response in
    let stop : List HostCall = Did SpiDeselect 0 ∷ [] in
    sums (length writes) (length reads) (length (first ++ polls)) (length (first ++ polls ++ reads)) (length (first ++ polls ++ reads ++ stop)) (length request) (length response)
    (length-writes request (0xF8 ∷ replicate (length request - 1) 0xF9) (each-got request long)) (length-reads (SpiByte 0) response) (omega (arith, length-append first polls)) (length-append (first ++ polls) reads) (omega (arith, length-append (first ++ polls ++ reads) stop)) where
      sums : (writes reads one two all request response : ℕ) → writes ≡ request → reads ≡ response → one ≡ 1 + writes + 3 → two ≡ one + reads → all ≡ two + 1 → all ≡ request + response + 5
      sums writes reads one two all request response a b c d e = omega arith

-- the calls of an undisturbed send to a controller that is on
spi-counts : (packet : List ℕ) (heard : Heard) (calls : List HostCall) (told : Table) (awake : Awake) (left : Table) → Valid told → told.power ≡ On awake → told.kind ≡ Spi → IsPlain packet → length packet ≤ 544 → SendsBy Spi packet calls heard → CallsLead told calls left →
    ServesPacket packet told heard left → Counts Spi packet heard told calls
spi-counts packet heard calls told awake left valid on kind plain short sent lead serves =
    let reply = response_packet serves.status serves.body in
    let same : handled (core_of told serves.awake) 544 packet ≡ Answered serves.after serves.status serves.body = ap (λ (bus : BusKind). handled (core_of told serves.awake) (packet_limit bus) packet) (sym kind) ∙ serves.handled_is in
    let calls_are = spi-exchange told serves.awake packet calls heard left serves.after serves.status serves.body valid serves.on kind plain short sent lead same in
    record { response = reply; heard_is = serves.heard_is; size = ap (λ (xs : List HostCall). length xs) calls_are ∙ length-transaction packet reply plain.header ∙ no-more (send_room Spi (length packet) (length reply)) } where
      no-more : (n : ℕ) → n ≡ n + 0
      no-more n = omega arith

-- the room that an undisturbed send takes
pub spi-takes : (packet : List ℕ) (heard : Heard) (old new : WireView) → old.bus ≡ Spi → IsPlain packet → length packet ≤ 544 → Sends Spi packet heard old new → TakesWhereCalm packet heard old new
spi-takes packet heard old new kind plain short sends =
    takes-calm Spi packet heard old new kind sends (λ told awake left valid on is behind lead.
    let facts = bus-facts told awake valid on in
    let serves = spi-calm told awake packet (calls_of sends.added) heard left valid on is plain short sends.sent.1 lead in
    spi-counts packet heard (calls_of sends.added) told awake left valid on is plain short sends.sent.1 lead (subst (λ (t : Table). ServesPacket packet t heard left) (spi-settled told awake on (facts.kind ∙ is)) serves))
