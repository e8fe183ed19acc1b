-- One ask that nothing disturbs.
use Rattle.std.proofs.Common.{◌≡◌, refl, sym, ap, ◌∙◌, subst, ℕ, ◌+◌, ◌<◌, ◌≤◌, Bool, true, false, not, ◌&&◌, ◌==◌, if◌then◌else◌, List, length, arith}
use Rattle.std.proofs.lemmas.Bool.{eqb-true}
use Rattle.ec_types.specs.LittleEndian.{u16_at}
use Rattle.ec_types.specs.Tables.{packet_limit}
use Rattle.ec_types.specs.declared.bus.BusKind.{BusKind}
use Rattle.ec_model.specs.declared.event.Entry.{Entry}
use Rattle.ec_model.specs.Answer.{Answered}
use Rattle.ec_model.specs.Asks.{Setting, Got, NoReply, Status, Unsent, IsSent, unsent, send_room as least_room, packet_of, got, AsksBy, SendsOnce, Asks}
use Rattle.ec_model.specs.Handle.{handled}
use Rattle.ec_model.specs.Heard.{Reply}
use Rattle.ec_model.specs.HostCalls.{HostCall, HostView, calls_of}
use Rattle.ec_model.specs.Packet.{RequestView, response_packet}
use Rattle.ec_model.specs.Run.{IsRun}
use Rattle.ec_model.specs.Send.{Send}
use Rattle.ec_model.specs.Syncable.{settled}
use Rattle.ec_model.specs.Table.{Table, Core, core_of}
use Rattle.ec_model.proofs.RunLaws.{run-valid}
use Rattle.exchange_laws.specs.AnyBus.{exchange_calls}
use Rattle.exchange_laws.specs.Resting.{is_waiting}
use Rattle.exchange_laws.proofs.AnyBus.{exchange-of}
use Rattle.exchange_laws.proofs.Framed.{enough}
use Rattle.exchange_laws.proofs.QuietEntries.{quiet-calls}
use Rattle.exchange_laws.proofs.Response.{eq-true}
use Rattle.host_framing.specs.Room.{send_room, waiting_room}
use Rattle.command_laws.proofs.Parts.{exchange-length}
use Rattle.command_laws.specs.Commands.{Fits}
use Rattle.command_laws.specs.Standing.{IsAt, IsOpen, IsQuiet}

-- the host may send: there is power, and room
pub record CanSend (setting : Setting) (view : HostView) : Type 0 where
  pub on : view.on ≡ true
  pub room : setting.floor + least_room ≤ view.spare

-- nothing keeps the host from sending
pub is-sent : (setting : Setting) (view : HostView) → CanSend setting view → unsent view setting.floor ≡ IsSent
is-sent setting view can = rw (can.on, enough view.spare (setting.floor + least_room) can.room) refl

-- a response's status
status-read : (status : ℕ) (body : List ℕ) → status < 65536 → u16_at 2 (response_packet status body) ≡ status
status-read status body small = omega (arith, small)

-- a status by two tests
got-by : (status : ℕ) (body : List ℕ) (success fits : Bool) → (success ≡ true → fits ≡ true) → (if success && not fits then NoReply else Status status body) ≡ Status status body
got-by status body true true same = refl
got-by status body true false same = absurd (let e = same refl in cc)
got-by status body false fits same = refl

-- what a response comes to that has the bytes that are wanted
pub heard-got : (want status : ℕ) (body : List ℕ) → status < 65536 → (status ≡ 0 → length body ≡ want) → got want (Reply (response_packet status body)) ≡ Status status body
heard-got want status body small wanted =
    let read = status-read status body small in
    rw read (got-by status body (status == 0) (length body == want) (λ success. eq-true (length body) want (wanted (eqb-true status 0 success))))

-- a request is handled, and answered with a status that a reply can tell, and with the bytes that are wanted
pub record IsHandled (bus : BusKind) (request : RequestView) (want : ℕ) (core after : Core) (status : ℕ) (body : List ℕ) : Type 0 where
  pub is : handled core (packet_limit bus) (packet_of request) ≡ Answered after status body
  pub small : status < 65536
  pub wanted : status ≡ 0 → length body ≡ want

-- an ask that was answered so: the controller behind it, and the calls that it took
pub record IsTold (bus : BusKind) (request : RequestView) (after : Core) (status : ℕ) (body : List ℕ) (table : Table) (entries : List Entry) (end : Got) (last : Table) : Type 0 where
  pub end_is : end ≡ Status status body
  pub at : IsAt bus after last
  pub takes : length (calls_of entries) ≡ send_room bus (length (packet_of request)) (8 + length body) + waiting_room bus (is_waiting table.power)

-- one send of the request
pub sent-told : (bus : BusKind) (request : RequestView) (want : ℕ) (core after : Core) (status : ℕ) (body : List ℕ) (table : Table) (entries : List Entry) (end : Got) (last : Table) →
    IsOpen bus core table → Fits bus request → IsQuiet entries → IsRun table entries last → IsHandled bus request want core after status body → SendsOnce bus request want entries end → IsTold bus request after status body table entries end last
sent-told bus request want core after status body table entries end last open_ fits quiet run is sends =
    let packet = packet_of request in
    let response = response_packet status body in
    let kind = sym open_.kind_is in
    let same : handled (core_of (settled table) open_.awake) (packet_limit table.kind) packet ≡ Answered after status body =
    ap (λ (c : Core). handled c (packet_limit table.kind) packet) open_.core_is ∙ ap (λ (k : BusKind). handled core (packet_limit k) packet) open_.kind_is ∙ is.is in
    let exchange = exchange-of table open_.awake packet entries sends.heard last after status body open_.valid open_.on fits.plain (subst (λ (k : BusKind). length packet ≤ packet_limit k) kind fits.short)
    (subst (λ (k : BusKind). Send k entries packet sends.heard) kind sends.sent) run quiet.calm quiet.steps same in
    let calls : calls_of entries ≡ exchange_calls table packet response = ap (λ (xs : List Entry). calls_of xs) exchange.entries ∙ quiet-calls (exchange_calls table packet response) in
    let some : 1 ≤ length packet = omega (arith, fits.plain.header) in
    let sized : length response ≡ 8 + length body = omega arith in
    record {
      end_is = sends.end_is ∙ ap (got want) exchange.heard_is ∙ heard-got want status body is.small is.wanted;
      at = record { valid = run-valid table entries last open_.valid run; kind_is = exchange.kind ∙ open_.kind_is; leaves = exchange.leaves };
      takes = ap (λ (xs : List HostCall). length xs) calls ∙ exchange-length table.kind table packet response some ∙ ap (λ (k : BusKind). send_room k (length packet) (length response) + waiting_room k (is_waiting table.power)) open_.kind_is
          ∙ ap (λ (n : ℕ). send_room bus (length packet) n + waiting_room bus (is_waiting table.power)) sized;
    }

-- one ask, where the host may send
pub asks-calm : (setting : Setting) (request : RequestView) (want : ℕ) (view : HostView) (core after : Core) (status : ℕ) (body : List ℕ) (table : Table) (entries : List Entry) (end : Got) (last : Table) →
    IsOpen setting.bus core table → Fits setting.bus request → CanSend setting view → IsQuiet entries → IsRun table entries last → IsHandled setting.bus request want core after status body → Asks setting request want view entries end →
    IsTold setting.bus request after status body table entries end last
asks-calm setting request want view core after status body table entries end last open_ fits can quiet run is asks =
    sent-told setting.bus request want core after status body table entries end last open_ fits quiet run is
    (subst (λ (why : Unsent). AsksBy why setting.bus request want entries end) (is-sent setting view can) asks)
